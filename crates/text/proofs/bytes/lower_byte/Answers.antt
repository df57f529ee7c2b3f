use Rattle.std.proofs.Common.{◌∙◌}
use Rattle.text.proofs.Words.{lower_is}
use Rattle.text.proofs.bytes.lower_byte.Goals as goal

pub returns : goal.returns
returns c = c.to_ascii_lowercase.ensures.value ∙ lower_is _
