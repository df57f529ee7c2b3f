use Rattle.std.proofs.Common.{sym, ◌∙◌}
use Rattle.text.proofs.Words.{same_is}
use Rattle.text.proofs.bytes.same_bytes.Goals as goal

pub returns : goal.returns
returns c = c.eq.ensures ∙ sym (same_is _ _)
