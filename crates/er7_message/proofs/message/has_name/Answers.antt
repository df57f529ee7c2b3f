use Rattle.std.proofs.Common.{◌∙◌}
use Rattle.er7_message.proofs.Names.{starts_same}
use Rattle.er7_message.proofs.message.has_name.Goals as goal

pub returns : goal.returns
returns c = c.starts_with.ensures.value ∙ starts_same _ _
