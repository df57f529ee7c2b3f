use Rattle.std.proofs.Common.{arith}
use Rattle.std.proofs.lemmas.Grind.{common_steps}
use Rattle.er7_message.proofs.Names.{name_is}
use Rattle.er7_message.proofs.message.is_name.Goals as goal

pub returns : goal.returns
returns c = grind (arith, common_steps, name_is)
