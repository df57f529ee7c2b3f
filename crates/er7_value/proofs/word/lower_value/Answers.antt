use Rattle.er7_value.proofs.Lowering.{wrote_lower}
use Rattle.er7_value.proofs.word.lower_value.Goals as goal

pub returns : goal.returns
returns c = wrote_lower c.value-end.ensures c.lower_part.ensures
