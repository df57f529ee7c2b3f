use Rattle.gateway.proofs.Laws.{returned_text}
use Rattle.gateway.proofs.er7_append.Goals as goal

pub returns : goal.returns
returns c = returned_text _ _ _ c.append-merged.ensures
