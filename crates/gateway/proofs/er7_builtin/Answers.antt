use Rattle.gateway.proofs.Laws.{returned_text}
use Rattle.gateway.proofs.er7_builtin.Goals as goal

pub returns : goal.returns
returns c = returned_text _ _ _ c.builtin-named.ensures
