use Rattle.er7.specs.Path.{read_repetition}
use Rattle.er7.proofs.Paths.{then_taken, then_refused}
use Rattle.er7.proofs.path.read_repetition.Goals as goal

pub returns-in_err-repetition : goal.returns-in_err-repetition
unfolding read_repetition
returns-in_err-repetition c = rw c.from_residual.ensures (then_refused _ c.in_err-repetition.ensures)

pub returns : goal.returns
unfolding read_repetition
returns c = then_taken _ c.in_ok-repetition.ensures c.read_component.ensures
