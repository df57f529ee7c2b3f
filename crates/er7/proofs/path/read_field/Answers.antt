use Rattle.er7.specs.Path.{read_field}
use Rattle.er7.proofs.Paths.{then_taken, then_refused}
use Rattle.er7.proofs.path.read_field.Goals as goal

pub returns-in_err-field : goal.returns-in_err-field
unfolding read_field
returns-in_err-field c = rw c.from_residual.ensures (then_refused _ c.in_err-field.ensures)

pub returns : goal.returns
unfolding read_field
returns c = then_taken _ c.in_ok-field.ensures c.read_repetition.ensures
