use Rattle.er7.specs.Path.{read_component}
use Rattle.er7.proofs.Paths.{then_taken, then_refused}
use Rattle.er7.proofs.path.read_component.Goals as goal

pub returns-in_err-component : goal.returns-in_err-component
unfolding read_component
returns-in_err-component c = rw c.from_residual.ensures (then_refused _ c.in_err-component.ensures)

pub returns : goal.returns
unfolding read_component
returns c = then_taken _ c.in_ok-component.ensures c.read_subcomponent.ensures
