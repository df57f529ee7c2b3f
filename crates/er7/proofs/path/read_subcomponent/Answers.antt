use Rattle.er7.specs.Path.{read_subcomponent}
use Rattle.er7.proofs.Paths.{subcomponent_found, subcomponent_left, then_refused}
use Rattle.er7.proofs.path.read_subcomponent.Goals as goal

pub returns-in_err-subcomponent : goal.returns-in_err-subcomponent
unfolding read_subcomponent
returns-in_err-subcomponent c = rw c.from_residual.ensures (then_refused _ c.in_err-subcomponent.ensures)

pub returns-then-r-s : goal.returns-then-r-s
returns-then-r-s c = subcomponent_left _ _ _ _ c.in_ok-subcomponent.ensures c.if-r-s.true

pub returns : goal.returns
returns c = subcomponent_found _ _ _ _ c.in_ok-subcomponent.ensures c.if-r-s.false
