use native.Mathlib.Omega.{arith}
use Rattle.er7.proofs.Paths.{step_end, step_no, step_yes}
use Rattle.er7.proofs.path.take_step.Goals as goal

pub returns-then-i-s : goal.returns-then-i-s
returns-then-i-s c = step_end _ _ c.if-i-s.true

pub returns-then-s-i-ne46 : goal.returns-then-s-i-ne46
returns-then-s-i-ne46 c = step_no _ _ (omega arith) c.if-s-i-ne46.true

pub returns : goal.returns
returns c = step_yes _ _ _ (omega arith) c.if-s-i-ne46.false c.take_index.ensures
