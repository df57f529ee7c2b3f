use Rattle.text.specs.Text.{between}
use Rattle.text.proofs.Runs.{run_between}
use native.Mathlib.Omega.{arith}
use Rattle.text.proofs.bytes.run_to.Goals as goal

pub returns : goal.returns
unfolding between
returns c = run_between _ _ _ _ _ (omega arith) (omega arith) c.run_end.ensures
