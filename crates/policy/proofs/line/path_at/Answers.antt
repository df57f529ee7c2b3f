use Rattle.std.proofs.Common.{arith}
use Rattle.text.specs.Text.{between}
use Rattle.policy.proofs.Lines.{path_between}
use Rattle.policy.proofs.line.path_at.Goals as goal

pub returns : goal.returns
unfolding between
returns c = path_between _ _ _ (omega arith) (omega arith) _ c.parse.ensures
