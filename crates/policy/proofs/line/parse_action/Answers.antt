use Rattle.std.proofs.Common.{arith}
use Rattle.text.specs.Text.{between}
use Rattle.policy.proofs.Lines.{action_between}
use Rattle.policy.proofs.line.parse_action.Goals as goal

pub returns : goal.returns
unfolding between
returns c = action_between _ _ _ (omega arith) (omega arith) _ c.parse.ensures
