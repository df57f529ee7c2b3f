use Rattle.std.proofs.Common.{arith}
use Rattle.policy.proofs.Lines.{hands_on, reject_bare, reject_right, reject_wrong}
use Rattle.policy.proofs.line.read_reject.Goals as goal

pub returns-then-i-e : goal.returns-then-i-e
returns-then-i-e c = reject_bare _ _ _ c.if-i-e.true

pub returns-in_err-a : goal.returns-in_err-a
returns-in_err-a c = hands_on _ c.from_residual.ensures.1 (reject_wrong _ _ _ (omega arith) (omega arith) c.in_err-a.ensures)

pub returns : goal.returns
returns c = reject_right _ _ _ (omega arith) (omega arith) c.in_ok-a.ensures c.rejecting.ensures
