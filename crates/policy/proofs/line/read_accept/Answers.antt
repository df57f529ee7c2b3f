use Rattle.std.proofs.Common.{arith}
use Rattle.policy.proofs.Lines.{accept_bare, accept_more}
use Rattle.policy.proofs.line.read_accept.Goals as goal

pub returns-then-i-e : goal.returns-then-i-e
returns-then-i-e c = accept_bare _ _ _ c.if-i-e.true

pub returns : goal.returns
returns c = accept_more _ _ _ (omega arith) (omega arith)
