use Rattle.std.proofs.Common.{arith}
use Rattle.refusal.proofs.Foreign.{tested_none, tested_more, tested_all}
use Rattle.refusal.proofs.input.no_foreign.Goals as goal

pub loop-i-init : goal.loop-i-init
loop-i-init c = tested_none _ _

pub loop-i-preserved : goal.loop-i-preserved
loop-i-preserved c = tested_more c.loop-i.invariant (omega arith) c.is_allowed_at-fine.ensures

pub returns : goal.returns
returns c = tested_all c.loop-i.invariant (omega arith)
