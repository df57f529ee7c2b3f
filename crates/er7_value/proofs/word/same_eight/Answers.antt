use Rattle.std.proofs.Common.{arith}
use Rattle.er7_value.proofs.Eights.{matching_start, matching_more, matching_end}
use Rattle.er7_value.proofs.word.same_eight.Goals as goal

pub loop-n-init : goal.loop-n-init
loop-n-init c = matching_start _ _ _ _

pub loop-n-preserved : goal.loop-n-preserved
loop-n-preserved c = matching_more _ _ _ _ (omega arith) (omega arith) c.loop-n.invariant (omega arith)

pub returns : goal.returns
returns c = matching_end _ _ _ _ c.loop-n.invariant (omega arith)
