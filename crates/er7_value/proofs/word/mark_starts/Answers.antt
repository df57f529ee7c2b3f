use Rattle.std.proofs.Common.{arith, rules}
use Rattle.er7_value.proofs.Starts.{marking_start, marking_more, marking_end}
use Rattle.er7_value.proofs.word.mark_starts.Goals as goal

pub loop-b-init : goal.loop-b-init
loop-b-init c = marking_start _ (search rules) c.requires

pub loop-b-preserved : goal.loop-b-preserved
loop-b-preserved c = marking_more c.loop-b.invariant c.loop-b-test.true (omega (arith, c.type_inv.t c.loop-b.b-index)) c.is_in-after.ensures

pub returns : goal.returns
returns c = marking_end c.loop-b.invariant (omega arith)
