use native.Mathlib.Omega.{arith}
use Prim.Native.Nat.{◌-◌}
use Rattle.redact_3_node.proofs.Nodes.{adding_start, adding_fits, adding_more, adding_end}
use Rattle.er7_render.proofs.Sums.{sum_each}
use Rattle.redact_3_node.proofs.node.leaves_size.Goals as goal

pub loop-i-init : goal.loop-i-init
loop-i-init c = adding_start c.requires.0

pub leaf_size-sum-requires : goal.leaf_size-sum-requires
leaf_size-sum-requires c = (omega arith, omega (arith, sum_each c.args.leaves.now c.args.first (c.args.end - c.args.first) c.loop-i.i c.loop-i.invariant.low (omega arith), c.requires.2))

pub overflow_add-sum : goal.overflow_add-sum
overflow_add-sum c = omega (arith, adding_fits c.loop-i.invariant (omega arith) c.requires.2, c.leaf_size-sum.ensures)

pub loop-i-preserved : goal.loop-i-preserved
loop-i-preserved c = rw c.leaf_size-sum.ensures (adding_more c.loop-i.invariant (omega arith))

pub returns : goal.returns
returns c = adding_end c.loop-i.invariant (omega arith)
