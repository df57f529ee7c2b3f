use Rattle.std.proofs.Common.{arith}
use Rattle.er7_table.proofs.Reading.{going_start, going_full, going_room, going_last, going_next}
use Rattle.er7_table.proofs.table.read_leaves.Goals as goal

pub loop-n-init : goal.loop-n-init
loop-n-init c = going_start _ _ _ _ _ _ (omega arith) (omega arith) (omega arith) c.requires.4

pub put_leaf-requires : goal.put_leaf-requires
put_leaf-requires c = going_room c.loop-n.invariant c.requires.3 (omega arith)

pub returns-then-e-text : goal.returns-then-e-text
returns-then-e-text c = going_last c.loop-n.invariant c.leaf_end-e.ensures c.put_leaf.ensures (omega arith) c.if-e-text.true

pub loop-n-preserved : goal.loop-n-preserved
loop-n-preserved c = going_next c.loop-n.invariant c.leaf_end-e.ensures c.put_leaf.ensures (omega arith) (omega (arith, c.leaf_end-e.ensures.high, c.if-e-text.false)) c.next-p.ensures

pub returns : goal.returns
returns c = going_full c.loop-n.invariant (omega arith)
