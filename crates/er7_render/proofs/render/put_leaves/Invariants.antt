use Rattle.std.proofs.Common.{length}
use Rattle.er7_table.specs.Table.{leaf_row}
use Rattle.er7_render.specs.Inner.{leaf_text}
use Rattle.er7_render.proofs.Laws.{Joining}
use Rattle.er7_render.proofs.render.put_leaves.Given as goal

abbrev pub invariant-loop-leaf : goal.invariant-loop-leaf
invariant-loop-leaf l = Joining (λ i. leaf_text l.s l.header l.store (leaf_row l.leaves i)) 0 (length l.leaves) l.initial.out l.at l.leaf-index l.out l.k
