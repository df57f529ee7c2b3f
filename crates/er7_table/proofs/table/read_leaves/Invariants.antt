use Rattle.er7_table.proofs.Reading.{Going}
use Rattle.er7_table.proofs.table.read_leaves.Given as goal

abbrev pub invariant-loop-n : goal.invariant-loop-n
invariant-loop-n l = Going l.s l.text l.from l.initial.p l.n0 l.initial.leaves l.i l.n l.p l.leaves
