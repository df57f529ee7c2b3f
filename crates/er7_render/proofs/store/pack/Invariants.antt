use Rattle.std.proofs.Common.{◌≡◌, length}
use Rattle.er7_render.proofs.Packing.{Packing}
use Rattle.er7_render.proofs.store.pack.Given as goal

abbrev pub invariant-loop-i : goal.invariant-loop-i
invariant-loop-i l = Packing l.initial.leaves l.store l.n l.i l.leaves l.spare l.at × (length l.spare ≡ length l.initial.spare)
