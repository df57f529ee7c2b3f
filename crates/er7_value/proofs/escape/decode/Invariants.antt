use Rattle.std.proofs.Common.{◌-◌, length}
use Rattle.er7_value.proofs.Decoding.{Decoding}
use Rattle.er7_value.proofs.escape.decode.Given as goal

abbrev pub invariant-loop-i : goal.invariant-loop-i
invariant-loop-i l = Decoding l.s l.text l.initial.out l.at l.i l.out l.k

abbrev pub decreases-loop-i : goal.decreases-loop-i
decreases-loop-i l = length l.text - l.i
