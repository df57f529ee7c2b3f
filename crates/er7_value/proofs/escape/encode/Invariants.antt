use Rattle.er7_value.proofs.Encoding.{Encoding}
use Rattle.er7_value.proofs.escape.encode.Given as goal

abbrev pub invariant-loop-b : goal.invariant-loop-b
invariant-loop-b l = Encoding l.s l.v l.initial.out l.at l.b-index l.out l.k
