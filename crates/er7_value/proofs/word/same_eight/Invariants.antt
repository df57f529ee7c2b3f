use Rattle.er7_value.proofs.Eights.{Matching}
use Rattle.er7_value.proofs.word.same_eight.Given as goal

abbrev pub invariant-loop-n : goal.invariant-loop-n
invariant-loop-n l = Matching l.v l.j l.t l.k l.n l.alike
