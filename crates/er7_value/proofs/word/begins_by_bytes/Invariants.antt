use Rattle.er7_value.proofs.Hits.{Fitting}
use Rattle.er7_value.proofs.word.begins_by_bytes.Given as goal

abbrev pub invariant-loop-j : goal.invariant-loop-j
invariant-loop-j l = Fitting l.v l.t l.i l.j
