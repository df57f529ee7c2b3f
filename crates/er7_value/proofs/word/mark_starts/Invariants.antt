use Rattle.er7_value.proofs.Starts.{Marking}
use Rattle.er7_value.proofs.word.mark_starts.Given as goal

abbrev pub invariant-loop-b : goal.invariant-loop-b
invariant-loop-b l = Marking l.t l.b-index l.after l.starts
