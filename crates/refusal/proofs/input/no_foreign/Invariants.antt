use Rattle.refusal.proofs.Foreign.{Tested}
use Rattle.refusal.proofs.input.no_foreign.Given as goal

abbrev pub invariant-loop-i : goal.invariant-loop-i
invariant-loop-i l = Tested l.input l.text l.fine l.i
