use Rattle.calendar.proofs.Digits.{Reading}
use Rattle.calendar.proofs.texts.eight_digits.Given as goal

abbrev pub invariant-loop-b : goal.invariant-loop-b
invariant-loop-b l = Reading l.b-items l.b-index l.n
