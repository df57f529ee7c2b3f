use Rattle.text.proofs.Decimals.{Reading}
use Rattle.text.proofs.decimal.leading.Given as goal

abbrev pub invariant-loop-j : goal.invariant-loop-j
invariant-loop-j l = Reading l.s l.j l.n
