use Rattle.policy.proofs.Lines.{Trimming}
use Rattle.policy.proofs.line.trimmed_end.Given as goal

abbrev pub invariant-loop-j : goal.invariant-loop-j
invariant-loop-j l = Trimming l.text l.i l.e l.j
