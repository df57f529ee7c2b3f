use Rattle.er7_table.specs.Table.{as_label}
use Rattle.redact_2_turn.specs.Ordered.{Skipped}
use Rattle.redact_2_turn.proofs.turn.next_leaf.Given as goal

abbrev pub invariant-loop-i : goal.invariant-loop-i
invariant-loop-i l = Skipped l.aim (as_label l.g) l.named l.leaves l.from l.i
