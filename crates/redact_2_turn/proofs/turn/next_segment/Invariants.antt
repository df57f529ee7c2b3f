use Rattle.redact_2_turn.specs.Ordered.{SegmentsSkipped}
use Rattle.redact_2_turn.proofs.turn.next_segment.Given as goal

abbrev pub invariant-loop-k : goal.invariant-loop-k
invariant-loop-k l = SegmentsSkipped l.aim l.segments l.from l.k
