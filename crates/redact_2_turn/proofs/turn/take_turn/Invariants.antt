use Rattle.redact_4_leaf.specs.State.{buffers}
use Rattle.redact_2_turn.proofs.Idle.{left}
use Rattle.redact_2_turn.proofs.Visiting.{Coming}
use Rattle.redact_2_turn.proofs.turn.take_turn.Given as goal

abbrev pub invariant-loop-next : goal.invariant-loop-next
invariant-loop-next l = Coming l.text l.job l.segments (buffers l.initial.named l.initial.leaves l.initial.store l.initial.report l.initial.bytes l.initial.known) l.initial.counters l.next (buffers l.named l.leaves l.store l.report l.bytes l.known) l.counters

abbrev pub decreases-loop-next : goal.decreases-loop-next
decreases-loop-next l = left l.job.on.segments l.next
