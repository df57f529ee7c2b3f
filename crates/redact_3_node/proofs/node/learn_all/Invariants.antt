use Rattle.redact_3_node.proofs.Lessons.{LearntBefore}
use Rattle.redact_3_node.proofs.node.learn_all.Given as goal

abbrev pub invariant-loop-i : goal.invariant-loop-i
invariant-loop-i l = LearntBefore l.a l.on.separators l.on.sweep l.first l.end l.leaves l.store l.initial.bytes l.initial.known l.initial.counters l.bytes l.known l.counters l.i
