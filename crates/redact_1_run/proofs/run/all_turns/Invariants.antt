use Rattle.std.proofs.Common.{Ok}
use Rattle.redact_4_leaf.specs.State.{buffers}
use Rattle.redact_1_run.proofs.Tasks.{rules_to}
use Rattle.redact_1_run.proofs.Course.{Taken}
use Rattle.redact_1_run.proofs.run.all_turns.Given as goal

abbrev pub invariant-loop-rule : goal.invariant-loop-rule
invariant-loop-rule l = Taken l.text l.segments l.on l.policy (buffers l.initial.named l.initial.leaves l.initial.store l.initial.report l.initial.bytes l.initial.known) l.initial.counters l.rule-index (rules_to l.text l.policy l.rule-index) (buffers l.named l.leaves l.store l.report l.bytes l.known) (Ok l.counters)
