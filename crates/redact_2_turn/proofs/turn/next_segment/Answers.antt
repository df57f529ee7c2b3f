use Rattle.std.proofs.Common.{arith, sym, ◌∙◌}
use Rattle.er7_table.specs.Table.{name_at, label_at, as_label}
use Rattle.redact_2_turn.proofs.Idle.{segments_more}
use Rattle.redact_2_turn.proofs.turn.next_segment.Goals as goal

pub returns-then-enters : goal.returns-then-enters
unfolding label_at name_at as_label
returns-then-enters c = (c.loop-k.invariant, omega arith, sym c.enters.ensures ∙ c.if-enters.true)

pub loop-k-preserved : goal.loop-k-preserved
unfolding label_at name_at as_label
loop-k-preserved c = segments_more _ _ c.loop-k.invariant (sym c.enters.ensures ∙ c.if-enters.false)
