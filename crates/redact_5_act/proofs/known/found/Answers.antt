use Rattle.std.proofs.Common.{rules, arith, refl, sym, ◌∙◌}
use Rattle.text.specs.Text.{between}
use Rattle.er7_value.proofs.Starts.{none_marked}
use Rattle.redact_5_act.proofs.Knowing.{row_none, picked_before, picked_here}
use Rattle.redact_5_act.proofs.known.found.Goals as goal

pub mark_starts-requires : goal.mark_starts-requires
mark_starts-requires c = none_marked 256

pub loop-k-init : goal.loop-k-init
loop-k-init c = (row_none, refl)

pub has_value-requires : goal.has_value-requires
unfolding between
has_value-requires c = (c.requires.0.slot _ (omega arith), c.requires.1, c.requires.2, c.mark_starts.ensures)

pub loop-k-preserved-then-has_value : goal.loop-k-preserved-then-has_value
loop-k-preserved-then-has_value c = (picked_here (search rules) c.requires.0 (omega arith) (omega arith) c.loop-k.invariant (sym c.has_value.ensures ∙ c.if-has_value.true), refl)

pub loop-k-preserved : goal.loop-k-preserved
loop-k-preserved c = (picked_before (search rules) c.requires.0 (omega arith) (omega arith) c.loop-k.invariant (sym c.has_value.ensures ∙ c.if-has_value.false), c.loop-k.invariant.1)
