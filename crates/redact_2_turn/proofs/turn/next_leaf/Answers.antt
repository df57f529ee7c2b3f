use Rattle.std.proofs.Common.{arith, sym, ◌∙◌}
use Rattle.redact_4_leaf.specs.State.{marked}
use Rattle.redact_2_turn.proofs.Aims.{works_other}
use Rattle.redact_2_turn.proofs.Idle.{skipped_more, skipped_rest}
use Rattle.redact_2_turn.proofs.turn.next_leaf.Goals.{then-index_fits+else-works_on, else-index_fits+else-is_behind}
use Rattle.redact_2_turn.proofs.turn.next_leaf.Goals as goal

pub returns-then-works_on : goal.returns-then-works_on
unfolding marked
returns-then-works_on c = (c.loop-i.invariant, omega arith, sym c.works_on.ensures ∙ c.if-works_on.true)

pub returns-then-is_behind : goal.returns-then-is_behind
returns-then-is_behind c = skipped_rest _ _ _ _ c.loop-i.invariant c.requires.3 (omega arith) (rw c.field_of-field.ensures at (sym c.is_behind.ensures ∙ c.if-is_behind.true))

pub loop-i-preserved : goal.loop-i-preserved
unfolding marked
loop-i-preserved c =
    skipped_more _ _ _ _ c.loop-i.invariant
    (elim c.if-index_fits.branch [
      | then-index_fits+else-works_on w ↦ sym w.works_on.ensures ∙ w.if-works_on.false
      | else-index_fits+else-is_behind w ↦ works_other _ _ _ _ (rw c.field_of-field.ensures at (sym c.index_fits.ensures ∙ w.if-index_fits.false))
    ])
