use Rattle.std.proofs.Common.{sym, ◌∙◌}
use Rattle.text.proofs.Laws.{and_false}
use Rattle.redact_2_turn.specs.Turn.{works, looks_at}
use Rattle.redact_2_turn.proofs.Aims.{works_unnamed, works_elsewhere}
use Rattle.redact_2_turn.proofs.turn.works_on.Goals as goal

pub returns-then-index_fits : goal.returns-then-index_fits
unfolding works looks_at
returns-then-index_fits c = sym (rw (c.in-Reached.is, ← c.is_touched.ensures, ← c.reaches_place.ensures _))

pub returns-else-index_fits : goal.returns-else-index_fits
returns-else-index_fits c = c.if-index_fits.false ∙ sym (rw c.in-Reached.is (works_elsewhere _ _ _ _ _ (sym c.index_fits.ensures ∙ c.if-index_fits.false)))

pub returns-in-Unnamed : goal.returns-in-Unnamed
returns-in-Unnamed c = rw (c.in-Unnamed.is, c.is_touched-in-Unnamed.ensures) (sym (works_unnamed _ _ _ _))

pub returns-in-Nothing : goal.returns-in-Nothing
unfolding works looks_at
returns-in-Nothing c = sym (rw c.in-Nothing.is (and_false _))
