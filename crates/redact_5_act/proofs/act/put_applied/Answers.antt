use Rattle.std.proofs.Common.{refl}
use mathlib.Core.Path.{sym, ◌∙◌}
use Rattle.text.specs.Text.{between}
use Rattle.text.proofs.Kept.{same_all}
use Rattle.redact_5_act.specs.Inner.{decoded_at}
use Rattle.redact_5_act.proofs.Acts.{replaced_none, replaced_some, applied_over, applied_fits, decoded_short, beside_as}
use Rattle.redact_5_act.proofs.act.put_applied.Goals as goal

pub returns-then-is_over : goal.returns-then-is_over
unfolding decoded_at between
returns-then-is_over c = record { out = (refl, applied_over _ _ _ (sym (c.applied_len.ensures _ _ c.requires.0) ∙ c.in-Some.is) (decoded_short c.requires.2) c.requires.1 (sym c.is_over.ensures ∙ c.if-is_over.true)); beside = same_all }

pub put_value-requires : goal.put_value-requires
unfolding decoded_at between
put_value-requires c = (c.requires.0, c.requires.1, c.requires.2, applied_fits _ (sym (c.applied_len.ensures _ _ c.requires.0) ∙ c.in-Some.is) (sym c.is_over.ensures ∙ c.if-is_over.false))

pub returns-in-None : goal.returns-in-None
unfolding decoded_at between
returns-in-None c = record { out = (replaced_none _ _ _ (sym (c.applied_len.ensures _ _ c.requires.0) ∙ c.in-None.is), same_all); beside = same_all }

pub returns-else-is_over : goal.returns-else-is_over
unfolding decoded_at between
returns-else-is_over c = beside_as (replaced_some _ _ _ (sym (c.applied_len.ensures _ _ c.requires.0) ∙ c.in-Some.is)) same_all same_all c.put_value.ensures
