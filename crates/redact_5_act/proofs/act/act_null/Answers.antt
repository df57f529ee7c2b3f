use mathlib.Core.Path.{sym, ap, ◌∙◌}
use Rattle.text.proofs.Kept.{same_all}
use Rattle.text.proofs.Runs.{part_slice}
use Rattle.message_model.specs.Value.{is_null}
use Rattle.redact_5_act.proofs.Acts.{acted_as, nulled_null, nulled_other}
use Rattle.redact_5_act.proofs.act.act_null.Goals as goal

pub returns-then-is_null : goal.returns-then-is_null
returns-then-is_null c = record { out = (nulled_null _ (ap is_null (sym (part_slice _ _ _)) ∙ sym c.is_null.ensures ∙ c.if-is_null.true), same_all) }

pub returns : goal.returns
returns c = acted_as (nulled_other _ (ap is_null (sym (part_slice _ _ _)) ∙ sym c.is_null.ensures ∙ c.if-is_null.false)) c.put_null.ensures
