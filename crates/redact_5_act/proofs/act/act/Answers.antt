use mathlib.Core.Path.{sym, ap, ◌∙◌}
use Rattle.text.proofs.Kept.{same_all}
use Rattle.text.proofs.Runs.{part_slice}
use Rattle.message_model.specs.Value.{is_empty_or_null}
use Rattle.redact_5_act.proofs.Acts.{acted_beside, beside_as, act_null, act_empty, act_value}
use Rattle.redact_5_act.proofs.act.act.Goals as goal

pub returns-then-is_null_action : goal.returns-then-is_null_action
returns-then-is_null_action c = acted_beside (act_null _ _ _ _ (sym (c.is_null_action.ensures _) ∙ c.if-is_null_action.true)) c.act_null.ensures

pub returns-then-is_empty_or_null : goal.returns-then-is_empty_or_null
returns-then-is_empty_or_null c = record { out = (act_empty _ _ _ _ (sym (c.is_null_action.ensures _) ∙ c.if-is_null_action.false) (ap is_empty_or_null (sym (part_slice _ _ _)) ∙ sym c.is_empty_or_null.ensures ∙ c.if-is_empty_or_null.true), same_all); beside = same_all }

pub returns : goal.returns
returns c = beside_as (act_value _ _ _ _ (sym (c.is_null_action.ensures _) ∙ c.if-is_null_action.false) (ap is_empty_or_null (sym (part_slice _ _ _)) ∙ sym c.is_empty_or_null.ensures ∙ c.if-is_empty_or_null.false)) same_all same_all c.act_value.ensures
