use mathlib.Core.Path.{sym, ◌∙◌}
use Rattle.redact_5_act.proofs.Knowing.{not_marked, has_unmarked, has_shorter, has_long}
use native.Mathlib.Omega.{arith}
use Rattle.redact_5_act.proofs.known.has_value.Goals as goal

pub returns-then-not-may_have : goal.returns-then-not-may_have
returns-then-not-may_have c = sym (has_unmarked _ _ _ _ (sym (not_marked _ c.requires.0 c.requires.3 (sym c.may_have.ensures ∙ c.if-not-may_have.true))))

pub returns-then-v-least : goal.returns-then-v-least
returns-then-v-least c = sym (has_shorter _ _ _ _ c.if-v-least.true)

pub returns : goal.returns
returns c = c.has_word.ensures ∙ has_long _ _ _ _ (omega arith)
