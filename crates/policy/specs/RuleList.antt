-- A rule put behind others. Assumes nothing: these are definitions.
use Rattle.std.specs.Prelude.{◌≡◌, List, [], ◌∷◌, ◌++◌, ◌≤◌, ◌<◌, length, Result, MatchResult}
use Rattle.er7_redact.specs.declared.policy.Rule.{Rule as HeldRule}
use Rattle.er7_redact.specs.declared.action.Action.TheVariants.{Keep}
use Rattle.refusal.specs.declared.Refusal.{Refusal}
use Rattle.refusal.specs.declared.Refusal.TheVariants.{TooMany}
use Rattle.refusal.specs.Limits.{RULES_MAX}

-- a rule that does nothing, for the places behind the last rule
abbrev pub no_rule : HeldRule
no_rule =
    record {
      path = record { segment = 0; segment_len = 0; segment_occurrence = 0; field = 0; repetition = 0; component = 0; subcomponent = 0 };
      action = Keep;
    }

-- the rule r was put behind the rules rs, which left rs'; or there are as many as may be
abbrev pub Pushed : List HeldRule → HeldRule → List HeldRule → Result (Unit {0}) Refusal → Type 0
Pushed rs r rs' s = MatchResult s (λ _. (length rs < RULES_MAX) × (rs' ≡ rs ++ (r ∷ []))) (λ e. (e ≡ TooMany) × (RULES_MAX ≤ length rs) × (rs' ≡ rs))
