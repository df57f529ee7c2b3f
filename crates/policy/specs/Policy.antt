-- What the struct of a policy stands for. Assumes nothing: these are definitions.
use Rattle.std.specs.Prelude.{◌≡◌, List, map, ℕ, ◌≤◌, ◌<◌, length, get_or, Result, Ok, Err, IfOk}
use Rattle.text.specs.Text.{Text}
use Rattle.er7_redact.specs.Policy.{Rule, as_rule, as_posture}
use Rattle.er7_redact.specs.declared.policy.Rule.{Rule as HeldRule}
use Rattle.policy_model.specs.Policy.{Policy, PolicyRead, read, refused, read_policy}
use Rattle.policy.specs.declared.policy.Policy.{Policy as HeldPolicy}
use Rattle.policy.specs.Line.{as_unrecognised, RuleHeld, PostureHeld, UnrecognisedHeld}
use Rattle.refusal.specs.declared.Refused.{Refused}
use Rattle.refusal.specs.Limits.{RULES_MAX}

-- the rules, and the policy, in the policy's text t
unfoldable pub as_rules : Text → List HeldRule → List Rule
as_rules t rs = map (as_rule t) rs

unfoldable pub as_policy : Text → HeldPolicy → Policy
as_policy t p =
    record {
      rules = as_rules t p.rules;
      posture = as_posture t p.posture;
      unrecognised = as_unrecognised t p.unrecognised;
      sweep = p.sweep;
    }

unfoldable pub as_read : Text → Result HeldPolicy Refused → PolicyRead
as_read t (Ok p) = read (as_policy t p)
as_read t (Err e) = refused e.refusal e.line

-- the names and replacements of the rules lie in t
pub record RulesHeld (t : Text) (rs : List HeldRule) : Type 0 where
  pub each : (k : ℕ) (d : HeldRule) → k < length rs → RuleHeld t (get_or rs k d)

-- .. and those of the policy
pub record PolicyHeld (t : Text) (p : HeldPolicy) : Type 0 where
  pub few : length p.rules ≤ RULES_MAX
  pub rules : RulesHeld t p.rules
  pub posture : PostureHeld t p.posture
  pub unrecognised : UnrecognisedHeld t p.unrecognised

-- r is what the text t reads as
pub record PolicyIs (t : Text) (r : Result HeldPolicy Refused) : Type 0 where
  pub is : as_read t r ≡ read_policy t
  pub held : IfOk r (PolicyHeld t)
