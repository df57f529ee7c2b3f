-- policy.rs: rules and postures. Assumes nothing: these are definitions.
use Rattle.text.specs.Text.{Text}
use Rattle.er7.specs.Path.{Path, as_path}
use Rattle.er7_redact.specs.Action.{Action, as_action}
use Rattle.er7_redact.specs.declared.policy.Rule.{Rule as HeldRule}
use Rattle.er7_redact.specs.declared.policy.Posture.{Posture as HeldPosture}
use Rattle.er7_redact.specs.declared.policy.Posture.TheVariants as Held

-- "A rule holds a path and one of eight actions"
pub record Rule : Type 0 where
  pub path : Path
  pub action : Action

-- the term "posture": a leaf that no rule names is accepted as it is, or rejected with an action
pub data Posture : Type 0 where
  accept : Posture
  reject : Action → Posture

-- the rule and the posture that a struct and an enum stand for in the policy's text t
unfoldable pub as_rule : Text → HeldRule → Rule
as_rule t r = record { path = as_path t r.path; action = as_action t r.action }

unfoldable pub as_posture : Text → HeldPosture → Posture
as_posture t Held.Accept = accept
as_posture t (Held.Reject a) = reject (as_action t a)
