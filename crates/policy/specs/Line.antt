-- What the enums of a policy's line stand for. Assumes nothing: these are definitions.
use Rattle.std.specs.Prelude.{◌≡◌, ℕ, ◌≤◌, Option as HeldOption, Some, None, IfSome, Result, Ok, Err, IfOk}
use Rattle.std.proofs.Math.Option.{Option, none, some}
use Rattle.text.specs.Text.{Text, between}
use Rattle.text.specs.Characters.{trim_end}
use Rattle.er7.specs.Path.{Path, as_path, PathHeld}
use Rattle.er7.specs.declared.path.Path.{Path as HeldPath}
use Rattle.er7_redact.specs.Action.{ActionRead, is_action, no_action, as_action, ActionHeld}
use Rattle.er7_redact.specs.declared.action.Action.{Action as HeldAction}
use Rattle.er7_redact.specs.Policy.{as_rule, as_posture}
use Rattle.er7_redact.specs.declared.policy.Rule.{Rule as HeldRule}
use Rattle.er7_redact.specs.declared.policy.Posture.{Posture as HeldPosture}
use Rattle.er7_redact.specs.declared.policy.Posture.TheVariants as Postures
use Rattle.refusal.specs.declared.Refusal.{Refusal}
use Rattle.policy_model.specs.Policy.{Unrecognised, pass, refuse, apply, LineRead, nothing, rule, posture, unrecognised, sweep, wrong, LineKind, accept_kind, reject_kind, unrecognised_kind, known_values_kind, star_kind, path_kind, rejecting, applying}
use Rattle.policy.specs.declared.line.Unrecognised.{Unrecognised as HeldUnrecognised}
use Rattle.policy.specs.declared.line.Unrecognised.TheVariants as Held
use Rattle.policy.specs.declared.line.LineRead.{LineRead as HeldLine}
use Rattle.policy.specs.declared.line.LineRead.TheVariants as LineReads
use Rattle.policy.specs.declared.line.LineKind.{LineKind as HeldLineKind}
use Rattle.policy.specs.declared.line.LineKind.TheVariants as LineKinds

unfoldable pub as_line_kind : HeldLineKind → LineKind
as_line_kind LineKinds.Accept = accept_kind
as_line_kind LineKinds.Reject = reject_kind
as_line_kind LineKinds.Unrecognised = unrecognised_kind
as_line_kind LineKinds.KnownValues = known_values_kind
as_line_kind LineKinds.Star = star_kind
as_line_kind LineKinds.Path = path_kind

-- ---- what an enum stands for in the policy's text t

unfoldable pub as_unrecognised : Text → HeldUnrecognised → Unrecognised
as_unrecognised t Held.Pass = pass
as_unrecognised t Held.Refuse = refuse
as_unrecognised t (Held.Apply a) = apply (as_action t a)

unfoldable pub as_line : Text → HeldLine → LineRead
as_line t LineReads.Nothing = nothing
as_line t (LineReads.Rule r) = rule (as_rule t r)
as_line t (LineReads.Posture p) = posture (as_posture t p)
as_line t (LineReads.Unrecognised u) = unrecognised (as_unrecognised t u)
as_line t (LineReads.Sweep b) = sweep b

-- .. and what was read, or refused
unfoldable pub as_line_read : Text → Result HeldLine Refusal → LineRead
as_line_read t (Ok said) = as_line t said
as_line_read t (Err e) = wrong e

unfoldable pub as_parsed_action : Text → Result HeldAction Refusal → ActionRead
as_parsed_action t (Ok a) = is_action (as_action t a)
as_parsed_action t (Err e) = no_action e

unfoldable pub as_parsed_path : Text → HeldOption HeldPath → Option Path
as_parsed_path t (Some p) = some (as_path t p)
as_parsed_path t None = none

-- ---- the names and replacements lie in the text t

pub record RuleHeld (t : Text) (r : HeldRule) : Type 0 where
  pub path : PathHeld t r.path
  pub action : ActionHeld t r.action

abbrev pub PostureHeld : Text → HeldPosture → Type 0
PostureHeld t Postures.Accept = Unit {0}
PostureHeld t (Postures.Reject a) = ActionHeld t a

abbrev pub UnrecognisedHeld : Text → HeldUnrecognised → Type 0
UnrecognisedHeld t Held.Pass = Unit {0}
UnrecognisedHeld t Held.Refuse = Unit {0}
UnrecognisedHeld t (Held.Apply a) = ActionHeld t a

abbrev pub LineHeld : Text → HeldLine → Type 0
LineHeld t LineReads.Nothing = Unit {0}
LineHeld t (LineReads.Rule r) = RuleHeld t r
LineHeld t (LineReads.Posture p) = PostureHeld t p
LineHeld t (LineReads.Unrecognised u) = UnrecognisedHeld t u
LineHeld t (LineReads.Sweep b) = Unit {0}

-- ---- what a function that reads a line answers

-- r is the posture of `reject` with the action a, and what `unrecognised` with it does
pub record Rejecting (a : HeldAction) (r : HeldPosture) : Type 0 where
  pub is : (t : Text) → as_posture t r ≡ rejecting (as_action t a)
  pub held : (t : Text) → ActionHeld t a → PostureHeld t r

pub record Applying (a : HeldAction) (r : HeldUnrecognised) : Type 0 where
  pub is : (t : Text) → as_unrecognised t r ≡ applying (as_action t a)
  pub held : (t : Text) → ActionHeld t a → UnrecognisedHeld t r

-- r is the action, the path, or the line, that was read from the text t
pub record ActionAt (t : Text) (a : ActionRead) (r : Result HeldAction Refusal) : Type 0 where
  pub is : as_parsed_action t r ≡ a
  pub held : IfOk r (ActionHeld t)

pub record PathAt (t : Text) (p : Option Path) (r : HeldOption HeldPath) : Type 0 where
  pub is : as_parsed_path t r ≡ p
  pub held : IfSome r (PathHeld t)

pub record LineAt (t : Text) (said : LineRead) (r : Result HeldLine Refusal) : Type 0 where
  pub is : as_line_read t r ≡ said
  pub held : IfOk r (LineHeld t)

-- r is where the text from index i to index e ends without the blanks at its end
pub record TrimmedEnd (t : Text) (i e r : ℕ) : Type 0 where
  pub low : i ≤ r
  pub high : r ≤ e
  pub is : between t i r ≡ trim_end (between t i e)
