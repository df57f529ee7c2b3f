-- The turns of a policy, one behind the other. Assumes nothing: these are definitions.
use Rattle.std.specs.Prelude.{◌≡◌, cond, List, [], ◌∷◌, ◌++◌, map, ℕ, eqb}
use Rattle.text.specs.Text.{Text}
use Rattle.er7.specs.Path.{PathHeld}
use Rattle.er7.specs.declared.separators.Separators.{Separators}
use Rattle.er7_redact.specs.Action.{ActionHeld}
use Rattle.er7_redact.specs.Policy.{Rule, as_rule, as_posture}
use Rattle.er7_redact.specs.declared.policy.Rule.{Rule as HeldRule}
use Rattle.er7_redact.specs.declared.policy.Posture.{Posture as HeldPosture}
use Rattle.message_model.specs.Message.{Segment}
use Rattle.policy_model.specs.Policy.{Policy}
use Rattle.policy.specs.Line.{PostureHeld}
use Rattle.run_model.specs.Redact.{Known, Progress, known_in, after_events, over_segments, segments_events, for_posture, for_sweep}
use Rattle.redact_4_leaf.specs.Walk.{Pass}
use Rattle.redact_4_leaf.specs.Visit.{rule_pass, unnamed_pass}
use Rattle.redact_2_turn.specs.Turn.{pass_of, TurnHeld}
use Rattle.redact_2_turn.specs.declared.turn.Turn.{Turn}
use Rattle.redact_2_turn.specs.declared.turn.Turn.TheVariants.{Sweep, Idle}

-- ---- "Rules in policy order ..; then a rejecting posture ..; then the sweep"

pub data Task : Type 0 where
  ruled : Rule → Task
  judged swept : Task

unfoldable pub tasks_of : Policy → List Task
tasks_of P = map ruled P.rules ++ (judged ∷ swept ∷ [])

-- the pass of a task, where the values ks are known
unfoldable pub pass_for : ℕ → Separators → Policy → Task → List Known → Pass
pass_for key s P (ruled r) ks = rule_pass key s r
pass_for key s P judged ks = unnamed_pass key s (for_posture P.posture)
pass_for key s P swept ks = unnamed_pass key s (for_sweep s ks)

-- the segments and the progress behind one task, and behind all
unfoldable pub segments_by : Pass → List Segment → List Segment
segments_by Q ss = over_segments Q.leaf ss

unfoldable pub progress_by : Policy → Pass → List Segment → Progress → Progress
progress_by P Q ss b = after_events P.sweep (segments_events Q.says ss) b

unfoldable pub after_tasks : ℕ → Separators → Policy → List Task → List Segment → Progress → List Segment
after_tasks key s P [] ss b = ss
after_tasks key s P (t ∷ ts) ss b = let Q = pass_for key s P t (known_in b) in after_tasks key s P ts (segments_by Q ss) (progress_by P Q ss b)

unfoldable pub progress_tasks : ℕ → Separators → Policy → List Task → List Segment → Progress → Progress
progress_tasks key s P [] ss b = b
progress_tasks key s P (t ∷ ts) ss b = let Q = pass_for key s P t (known_in b) in progress_tasks key s P ts (segments_by Q ss) (progress_by P Q ss b)

-- ---- the turn of each

pub record RuleTurn (rule : HeldRule) (r : Turn) : Type 0 where
  pub held : (t : Text) → PathHeld t rule.path → ActionHeld t rule.action → TurnHeld t r
  pub pass : (key : ℕ) (s : Separators) (t : Text) (ks : List Known) → pass_of key s t ks r ≡ rule_pass key s (as_rule t rule)

-- an accepting posture has nothing to do
pub record PostureTurn (posture : HeldPosture) (r : Turn) : Type 0 where
  pub held : (t : Text) → PostureHeld t posture → TurnHeld t r
  pub pass : (key : ℕ) (s : Separators) (t : Text) (ks : List Known) → pass_of key s t ks r ≡ unnamed_pass key s (for_posture (as_posture t posture))

-- a sweep with nothing known has nothing to do
unfoldable pub turn_of_sweep : ℕ → Turn
turn_of_sweep known = cond (eqb known 0) Idle Sweep
