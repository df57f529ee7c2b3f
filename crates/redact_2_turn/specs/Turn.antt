-- A turn of a run: a rule that acts on each leaf, a rule that collapses nodes, a rejecting posture, the sweep, or nothing; and what it looks
-- at. Assumes nothing: these are definitions.
use Rattle.std.specs.Prelude.{◌≡◌, Bool, true, false, not, cond, ◌&&◌, ◌||◌, List, [], ◌∷◌, ℕ, ◌+◌, ◌≤◌, eqb, length, get_or, Option, Some, None}
use Rattle.std.proofs.Math.Option.{none}
use Rattle.text.specs.Text.{Text, same}
use Rattle.er7.specs.Path.{as_path, PathHeld}
use Rattle.er7.specs.declared.path.Path.{Path as HeldPath}
use Rattle.er7.specs.declared.separators.Separators.{Separators}
use Rattle.er7_redact.specs.Action.{as_action, is_null_action, ActionHeld}
use Rattle.er7_redact.specs.Policy.{as_rule, reject}
use Rattle.message_model.specs.Message.{Label, touchable}
use Rattle.run_model.specs.Redact.{Known, fits, reach, each_leaf, is_node, for_posture, for_sweep}
use Rattle.er7_table.specs.declared.table.Leaf.{Leaf as HeldLeaf}
use Rattle.redact_6_row.specs.Reach.{reaches_place}
use Rattle.redact_4_leaf.specs.Walk.{Pass}
use Rattle.redact_4_leaf.specs.Visit.{rule_pass, unnamed_pass}
use Rattle.redact_2_turn.specs.declared.turn.Turn.{Turn}
use Rattle.redact_2_turn.specs.declared.turn.Turn.TheVariants.{Apply, Collapse, Reject, Sweep, Idle}
use Rattle.redact_2_turn.specs.declared.turn.Aim.{Aim}
use Rattle.redact_2_turn.specs.declared.turn.Aim.TheVariants.{Reached, Unnamed, Nothing}
use Rattle.redact_2_turn.specs.declared.turn.Job.{Job}
use Rattle.refusal.specs.Limits.{INPUT_MAX}

-- ---- the pass of a turn; replacements stand in `text`, and ks are the values that are known

unfoldable pub pass_of : ℕ → Separators → Text → List Known → Turn → Pass
pass_of key s text ks (Apply r) = rule_pass key s (as_rule text r)
pass_of key s text ks (Collapse r) = rule_pass key s (as_rule text r)
pass_of key s text ks (Reject a) = unnamed_pass key s (for_posture (reject (as_action text a)))
pass_of key s text ks Sweep = unnamed_pass key s (for_sweep s ks)
pass_of key s text ks Idle = unnamed_pass key s (λ t. none)

unfoldable pub pass_by : Text → Job → List Known → Pass
pass_by text job ks = pass_of job.on.key job.on.separators text ks job.turn

-- whether it collapses nodes
unfoldable pub by_node : Turn → Bool
by_node (Apply r) = false
by_node (Collapse r) = true
by_node (Reject a) = false
by_node Sweep = false
by_node Idle = false

-- ---- what a turn looks at

-- the name that a path has, if it has three bytes
unfoldable pub name_of : Text → HeldPath → Option (ℕ × ℕ × ℕ)
name_of text w = cond (eqb w.segment_len 3) (Some (get_or text w.segment 0, get_or text (w.segment + 1) 0, get_or text (w.segment + 2) 0)) None

unfoldable pub aim_at : Text → HeldPath → Aim
aim_at text w = Reached (name_of text w) w

-- a leaf that is empty is left by every action but null
unfoldable pub aim_of : Text → Turn → Aim
aim_of text (Apply r) = aim_at text r.path
aim_of text (Collapse r) = aim_at text r.path
aim_of text (Reject a) = Unnamed (is_null_action (as_action text a))
aim_of text Sweep = Unnamed false
aim_of text Idle = Nothing

-- the field to which an aim keeps, 0 for none
unfoldable pub field_of : Aim → ℕ
field_of (Reached name w) = w.field
field_of (Unnamed empty) = 0
field_of Nothing = 0

-- a segment with which an aim has to do
unfoldable pub enters : Aim → Label → Bool
enters (Reached None w) g = false
enters (Reached (Some n) w) g = same (n.0 ∷ n.1 ∷ n.2 ∷ []) g.name && fits w.segment_occurrence g.occurrence
enters (Unnamed empty) g = true
enters Nothing g = false

-- a leaf of the segment g has not vanished and may be touched
unfoldable pub is_touched : Label → HeldLeaf → Bool
is_touched g x = not x.gone && touchable g x.place

-- .. and an aim has to do with it
unfoldable pub looks_at : Aim → Bool → HeldLeaf → Bool
looks_at (Reached name w) named x = reaches_place (as_path [] w) x.place
looks_at (Unnamed empty) named x = not named && (empty || not (eqb x.len 0))
looks_at Nothing named x = false

unfoldable pub works : Aim → Label → Bool → HeldLeaf → Bool
works aim g named x = is_touched g x && looks_at aim named x

-- what a turn names lies in `text`
abbrev pub TurnHeld : Text → Turn → Type 0
TurnHeld text (Apply r) = PathHeld text r.path × ActionHeld text r.action × (reach (as_rule text r) ≡ each_leaf)
TurnHeld text (Collapse r) = PathHeld text r.path × ActionHeld text r.action × (is_node (reach (as_rule text r)) ≡ true)
TurnHeld text (Reject a) = ActionHeld text a
TurnHeld text Sweep = Unit {0}
TurnHeld text Idle = Unit {0}

pub record JobHeld (text : Text) (job : Job) : Type 0 where
  pub held : TurnHeld text job.turn
  pub aim : job.aim ≡ aim_of text job.turn
  pub policy : length text ≤ INPUT_MAX
