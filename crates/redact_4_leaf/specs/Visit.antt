-- A leaf that a pass has visited: what became of it, and the progress. Assumes nothing: these are definitions.
use Rattle.std.specs.Prelude.{◌≡◌, Bool, true, false, List, ℕ, suc, ◌+◌, ◌-◌, ◌≤◌, ◌<◌, Result, Ok, Err}
use Rattle.std.proofs.Math.Option.{Option}
use Rattle.text.specs.Text.{Text}
use Rattle.er7.specs.declared.separators.Separators.{Separators}
use Rattle.er7_redact.specs.Action.{Action}
use Rattle.er7_redact.specs.Policy.{Rule}
use Rattle.message_model.specs.Message.{Leaf, Label}
use Rattle.run_model.specs.Redact.{Event, Known, Progress, stopped, after_events, rule_leaf, rule_events, unnamed_leaf, unnamed_events}
use Rattle.er7_table.specs.Table.{list_of}
use Rattle.er7_render.specs.Stored.{live_len}
use Rattle.er7_table.specs.Table.{as_label}
use Rattle.redact_5_act.specs.declared.state.Setting.{Setting}
use Rattle.redact_5_act.specs.declared.state.Counters.{Counters}
use Rattle.refusal.specs.declared.Refusal.{Refusal}
use Rattle.redact_4_leaf.specs.Walk.{Pass}
use Rattle.redact_4_leaf.specs.State.{Buffers, leaves, knowing, RecordedIn, Held, Kept}
use Rattle.redact_4_leaf.specs.declared.leaf.Spot.{Spot}
use Rattle.refusal.specs.Limits.{TEXT_MAX}

-- the pass of a rule, and that over unnamed leaves, with an action for each text or none
unfoldable pub rule_pass : ℕ → Separators → Rule → Pass
rule_pass key s r = record { leaf = rule_leaf key s r; says = rule_events key s r }

unfoldable pub unnamed_pass : ℕ → Separators → (Text → Option Action) → Pass
unnamed_pass key s pick = record { leaf = unnamed_leaf key s pick; says = unnamed_events key s pick }

-- what the pass says of leaf i, which is followed by those up to index `end`
unfoldable pub said_of : Pass → Label → ℕ → (ℕ → Leaf) → ℕ → List Event
said_of P g end f i = P.says g (f i) (list_of f (suc i) (end - suc i))

-- the leaf at a spot was visited, in a pass that collapses nodes or in one that acts on leaves; P is the pass by what is known
pub record Visited (P : List Known → Pass) (node : Bool) (on : Setting) (at : Spot) (text : Text) (β : Buffers) (c : Counters) (β' : Buffers) (c' : Counters) : Type 0 where
  pub held : Held text on.leaves β' c'
  pub here : leaves β' at.index ≡ (P (knowing text β c)).leaf (as_label at.label) (leaves β at.index) (list_of (leaves β) (suc at.index) (at.end - suc at.index))
  pub other : (j : ℕ) → j < on.leaves → (j ≡ at.index → ⊥) → leaves β' j ≡ leaves β j
  pub lens : (j : ℕ) → (j ≡ at.index → ⊥) → live_len β'.held j ≡ live_len β.held j
  pub kept : Kept β β'
  pub paid : node ≡ false → c'.used + c.size ≤ c.used + c'.size + live_len β.held at.index
  pub flat : node ≡ true → c'.used ≤ c.used + 2
  pub grows : c.used ≤ c'.used
  pub rows : c'.rows ≤ c.rows + 1
  pub report_most : c'.report_len ≤ c.report_len + 65536
  pub size_most : c'.size ≤ TEXT_MAX
  pub pass : P (knowing text β' c') ≡ P (knowing text β c)
  pub progress : (b : Progress) → RecordedIn text β c b → RecordedIn text β' c' (after_events on.sweep (said_of (P (knowing text β c)) (as_label at.label) at.end (leaves β) at.index) b)

-- .. or the run was refused there
abbrev pub VisitedOr : (List Known → Pass) → Bool → Setting → Spot → Text → Buffers → Counters → Buffers → Result Counters Refusal → Type 0
VisitedOr P node on at text β c β' (Ok c') = Visited P node on at text β c β' c'
VisitedOr P node on at text β c β' (Err e) =
    (b : Progress) → RecordedIn text β c b → after_events on.sweep (said_of (P (knowing text β c)) (as_label at.label) at.end (leaves β) at.index) b ≡ stopped e

pub record Visit (P : List Known → Pass) (node : Bool) (on : Setting) (at : Spot) (text : Text) (β : Buffers) (c : Counters) (β' : Buffers) (r : Result Counters Refusal) : Type 0 where
  pub out : VisitedOr P node on at text β c β' r
