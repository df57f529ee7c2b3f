-- How far a turn has come. Assumes nothing: these are definitions.
use Rattle.std.specs.Prelude.{◌≡◌, Bool, true, List, ℕ, ◌+◌, ◌-◌, ◌*◌, ◌≤◌, ◌<◌, Result, Ok, Err}
use Rattle.text.specs.Text.{Text}
use Rattle.message_model.specs.Message.{Label}
use Rattle.run_model.specs.Redact.{Known, Progress, stopped, after_events, leaves_events, segments_events}
use Rattle.er7_table.specs.declared.table.Leaf.{Leaf as HeldLeaf}
use Rattle.er7_table.specs.declared.table.Segment.{Segment as HeldSegment}
use Rattle.er7_table.specs.Table.{list_of, leaf_row, first_leaf, label_at, as_label}
use Rattle.redact_5_act.specs.declared.state.Setting.{Setting}
use Rattle.redact_5_act.specs.declared.state.Counters.{Counters}
use Rattle.refusal.specs.declared.Refusal.{Refusal}
use Rattle.redact_4_leaf.specs.Walk.{Pass, LeavesTo, segment_of, SegmentsTo, AllDone}
use Rattle.redact_4_leaf.specs.State.{Buffers, leaves, knowing, marked, RecordedIn, Held, Kept, RoomLeft}
use Rattle.redact_4_leaf.specs.declared.leaf.Spot.{Spot}
use Rattle.redact_2_turn.specs.Turn.{by_node, enters, works}
use Rattle.redact_2_turn.specs.Ordered.{Ordered}
use Rattle.redact_2_turn.specs.declared.turn.Job.{Job}
use Rattle.refusal.specs.Limits.{TEXT_MAX}

-- ---- what is asked

-- of the buffers, before leaf i
pub record Ahead (text : Text) (job : Job) (i : ℕ) (β : Buffers) (c : Counters) : Type 0 where
  pub held : Held text job.on.leaves β c
  pub room_left : RoomLeft (by_node job.turn) β.held i job.on.leaves c

-- of a leaf that is visited
pub record Visitable (text : Text) (job : Job) (at : Spot) (β : Buffers) (c : Counters) : Type 0 where
  pub enters : enters job.aim (as_label at.label) ≡ true
  pub works : works job.aim (as_label at.label) (marked β.named at.index) (leaf_row β.held at.index) ≡ true
  pub inside : at.index < at.end
  pub ends : at.end ≤ job.on.leaves
  pub ahead : Ahead text job at.index β c

-- of a segment whose first leaf is at a spot
pub record Passable (job : Job) (at : Spot) (held : List HeldLeaf) : Type 0 where
  pub enters : enters job.aim (as_label at.label) ≡ true
  pub order : at.index ≤ at.end
  pub ends : at.end ≤ job.on.leaves
  pub ordered : Ordered held at.index at.end

-- ---- a segment: its leaves from index `first` to index `end`, of n

-- at most k rows more
pub record RowsMore (k : ℕ) (c₀ c : Counters) : Type 0 where
  pub rows : c.rows ≤ c₀.rows + k
  pub report : c.report_len ≤ c₀.report_len + k * 65536

-- those up to index i are visited; b₀ was the progress
pub record WalkedTo (P : Pass) (sweep : Bool) (g : Label) (n first end i : ℕ) (text : Text) (β₀ β : Buffers) (c : Counters) (b₀ : Progress) : Type 0 where
  pub progress : Progress
  pub stands : RecordedIn text β c progress
  pub to : LeavesTo P sweep g n first end i (leaves β₀) (leaves β) b₀ progress

-- P is the pass by what is known
pub record Passing (P : List Known → Pass) (node : Bool) (on : Setting) (g : Label) (first end i : ℕ) (text : Text) (β₀ : Buffers) (c₀ : Counters) (β : Buffers) (c : Counters) : Type 0 where
  pub low : first ≤ i
  pub high : i ≤ end
  pub walked : (b : Progress) → RecordedIn text β₀ c₀ b → WalkedTo (P (knowing text β₀ c₀)) on.sweep g on.leaves first end i text β₀ β c b
  pub ahead : (j : ℕ) → i ≤ j → j < on.leaves → leaves β j ≡ leaves β₀ j
  pub held : Held text on.leaves β c
  pub room_left : RoomLeft node β.held i on.leaves c
  pub kept : Kept β₀ β
  pub more : RowsMore (i - first) c₀ c
  pub pass : P (knowing text β c) ≡ P (knowing text β₀ c₀)

-- all of them, or the run was refused
abbrev pub PassedOr : (List Known → Pass) → Bool → Setting → Label → ℕ → ℕ → Text → Buffers → Counters → Buffers → Result Counters Refusal → Type 0
PassedOr P node on g first end text β₀ c₀ β (Ok c) = Passing P node on g first end end text β₀ c₀ β c
PassedOr P node on g first end text β₀ c₀ β (Err e) =
    (b : Progress) → RecordedIn text β₀ c₀ b → after_events on.sweep (leaves_events (P (knowing text β₀ c₀)).says g (list_of (leaves β₀) first (end - first))) b ≡ stopped e

pub record LeavesPassed (P : List Known → Pass) (node : Bool) (on : Setting) (at : Spot) (text : Text) (β₀ : Buffers) (c₀ : Counters) (β : Buffers) (r : Result Counters Refusal) : Type 0 where
  pub out : PassedOr P node on (as_label at.label) at.index at.end text β₀ c₀ β r

-- ---- all segments

pub record SegmentsWalked (P : Pass) (on : Setting) (segs : List HeldSegment) (k : ℕ) (text : Text) (β₀ β : Buffers) (c : Counters) (b₀ : Progress) : Type 0 where
  pub progress : Progress
  pub stands : RecordedIn text β c progress
  pub to : SegmentsTo P on.sweep (label_at segs) (first_leaf segs) on.leaves on.segments k (leaves β₀) (leaves β) b₀ progress

-- k of them are passed
pub record Turning (P : List Known → Pass) (node : Bool) (on : Setting) (segs : List HeldSegment) (k : ℕ) (text : Text) (β₀ : Buffers) (c₀ : Counters) (β : Buffers) (c : Counters) : Type 0 where
  pub high : k ≤ on.segments
  pub walked : (b : Progress) → RecordedIn text β₀ c₀ b → SegmentsWalked (P (knowing text β₀ c₀)) on segs k text β₀ β c b
  pub ahead : (j : ℕ) → first_leaf segs k ≤ j → j < on.leaves → leaves β j ≡ leaves β₀ j
  pub held : Held text on.leaves β c
  pub room_left : RoomLeft node β.held (first_leaf segs k) on.leaves c
  pub kept : Kept β₀ β
  pub more : RowsMore (first_leaf segs k) c₀ c
  pub pass : P (knowing text β c) ≡ P (knowing text β₀ c₀)

-- the turn is taken: what became of the segments, and the progress
pub record Advanced (P : Pass) (on : Setting) (segs : List HeldSegment) (text : Text) (β₀ β : Buffers) (c : Counters) (b₀ : Progress) : Type 0 where
  pub progress : Progress
  pub stands : RecordedIn text β c progress
  pub all : AllDone P on.sweep (label_at segs) (first_leaf segs) on.segments (leaves β₀) (leaves β) b₀ progress

pub record Turned (P : List Known → Pass) (on : Setting) (segs : List HeldSegment) (text : Text) (β₀ : Buffers) (c₀ : Counters) (β : Buffers) (c : Counters) : Type 0 where
  pub advanced : (b : Progress) → RecordedIn text β₀ c₀ b → Advanced (P (knowing text β₀ c₀)) on segs text β₀ β c b
  pub held : Held text on.leaves β c
  pub kept : Kept β₀ β
  pub more : RowsMore on.leaves c₀ c
  pub most : c.size ≤ TEXT_MAX

abbrev pub TurnedOr : (List Known → Pass) → Setting → List HeldSegment → Text → Buffers → Counters → Buffers → Result Counters Refusal → Type 0
TurnedOr P on segs text β₀ c₀ β (Ok c) = Turned P on segs text β₀ c₀ β c
TurnedOr P on segs text β₀ c₀ β (Err e) =
    (b : Progress) → RecordedIn text β₀ c₀ b
    → after_events on.sweep (segments_events (P (knowing text β₀ c₀)).says (list_of (segment_of (label_at segs) (first_leaf segs) (leaves β₀)) 0 on.segments)) b ≡ stopped e

pub record TurnTaken (P : List Known → Pass) (on : Setting) (segs : List HeldSegment) (text : Text) (β₀ : Buffers) (c₀ : Counters) (β : Buffers) (r : Result Counters Refusal) : Type 0 where
  pub out : TurnedOr P on segs text β₀ c₀ β r
