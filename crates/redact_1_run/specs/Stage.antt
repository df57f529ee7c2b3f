-- What stands between two turns of a run. Assumes nothing: these are definitions.
use Rattle.std.specs.Prelude.{◌≡◌, Bool, List, ℕ, ◌+◌, ◌*◌, ◌≤◌, ◌^◌, length, Result, Ok, Err}
use Rattle.text.specs.Text.{Text}
use Rattle.message_model.specs.Message.{Segment, print_segments}
use Rattle.message_model.specs.Chain.{Chained}
use Rattle.run_model.specs.Order.{FieldsFirst}
use Rattle.run_model.specs.Redact.{Progress, stopped}
use Rattle.er7_table.specs.declared.table.Leaf.{Leaf as HeldLeaf}
use Rattle.er7_table.specs.declared.table.Segment.{Segment as HeldSegment}
use Rattle.er7_table.specs.Table.{list_of, first_leaf, label_at, Good, Segmented}
use Rattle.er7_render.specs.Stored.{live_sum, RoomMade}
use Rattle.redact_5_act.specs.declared.state.Setting.{Setting}
use Rattle.redact_5_act.specs.declared.state.Counters.{Counters}
use Rattle.refusal.specs.declared.Refusal.{Refusal}
use Rattle.redact_4_leaf.specs.Walk.{segment_of}
use Rattle.redact_4_leaf.specs.State.{Buffers, leaves, RecordedIn, Held}
use Rattle.redact_2_turn.specs.Ordered.{AllOrdered}
use Rattle.refusal.specs.Limits.{INPUT_MAX, LEARNT_BYTES_MAX, LEAVES_MAX, TEXT_MAX}

-- the segments that the buffers hold
unfoldable pub segments_of : List HeldSegment → Setting → Buffers → List Segment
segments_of segs on β = list_of (segment_of (label_at segs) (first_leaf segs) (leaves β)) 0 on.segments

-- after some turns the buffers stand for the segments ss and for the progress b; x bytes stand beside the message in its file
pub record Stage (x : ℕ) (cr : Bool) (text : Text) (segs : List HeldSegment) (on : Setting) (turns : ℕ) (ss : List Segment) (b : Progress) (β : Buffers) (c : Counters) : Type 0 where
  pub segments : segments_of segs on β ≡ ss
  pub recorded : RecordedIn text β c b
  pub size : c.size ≡ x + length (print_segments on.separators cr ss)
  pub most : c.size ≤ TEXT_MAX
  pub chained : Chained ss
  pub first : FieldsFirst ss
  pub held : Held text on.leaves β c
  pub rows : c.rows ≤ turns * LEAVES_MAX
  pub report : c.report_len ≤ turns * 268435456

-- .. or the run was refused
abbrev pub StageOr : ℕ → Bool → Text → List HeldSegment → Setting → ℕ → List Segment → Progress → Buffers → Result Counters Refusal → Type 0
StageOr x cr text segs on turns ss b β (Ok c) = Stage x cr text segs on turns ss b β c
StageOr x cr text segs on turns ss b β (Err e) = b ≡ stopped e

pub record Stands (x : ℕ) (cr : Bool) (text : Text) (segs : List HeldSegment) (on : Setting) (turns : ℕ) (ss : List Segment) (b : Progress) (β : Buffers) (r : Result Counters Refusal) : Type 0 where
  pub out : StageOr x cr text segs on turns ss b β r

-- some segments and some progress stand there, before the first turn
pub record Begun (text : Text) (segs : List HeldSegment) (on : Setting) (β : Buffers) (r : Result Counters Refusal) : Type 0 where
  pub x : ℕ
  pub cr : Bool
  pub ss : List Segment
  pub progress : Progress
  pub stands : Stands x cr text segs on 0 ss progress β r

-- what a run asks of its other buffers
pub record Inputs (text : Text) (segs : List HeldSegment) (on : Setting) : Type 0 where
  pub policy : length text ≤ INPUT_MAX
  pub segmented : Segmented segs on.segments on.leaves
  pub leaves : on.leaves ≤ LEAVES_MAX

-- what a turn asks of the buffers and the counters
pub record TurnReady (text : Text) (segs : List HeldSegment) (on : Setting) (β : Buffers) (c : Counters) : Type 0 where
  pub held : Held text on.leaves β c
  pub ordered : AllOrdered segs β.held on.segments
  pub live : live_sum β.held 0 on.leaves ≤ c.size
  pub most : c.size ≤ TEXT_MAX
  pub rows : c.rows ≤ 2 ^ 30
  pub report : c.report_len ≤ 2 ^ 46

-- the texts of n leaves fit into the store twice
pub record RoomFor (n : ℕ) (held : List HeldLeaf) (store : Text) (c : Counters) : Type 0 where
  pub good : Good held store n c.used
  pub live : live_sum held 0 n ≤ TEXT_MAX
  pub beside : c.known_used ≤ LEARNT_BYTES_MAX

-- room was made in the store, with work behind the learnt values; no other counter changed
pub record MadeRoom (n : ℕ) (held : List HeldLeaf) (store bytes : Text) (c : Counters) (held' : List HeldLeaf) (store' bytes' : Text) (r : Counters) : Type 0 where
  pub room : RoomMade n held store bytes c.known_used held' store' bytes' r.used
  pub rows : r.rows ≡ c.rows
  pub report : r.report_len ≡ c.report_len
  pub size : r.size ≡ c.size
  pub known : r.known ≡ c.known
  pub known_used : r.known_used ≡ c.known_used
