-- A pass under way: the leaves before an index are done, those from it on are as they were, and the progress goes on from there.
-- Assumes nothing: these are definitions.
use Rattle.std.specs.Prelude.{◌≡◌, Bool, List, ◌++◌, ℕ, suc, ◌-◌, ◌≤◌, ◌<◌}
use Rattle.message_model.specs.Message.{Leaf, Label, Segment, segment}
use Rattle.run_model.specs.Redact.{Event, Progress, after_events, over_leaves, over_segments, leaves_events, segments_events}
use Rattle.er7_table.specs.Table.{list_of}

-- a pass: what becomes of a leaf before the leaves behind it, and what is said of it
pub record Pass : Type 0 where
  pub leaf : Label → Leaf → List Leaf → Leaf
  pub says : Label → Leaf → List Leaf → List Event

-- over n leaves: those of the segment g from index `first` to index `end`, up to index i: f₀ gives the leaves as they were, f as they are,
-- b₀ and b are the progress then and now
pub record LeavesTo (P : Pass) (sweep : Bool) (g : Label) (n first end i : ℕ) (f₀ f : ℕ → Leaf) (b₀ b : Progress) : Type 0 where
  pub low : first ≤ i
  pub high : i ≤ end
  pub ahead : (j : ℕ) → i ≤ j → j < n → f j ≡ f₀ j
  pub before : (j : ℕ) → j < first → f j ≡ f₀ j
  pub done : list_of f first (i - first) ++ over_leaves P.leaf g (list_of f₀ i (end - i)) ≡ over_leaves P.leaf g (list_of f₀ first (end - first))
  pub progress : after_events sweep (leaves_events P.says g (list_of f₀ i (end - i))) b ≡ after_events sweep (leaves_events P.says g (list_of f₀ first (end - first))) b₀

-- one leaf of it
pub record LeafDone (P : Pass) (sweep : Bool) (g : Label) (n end i : ℕ) (f f' : ℕ → Leaf) (b b' : Progress) : Type 0 where
  pub here : f' i ≡ P.leaf g (f i) (list_of f (suc i) (end - suc i))
  pub other : (j : ℕ) → j < n → (j ≡ i → ⊥) → f' j ≡ f j
  pub progress : after_events sweep (P.says g (f i) (list_of f (suc i) (end - suc i))) b ≡ b'

-- a whole segment
pub record SegmentDone (P : Pass) (sweep : Bool) (g : Label) (n first end : ℕ) (f f' : ℕ → Leaf) (b b' : Progress) : Type 0 where
  pub here : list_of f' first (end - first) ≡ over_leaves P.leaf g (list_of f first (end - first))
  pub before : (j : ℕ) → j < first → f' j ≡ f j
  pub behind : (j : ℕ) → end ≤ j → j < n → f' j ≡ f j
  pub progress : after_events sweep (leaves_events P.says g (list_of f first (end - first))) b ≡ b'

-- over m segments, of which segment k has the label `labels k` and the leaves from index `firsts k` to index `firsts (suc k)`
unfoldable pub segment_of : (ℕ → Label) → (ℕ → ℕ) → (ℕ → Leaf) → ℕ → Segment
segment_of labels firsts f k = segment (labels k) (list_of f (firsts k) (firsts (suc k) - firsts k))

pub record SegmentsTo (P : Pass) (sweep : Bool) (labels : ℕ → Label) (firsts : ℕ → ℕ) (n m k : ℕ) (f₀ f : ℕ → Leaf) (b₀ b : Progress) : Type 0 where
  pub high : k ≤ m
  pub ahead : (j : ℕ) → firsts k ≤ j → j < n → f j ≡ f₀ j
  pub done : list_of (segment_of labels firsts f) 0 k ++ over_segments P.leaf (list_of (segment_of labels firsts f₀) k (m - k))
      ≡ over_segments P.leaf (list_of (segment_of labels firsts f₀) 0 m)
  pub progress : after_events sweep (segments_events P.says (list_of (segment_of labels firsts f₀) k (m - k))) b
      ≡ after_events sweep (segments_events P.says (list_of (segment_of labels firsts f₀) 0 m)) b₀

-- all segments
pub record AllDone (P : Pass) (sweep : Bool) (labels : ℕ → Label) (firsts : ℕ → ℕ) (m : ℕ) (f f' : ℕ → Leaf) (b b' : Progress) : Type 0 where
  pub here : list_of (segment_of labels firsts f') 0 m ≡ over_segments P.leaf (list_of (segment_of labels firsts f) 0 m)
  pub progress : after_events sweep (segments_events P.says (list_of (segment_of labels firsts f) 0 m)) b ≡ b'
