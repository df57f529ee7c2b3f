-- The fields of a segment's leaves, in the order of the table, and the leaves that a turn passes by. Assumes nothing: these are definitions.
use Rattle.std.specs.Prelude.{◌≡◌, Bool, true, false, not, ◌&&◌, List, ℕ, ◌+◌, ◌-◌, ◌≤◌, ◌<◌, eqb, ltb, Option, Some, None}
use Rattle.message_model.specs.Message.{Label}
use Rattle.er7_table.specs.declared.table.Leaf.{Leaf as HeldLeaf}
use Rattle.er7_table.specs.declared.table.Segment.{Segment as HeldSegment}
use Rattle.er7_table.specs.Table.{leaf_row, first_leaf, label_at, as_label}
use Rattle.redact_4_leaf.specs.State.{marked}
use Rattle.redact_4_leaf.specs.declared.leaf.Spot.{Spot}
use Rattle.redact_2_turn.specs.Turn.{enters, works}
use Rattle.redact_2_turn.specs.declared.turn.Aim.{Aim}

-- of the leaves from index `first` to index `end` that have not vanished, none stands before the field of an earlier one
pub record Rising (held : List HeldLeaf) (first end : ℕ) : Type 0 where
  pub rise : (i j : ℕ) → first ≤ i → i ≤ j → j < end → (leaf_row held i).gone ≡ false → (leaf_row held j).gone ≡ false → (leaf_row held i).place.field ≤ (leaf_row held j).place.field

-- .. and each field has a leaf at least
pub record Ordered (held : List HeldLeaf) (first end : ℕ) : Type 0 where
  pub rising : Rising held first end
  pub few : (j : ℕ) → first ≤ j → j < end → (leaf_row held j).gone ≡ false → (leaf_row held j).place.field ≤ j - first + 1

-- so it is in m segments
pub record AllOrdered (segs : List HeldSegment) (held : List HeldLeaf) (m : ℕ) : Type 0 where
  pub ordered : (k : ℕ) → k < m → Ordered held (first_leaf segs k) (first_leaf segs (k + 1))

-- the leaves from index `first` to index r are of fields before the field
pub record StartAt (field first end r : ℕ) : Type 0 where
  pub low : first ≤ r
  pub high : r ≤ end
  pub before : (j : ℕ) → first ≤ j → j < r → j - first + 1 < field

-- a leaf has not vanished and stands behind the field, which is 0 for none
unfoldable pub is_behind : ℕ → HeldLeaf → Bool
is_behind field x = not (eqb field 0) && not x.gone && ltb field x.place.field

-- an aim has nothing to do with the leaves from index i to index r
pub record Skipped (aim : Aim) (g : Label) (named : List Bool) (held : List HeldLeaf) (i r : ℕ) : Type 0 where
  pub low : i ≤ r
  pub idle : (j : ℕ) → i ≤ j → j < r → works aim g (marked named j) (leaf_row held j) ≡ false

-- .. and with the one at index r it has, which lies before index `end`; or there is none
abbrev pub NextLeaf : Aim → Label → List Bool → List HeldLeaf → ℕ → ℕ → Option ℕ → Type 0
NextLeaf aim g named held i end (Some r) = Skipped aim g named held i r × (r < end) × (works aim g (marked named r) (leaf_row held r) ≡ true)
NextLeaf aim g named held i end None = Skipped aim g named held i end

-- so it is with the segments from segment k to segment r
pub record SegmentsSkipped (aim : Aim) (segs : List HeldSegment) (k r : ℕ) : Type 0 where
  pub low : k ≤ r
  pub idle : (j : ℕ) → k ≤ j → j < r → enters aim (label_at segs j) ≡ false

-- .. and with segment r, which is one of m
abbrev pub NextSegment : Aim → List HeldSegment → ℕ → ℕ → Option ℕ → Type 0
NextSegment aim segs k m (Some r) = SegmentsSkipped aim segs k r × (r < m) × (enters aim (label_at segs r) ≡ true)
NextSegment aim segs k m None = SegmentsSkipped aim segs k m

-- where the first leaf of segment k stands
pub record SpotIs (segs : List HeldSegment) (k : ℕ) (at : Spot) : Type 0 where
  pub label : as_label at.label ≡ label_at segs k
  pub first : at.index ≡ first_leaf segs k
  pub end : at.end ≡ first_leaf segs (k + 1)
