-- The two tables that hold a message, and what they stand for. Assumes nothing: these are definitions.
use Rattle.std.specs.Prelude.{◌≡◌, Bool, cond, List, [], ◌∷◌, ℕ, zero, suc, ◌+◌, ◌-◌, ◌≤◌, ◌<◌, length, get_or}
use Rattle.std.proofs.Math.Option.{Option, none, some}
use Rattle.text.specs.Text.{Text, part}
use Rattle.er7.specs.declared.message.Label.{Label as HeldLabel}
use Rattle.er7.specs.declared.message.Place.{Place}
use Rattle.message_model.specs.Message.{Leaf, leaf, Label, Segment, segment}
use Rattle.er7_table.specs.declared.table.Leaf.{Leaf as HeldLeaf}
use Rattle.er7_table.specs.declared.table.Segment.{Segment as HeldSegment}
use Rattle.er7_table.specs.declared.table.TheConstants.{NO_LEAF, NO_SEGMENT, SEGMENT_ROWS}

-- what f gives for i and the n - 1 numbers behind it
unfoldable pub list_of : {A : Type 0} → (ℕ → A) → ℕ → ℕ → List A
list_of f i zero = []
list_of f i (suc n) = f i ∷ list_of f (suc i) n

-- ---- the table of leaves

-- row i
abbrev pub leaf_row : List HeldLeaf → ℕ → HeldLeaf
leaf_row held i = get_or held i NO_LEAF

unfoldable pub place_at : List HeldLeaf → ℕ → Place
place_at held i = (leaf_row held i).place

unfoldable pub stored_text : List HeldLeaf → Text → ℕ → Option Text
stored_text held store i = cond (leaf_row held i).gone none (some (part store (leaf_row held i).start (leaf_row held i).len))

-- leaf i; `named` says which leaves a rule named
unfoldable pub leaf_at : (ℕ → Bool) → List HeldLeaf → Text → ℕ → Leaf
leaf_at named held store i = leaf (place_at held i) (named i) (stored_text held store i)

-- n leaves from leaf i on
unfoldable pub leaves_from : (ℕ → Bool) → List HeldLeaf → Text → ℕ → ℕ → List Leaf
leaves_from named held store i n = list_of (leaf_at named held store) i n

-- the texts of n leaves end in the store at or before `used`
pub record Good (held : List HeldLeaf) (store : Text) (n used : ℕ) : Type 0 where
  pub rows : n ≤ length held
  pub room : used ≤ length store
  pub ends : (i : ℕ) → i < n → (leaf_row held i).start + (leaf_row held i).len ≤ used

-- the numbers of a place are at most m, and those within its field count from 1
pub record Within (p : Place) (m : ℕ) : Type 0 where
  pub field : p.field ≤ m
  pub repetition : p.repetition ≤ m
  pub component : p.component ≤ m
  pub subcomponent : p.subcomponent ≤ m
  pub first_repetition : 1 ≤ p.repetition
  pub first_component : 1 ≤ p.component
  pub first_subcomponent : 1 ≤ p.subcomponent

-- so are those of n leaves
pub record Placed (held : List HeldLeaf) (n m : ℕ) : Type 0 where
  pub within : (i : ℕ) → i < n → Within (place_at held i) m

-- ---- the table of segments: a row behind the last holds the number of leaves as its first leaf, so that a segment ends where the next row begins

-- row k
abbrev pub segment_row : List HeldSegment → ℕ → HeldSegment
segment_row segs k = get_or segs k NO_SEGMENT

unfoldable pub first_leaf : List HeldSegment → ℕ → ℕ
first_leaf segs k = (segment_row segs k).first

-- the name that a struct stands for is three bytes
abbrev pub name_of : HeldLabel → Text
name_of g = g.a ∷ g.b ∷ g.c ∷ []

-- the label that a struct stands for
unfoldable pub as_label : HeldLabel → Label
as_label g = record { name = name_of g; occurrence = g.occurrence }

unfoldable pub name_at : List HeldSegment → ℕ → Text
name_at segs k = name_of (segment_row segs k).label

unfoldable pub label_at : List HeldSegment → ℕ → Label
label_at segs k = record { name = name_at segs k; occurrence = (segment_row segs k).label.occurrence }

unfoldable pub segment_at : (ℕ → Bool) → List HeldSegment → List HeldLeaf → Text → ℕ → Segment
segment_at named segs held store k =
    segment (label_at segs k) (leaves_from named held store (first_leaf segs k) (first_leaf segs (k + 1) - first_leaf segs k))

-- m segments from segment k on
unfoldable pub segments_from : (ℕ → Bool) → List HeldSegment → List HeldLeaf → Text → ℕ → ℕ → List Segment
segments_from named segs held store k m = list_of (segment_at named segs held store) k m

-- m segments hold n leaves, each segment's behind those of the one before it; the table has a row behind them
pub record Segmented (segs : List HeldSegment) (m n : ℕ) : Type 0 where
  pub rows : m < SEGMENT_ROWS
  pub none_before : first_leaf segs 0 ≡ 0
  pub order : (i j : ℕ) → i ≤ j → j ≤ m → first_leaf segs i ≤ first_leaf segs j
  pub all : first_leaf segs m ≡ n
