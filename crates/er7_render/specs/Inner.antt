-- What the contracts of private functions cite; no public contract rests on it. Assumes nothing: these are definitions.
use Rattle.std.specs.Prelude.{Bool, cond, not, ◌&&◌, ◌||◌, List, [], ◌∷◌, ◌++◌, ℕ, zero, suc, ◌+◌, ◌-◌, ◌≤◌, ◌<◌, eqb, leb, length}
use Rattle.text.specs.Text.{Text, part, Wrote}
use Rattle.er7.specs.declared.message.Place.{Place}
use Rattle.er7.specs.declared.separators.Separators.{Separators}
use Rattle.message_model.specs.Message.{is_header_name, delimiter}
use Rattle.er7_table.specs.declared.table.Leaf.{Leaf as HeldLeaf}
use Rattle.er7_table.specs.declared.table.Segment.{Segment as HeldSegment}
use Rattle.er7_table.specs.declared.table.TheConstants.{SEGMENT_ROWS}
use Rattle.er7_table.specs.Table.{leaf_row, Good, first_leaf, name_at}
use Rattle.er7_render.specs.Stored.{TextSet, live_len}

-- what stands before a leaf of a header, or of another segment
unfoldable pub lead_in : Separators → Bool → Place → Text
lead_in s header p = cond (not (header && leb p.field 2)) (delimiter s p ∷ []) []

-- a CR, if one is wanted
unfoldable pub ending : Bool → Text
ending wanted = cond wanted (0x0d ∷ []) []

-- the text of a leaf lies in the store
pub record InStore (store : Text) (x : HeldLeaf) : Type 0 where
  pub end : x.start + x.len ≤ length store

-- segment k has its row and the row behind it, and the texts of its leaves lie in the store
pub record InTables (segs : List HeldSegment) (held : List HeldLeaf) (store : Text) (k : ℕ) : Type 0 where
  pub rows : k + 1 < SEGMENT_ROWS
  pub order : first_leaf segs k ≤ first_leaf segs (k + 1)
  pub leaves : Good held store (first_leaf segs (k + 1)) (length store)

-- the texts that f gives for i and the n - 1 numbers behind it
unfoldable pub texts : (ℕ → Text) → ℕ → ℕ → Text
texts f i zero = []
texts f i (suc n) = f i ++ texts f (suc i) n

-- what a leaf prints as
unfoldable pub leaf_text : Separators → Bool → Text → HeldLeaf → Text
leaf_text s header store x = cond x.gone [] (lead_in s header x.place ++ part store x.start x.len)

-- what n leaves from leaf i on print as
unfoldable pub leaves_text : Separators → Bool → List HeldLeaf → Text → ℕ → ℕ → Text
leaves_text s header held store i n = texts (λ j. leaf_text s header store (leaf_row held j)) i n

-- what segment k of m prints as
unfoldable pub segment_text : Separators → Bool → List HeldSegment → List HeldLeaf → Text → ℕ → ℕ → Text
segment_text s cr segs held store m k =
    name_at segs k
    ++ (leaves_text s (is_header_name (name_at segs k)) held store (first_leaf segs k) (first_leaf segs (k + 1) - first_leaf segs k)
    ++ ending (not (eqb (k + 1) m) || cr))

-- ---- compaction

-- the text of leaf i was written to `spare` from index at on, and is the leaf's text there
pub record LeafPacked (held : List HeldLeaf) (store : Text) (i : ℕ) (spare : Text) (at : ℕ) (held' : List HeldLeaf) (spare' : Text) (r : ℕ) : Type 0 where
  pub set : TextSet held i at (live_len held i) held'
  pub wrote : Wrote spare at (part store (leaf_row held i).start (live_len held i)) spare' r
