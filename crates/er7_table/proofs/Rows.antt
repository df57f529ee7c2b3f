-- What a row holds once it is written. Assumes nothing.
use Rattle.std.proofs.Common.{◌≡◌, refl, ap, ◌∙◌, false, List, [], ◌∷◌, ℕ, ◌+◌, ◌≤◌, ◌<◌, length, take, get_or, set, arith, length-set, get_or-set_same, get_or-set_other}
use Rattle.er7.specs.declared.message.Place.{Place}
use Rattle.er7_table.specs.declared.table.Leaf.{Leaf as HeldLeaf}
use Rattle.er7_table.specs.declared.table.Segment.{Segment as HeldSegment}
use Rattle.er7_table.specs.declared.table.TheConstants.{NO_LEAF, NO_SEGMENT}
use Rattle.er7_table.specs.Table.{leaf_row, place_at, stored_text, leaf_at, segment_row, first_leaf, name_at, label_at, as_label}
use Rattle.er7_table.specs.Filling.{LeafPut, SegmentPut}

module _ (held : List HeldLeaf) (i : ℕ) (p : Place) (start n : ℕ) (room : i < length held) where
  abbrev row : HeldLeaf
  row = record { start = start; len = n; gone = false; place = p }

  at_i : leaf_row (set held i row) i ≡ row
  at_i = get_or-set_same held i row NO_LEAF room

  place_i : place_at (set held i row) i ≡ p
  unfolding place_at
  place_i = ap (λ (r : HeldLeaf). r.place) at_i

  pub leaf_put : LeafPut held i p start n (set held i row)
  unfolding leaf_at stored_text
  leaf_put = record {
    begins = ap (λ (r : HeldLeaf). r.start) at_i;
    long = ap (λ (r : HeldLeaf). r.len) at_i;
    stands = ap (λ (r : HeldLeaf). r.gone) at_i;
    place = place_i;
    here = λ named store. rw (place_i, at_i);
    other = λ j ne. get_or-set_other held i j row NO_LEAF ne;
    rows = length-set held i row;
  }

module _ (segs : List HeldSegment) (k : ℕ) (put behind : HeldSegment) (room : k + 1 < length segs) where
  abbrev both : List HeldSegment
  both = set (set segs k put) (k + 1) behind

  at_k : segment_row both k ≡ put
  at_k = get_or-set_other (set segs k put) (k + 1) k behind NO_SEGMENT (λ e. absurd (omega arith)) ∙ get_or-set_same segs k put NO_SEGMENT (omega arith)

  at_next : segment_row both (k + 1) ≡ behind
  at_next = get_or-set_same (set segs k put) (k + 1) behind NO_SEGMENT (rw (length-set segs k put) room)

  before_k : (i : ℕ) → i < k → segment_row both i ≡ segment_row segs i
  before_k i h =
      get_or-set_other (set segs k put) (k + 1) i behind NO_SEGMENT (λ e. absurd (omega arith))
      ∙ get_or-set_other segs k i put NO_SEGMENT (λ e. absurd (omega arith))

  pub segment_put : SegmentPut segs k put behind.first (set (set segs k put) (k + 1) behind)
  unfolding label_at name_at as_label first_leaf
  segment_put = record { label = rw at_k; begins = ap (λ (r : HeldSegment). r.first) at_k; ends = ap (λ (r : HeldSegment). r.first) at_next; other = before_k }

-- the three bytes at the front of a line
pub front_three : (l : List ℕ) → 3 ≤ length l → take 3 l ≡ get_or l 0 0 ∷ get_or l 1 0 ∷ get_or l 2 0 ∷ []
front_three [] h = absurd (omega arith)
front_three (a ∷ []) h = absurd (omega arith)
front_three (a ∷ b ∷ []) h = absurd (omega arith)
front_three (a ∷ b ∷ c ∷ l) h = refl
