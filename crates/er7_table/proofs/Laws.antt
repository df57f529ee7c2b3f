-- Laws of what the tables stand for. Assumes nothing.
use Rattle.std.proofs.Common.{◌≡◌, refl, sym, ap, ap₂, ◌∙◌, Bool, List, [], ◌∷◌, ◌++◌, ℕ, zero, suc, ◌+◌, ◌-◌, ◌≤◌, ◌<◌, length, take, arith, add-zero, take_all}
use Rattle.text.specs.Text.{Text}
use Rattle.text.proofs.Kept.{part_kept}
use Rattle.message_model.specs.Message.{segment}
use Rattle.er7_table.specs.declared.table.Leaf.{Leaf as HeldLeaf}
use Rattle.er7_table.specs.declared.table.Segment.{Segment as HeldSegment}
use Rattle.er7_table.specs.Table.{list_of, leaf_row, place_at, stored_text, leaf_at, leaves_from, Good, segment_row, first_leaf, name_at, label_at, segment_at, segments_from, Segmented}

-- ---- lists read off a function

module _ {A : Type 0} where
  pub list_snoc : (f : ℕ → A) (i m : ℕ) → list_of f i (suc m) ≡ list_of f i m ++ f (i + m) ∷ []
  unfolding list_of
  list_snoc f i zero = rw add-zero
  list_snoc f i (suc m) = ap (λ (z : List A). f i ∷ z) (list_snoc f (suc i) m ∙ ap (λ (k : ℕ). list_of f (suc i) m ++ f k ∷ []) (omega arith))

  -- lists are equal where their elements are
  pub list_ext : (f g : ℕ → A) (i m : ℕ) → ((k : ℕ) → i ≤ k → k < i + m → f k ≡ g k) → list_of f i m ≡ list_of g i m
  unfolding list_of
  list_ext f g i zero h = refl
  list_ext f g i (suc m) h =
      ap₂ (λ (x : A) (z : List A). x ∷ z) (h i (omega arith) (omega arith)) (list_ext f g (suc i) m (λ k a b. h k (omega arith) (omega arith)))

  pub list_length : (f : ℕ → A) (i m : ℕ) → length (list_of f i m) ≡ m
  unfolding list_of
  list_length f i zero = refl
  list_length f i (suc m) = ap suc (list_length f (suc i) m)

  pub list_append : (f : ℕ → A) (i m n : ℕ) → list_of f i (m + n) ≡ list_of f i m ++ list_of f (i + m) n
  unfolding list_of
  list_append f i zero n = let z : 0 + n ≡ n = omega arith in rw (z, add-zero)
  list_append f i (suc m) n =
      let z : suc m + n ≡ suc (m + n) = omega arith in
      let y : suc i + m ≡ i + suc m = omega arith in
      rw z (ap (λ (w : List A). f i ∷ w) (list_append f (suc i) m n ∙ ap (λ (k : ℕ). list_of f (suc i) m ++ list_of f k n) y))

-- ---- what rows that did not change stand for

module _ (held held' : List HeldLeaf) where
  pub place_kept : (i : ℕ) → leaf_row held' i ≡ leaf_row held i → place_at held' i ≡ place_at held i
  unfolding place_at
  place_kept i e = ap (λ (r : HeldLeaf). r.place) e

  pub text_kept : (store : Text) (i : ℕ) → leaf_row held' i ≡ leaf_row held i → stored_text held' store i ≡ stored_text held store i
  unfolding stored_text
  text_kept store i e = rw e

  module _ (named : ℕ → Bool) (store : Text) where
    pub leaf_kept : (i : ℕ) → leaf_row held' i ≡ leaf_row held i → leaf_at named held' store i ≡ leaf_at named held store i
    unfolding leaf_at
    leaf_kept i e = rw (place_kept i e, text_kept store i e)

    pub leaves_kept : (i n : ℕ) → ((j : ℕ) → j < i + n → leaf_row held' j ≡ leaf_row held j) → leaves_from named held' store i n ≡ leaves_from named held store i n
    unfolding leaves_from
    leaves_kept i n h = list_ext (leaf_at named held' store) (leaf_at named held store) i n (λ j a b. leaf_kept j (h j b))

module _ (segs segs' : List HeldSegment) (k : ℕ) (e : segment_row segs' k ≡ segment_row segs k) where
  pub name_kept : name_at segs' k ≡ name_at segs k
  unfolding name_at
  name_kept = rw e

  pub label_kept : label_at segs' k ≡ label_at segs k
  unfolding label_at
  label_kept = rw (name_kept, e)

  pub first_kept : first_leaf segs' k ≡ first_leaf segs k
  unfolding first_leaf
  first_kept = ap (λ (r : HeldSegment). r.first) e

-- ---- leaves of which the same are named

pub leaves_named : (named named' : ℕ → Bool) (held : List HeldLeaf) (store : Text) (i m : ℕ) → ((k : ℕ) → i ≤ k → k < i + m → named' k ≡ named k)
    → leaves_from named' held store i m ≡ leaves_from named held store i m
unfolding leaves_from leaf_at
leaves_named named named' held store i m h = list_ext (leaf_at named' held store) (leaf_at named held store) i m (λ k a b. rw (h k a b))

pub segments_named : (named named' : ℕ → Bool) (segs : List HeldSegment) (held : List HeldLeaf) (store : Text) (m n : ℕ) → Segmented segs m n → ((k : ℕ) → k < n → named' k ≡ named k)
    → segments_from named' segs held store 0 m ≡ segments_from named segs held store 0 m
unfolding segments_from segment_at
segments_named named named' segs held store m n w h =
    list_ext (segment_at named' segs held store) (segment_at named segs held store) 0 m (λ k a b.
    ap (segment (label_at segs k)) (leaves_named named named' held store (first_leaf segs k) (first_leaf segs (k + 1) - first_leaf segs k) (λ i x y. h i
    (omega (arith, w.order k (k + 1) (omega arith) (omega arith), w.order (k + 1) m (omega arith) (omega arith), w.all)))))

-- ---- a store that begins alike: the tables stand for the same over it

module _ (named : ℕ → Bool) (held : List HeldLeaf) (store store' : Text) {n used : ℕ} (g : Good held store n used) (q : take used store' ≡ take used store) where
  pub leaf_over : (i : ℕ) → i < n → leaf_at named held store' i ≡ leaf_at named held store i
  unfolding leaf_at stored_text
  leaf_over i h = rw (part_kept store store' used q (leaf_row held i).start (leaf_row held i).len (g.ends i h))

  pub leaves_over : (i m : ℕ) → i + m ≤ n → leaves_from named held store' i m ≡ leaves_from named held store i m
  unfolding leaves_from
  leaves_over i m h = list_ext (leaf_at named held store') (leaf_at named held store) i m (λ k a b. leaf_over k (omega arith))

  pub segments_over : (segs : List HeldSegment) (m : ℕ) → Segmented segs m n → segments_from named segs held store' 0 m ≡ segments_from named segs held store 0 m
  unfolding segments_from segment_at
  segments_over segs m w =
      list_ext (segment_at named segs held store') (segment_at named segs held store) 0 m (λ k a b.
      ap (segment (label_at segs k)) (leaves_over (first_leaf segs k) (first_leaf segs (k + 1) - first_leaf segs k)
      (omega (arith, w.order k (k + 1) (omega arith) (omega arith), w.order (k + 1) m (omega arith) (omega arith), w.all))))

  pub good_over : used ≤ length store' → Good held store' n used
  good_over h = record { rows = g.rows; room = h; ends = g.ends }

-- the tables of a text stand for the same over a store that begins with the text
pub segments_in_store : (named : ℕ → Bool) (segs : List HeldSegment) (held : List HeldLeaf) (t store : Text) (m n : ℕ) → Good held t n (length t) → Segmented segs m n → take (length t) store ≡ t
    → segments_from named segs held store 0 m ≡ segments_from named segs held t 0 m
segments_in_store named segs held t store m n g w q =
    segments_over named held t store g (q ∙ sym (take_all (length t) t (omega arith))) segs m w
