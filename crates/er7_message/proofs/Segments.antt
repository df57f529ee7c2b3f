-- Laws of one segment. Assumes nothing.
use Rattle.std.proofs.Common.{◌≡◌, refl, sym, ap, ◌∙◌, Bool, true, false, ◌||◌, List, [], ◌∷◌, ℕ, suc, ◌+◌, ◌-◌, ◌≤◌, ◌<◌, length, take, drop, get_or, leb, Ok, Err, arith, le-leb, lt-ltb, length-take, length-drop, drop_of_length-le, drop-drop, drop-cons, get_or-take}
use Rattle.std.specs.declared.result.Result.{Result}
use Rattle.std.proofs.Math.Option.{some}
use mathlib.Core.Logic.{dite}
use native.Mathlib.Decide.{ℕ_discrete}
use lib.Seq.{slice-cons}
use Rattle.text.specs.Text.{Text, part, between}
use Rattle.text.proofs.Kept.{between_is}
use Rattle.refusal.specs.declared.Refusal.{Refusal}
use Rattle.refusal.specs.declared.Refusal.TheVariants.{TooMany}
use Rattle.refusal.specs.Limits.{LEAVES_MAX, SEGMENTS_MAX}
use Rattle.er7.specs.declared.message.Place.{Place}
use Rattle.er7.specs.declared.separators.Separators.{Separators}
use Rattle.message_model.specs.Message.{leaf, next, leaves, leaves_behind, at_field, is_header_name, header_leaves, leaves_of, separators_of, is_named, count}
use Rattle.message_model.proofs.Faultless.{named_line}
use Rattle.er7_table.specs.declared.table.Leaf.{Leaf as HeldLeaf}
use Rattle.er7_table.specs.declared.table.Segment.{Segment as HeldSegment}
use Rattle.er7_table.specs.Table.{list_of, leaf_row, place_at, leaf_at, leaves_from, Within, as_label}
use Rattle.er7_table.specs.Filling.{LeafPut, SegmentPut, Filled, LeavesRead}
use Rattle.er7_table.proofs.Laws.{leaf_kept, place_kept}
use Rattle.er7_table.proofs.Reading.{within_next, read_front}
use Rattle.er7_message.specs.Inner.{line, names, SegmentRead}

-- ---- leaves behind a name or MSH-2

abbrev pub in_field : ℕ → Place
in_field n = record { field = n; repetition = 1; component = 1; subcomponent = 1 }

pub put_at : (n : ℕ) {p : Place} → p ≡ at_field n → {held held' : List HeldLeaf} {i start m : ℕ} → LeafPut held i p start m held' → LeafPut held i (in_field n) start m held'
unfolding at_field
put_at n e g = rw e at g

pub next_at : (s : Separators) (x n : ℕ) {p q : Place} → p ≡ next s x q → q ≡ at_field n → p ≡ next s x (in_field n)
unfolding at_field
next_at s x n e f = e ∙ ap (next s x) f

pub within_field : (n i : ℕ) → n ≤ i → 1 ≤ i → Within (in_field n) i
within_field n i h k = record {
  field = h;
  repetition = k;
  component = k;
  subcomponent = k;
  first_repetition = omega arith;
  first_component = omega arith;
  first_subcomponent = omega arith;
}

pub field_within : (n i : ℕ) {q : Place} → q ≡ at_field n → n ≤ i → 1 ≤ i → Within q i
unfolding at_field
field_within n i e h k = rw e (within_field n i h k)

pub within_behind : (s : Separators) (x n i : ℕ) {p : Place} → p ≡ next s x (in_field n) → n ≤ i → 1 ≤ i → Within p (i + 1)
within_behind s x n i e h k = rw e (within_next s x (in_field n) i (within_field n i h k))

module _ (s : Separators) (t : Text) (from end field n : ℕ) (held : List HeldLeaf) where
  pub behind_none : from ≡ end → n ≤ LEAVES_MAX → n < from → LeavesRead (leaves_behind s (at_field field) (drop from (take end t))) t end n held held (Ok n)
  unfolding leaves_behind leaves_from list_of
  behind_none e h a =
      let d : drop from (take end t) ≡ [] = drop_of_length-le (take end t) {i = from} (simp length-take (omega arith)) in
      let z : n - n ≡ 0 = omega arith in
      rw d (record {
        fitted = record { count = omega arith; are = rw z; ends = λ i a b. absurd (omega arith); within = λ i a b. absurd (omega arith) };
        few = omega arith;
        most = omega arith;
        too_many = tt;
        before = λ _ _. refl;
      })

  pub behind_some : from < end → end ≤ length t → {p : Place} → p ≡ next s (get_or t from 0) (in_field field) → {held' : List HeldLeaf} (r : Result ℕ Refusal)
      → LeavesRead (leaves s p [] (drop (from + 1) (take end t))) (take end t) (length (take end t)) n held held' r
      → LeavesRead (leaves_behind s (at_field field) (drop from (take end t))) t end n held held' r
  unfolding leaves_behind at_field
  behind_some h l {p} e {held'} r g =
      let y : suc from ≡ from + 1 = omega arith in
      let d : drop from (take end t) ≡ get_or t from 0 ∷ drop (from + 1) (take end t) =
      slice-cons from end t 0 h l ∙ ap (λ (i : ℕ). get_or t from 0 ∷ drop i (take end t)) y in
      rw d (read_front r l (rw e at g))

-- ---- a line and its name

pub line_from : (t : Text) (i e : ℕ) → line t i e ≡ drop i (take e t)
unfolding line part between
line_from t i e = between_is t i e

pub line_length : (t : Text) (i e : ℕ) → e ≤ length t → length (line t i e) ≡ e - i
line_length t i e l = ap length (line_from t i e) ∙ simp (length-drop, length-take) (omega arith)

-- a line with a name holds a name
pub named_long : (s : Separators) (t : Text) (i e : ℕ) → e ≤ length t → {b : Bool} → b ≡ is_named s (line t i e) → b ≡ true → i + 3 ≤ e
named_long s t i e l q z = omega (arith, (named_line s (line t i e) (sym q ∙ z)).long, line_length t i e l)

-- and not a header's
pub named_no_header : (s : Separators) (t : Text) (i e : ℕ) {b : Bool} → b ≡ is_named s (line t i e) → b ≡ true → is_header_name (take 3 (line t i e)) ≡ false
named_no_header s t i e q z = (named_line s (line t i e) (sym q ∙ z)).no_header

-- ---- a segment behind the header

or_true : (a : Bool) → a || true ≡ true
or_true true = refl
or_true false = refl

module _ (s : Separators) (t : Text) (i e k n : ℕ) (segs : List HeldSegment) (held : List HeldLeaf) where
  leaves_are : is_header_name (take 3 (line t i e)) ≡ false → leaves_of s (line t i e) ≡ leaves_behind s (at_field 0) (drop (i + 3) (take e t))
  unfolding leaves_of
  leaves_are z = rw (z, line_from t i e, drop-drop 3 i (take e t))

  pub segment_257 : (segs' : List HeldSegment) (held' : List HeldLeaf) → k ≡ 256 → SegmentRead s t (line t i e) e k n segs held segs' held' (Err TooMany)
  segment_257 segs' held' q = record { fitted = tt; few = tt; most = tt; too_many = (refl, rw (le-leb SEGMENTS_MAX k (omega arith))) }

  module _ (z : is_header_name (take 3 (line t i e)) ≡ false) {held' : List HeldLeaf} where
    pub segment_too_many : (f : Refusal) → LeavesRead (leaves_behind s (at_field 0) (drop (i + 3) (take e t))) t e n held held' (Err f)
        → (segs' : List HeldSegment) → SegmentRead s t (line t i e) e k n segs held segs' held' (Err f)
    segment_too_many f g segs' = record {
      fitted = tt;
      few = tt;
      most = tt;
      too_many = (
        g.too_many.0,
        rw (leaves_are z, lt-ltb LEAVES_MAX (n + length (leaves_behind s (at_field 0) (drop (i + 3) (take e t)))) g.too_many.1) (or_true (leb SEGMENTS_MAX k)),
      );
    }

    pub segment_fits : {m : ℕ} → LeavesRead (leaves_behind s (at_field 0) (drop (i + 3) (take e t))) t e n held held' (Ok m)
        → k < SEGMENTS_MAX → {segs' : List HeldSegment} {o : ℕ} → o ≡ count (take 3 (line t i e)) (names segs 0 k) + 1
        → {put : HeldSegment} → put.first ≡ n → as_label put.label ≡ record { name = take 3 (line t i e); occurrence = o }
        → SegmentPut segs k put m segs' → SegmentRead s t (line t i e) e k n segs held segs' held' (Ok m)
    segment_fits g few {segs'} {o} c {put} f q p = record {
      fitted = record {
        few = few;
        filled = rw (leaves_are z) g.fitted;
        label = p.label ∙ q ∙ rw c;
        begins = p.begins ∙ f;
        ends = p.ends;
        rows = p.other;
        before = g.before;
      };
      few = g.few;
      most = g.most;
      too_many = tt;
    }

-- ---- the header

module _ (s : Separators) (t : Text) (e : ℕ) (long : 8 ≤ e) (inside : e ≤ length t) (named : s ≡ separators_of (line t 0 e))
    (header : is_header_name (take 3 (line t 0 e)) ≡ true) where
  line_0 : line t 0 e ≡ take e t
  line_0 = line_from t 0 e

  one_byte : part t 3 1 ≡ s.field ∷ []
  unfolding part separators_of
  one_byte = rw (drop-cons t 3 0 (omega arith), named, line_0, get_or-take e t 3 0 (omega arith))

  four_bytes : part t 4 4 ≡ s.component ∷ s.repetition ∷ s.escape ∷ s.subcomponent ∷ []
  unfolding part separators_of
  four_bytes =
      rw (
        drop-cons t 4 0 (omega arith),
        drop-cons t 5 0 (omega arith),
        drop-cons t 6 0 (omega arith),
        drop-cons t 7 0 (omega arith),
        named,
        line_0,
        get_or-take e t 4 0 (omega arith),
        get_or-take e t 5 0 (omega arith),
        get_or-take e t 6 0 (omega arith),
        get_or-take e t 7 0 (omega arith),
      )

  leaves_are_three : leaves_of s (line t 0 e)
      ≡ leaf (in_field 1) false (some (s.field ∷ [])) ∷ leaf (in_field 2) false (some (s.component ∷ s.repetition ∷ s.escape ∷ s.subcomponent ∷ []))
      ∷ leaves_behind s (at_field 2) (drop 8 (take e t))
  unfolding leaves_of header_leaves at_field
  leaves_are_three = rw (header, line_0)

  -- more than 4096 leaves
  pub header_too_many : (held : List HeldLeaf) {held₂ held' : List HeldLeaf} (f : Refusal)
      → LeavesRead (leaves_behind s (at_field 2) (drop 8 (take e t))) t e 2 held₂ held' (Err f)
      → (segs segs' : List HeldSegment) → SegmentRead s t (line t 0 e) e 0 0 segs held segs' held' (Err f)
  header_too_many held f g segs segs' = record {
    fitted = tt;
    few = tt;
    most = tt;
    too_many = (
      g.too_many.0,
      rw leaves_are_three (lt-ltb LEAVES_MAX (0 + suc (suc (length (leaves_behind s (at_field 2) (drop 8 (take e t)))))) (omega (arith, g.too_many.1))),
    );
  }

  -- MSH-1 and MSH-2 are the first two rows
  module _ {held held₁ held₂ held' : List HeldLeaf} {r : ℕ} (p : LeafPut held 0 (in_field 1) 3 1 held₁) (q : LeafPut held₁ 1 (in_field 2) 4 4 held₂)
      (g : LeavesRead (leaves_behind s (at_field 2) (drop 8 (take e t))) t e 2 held₂ held' (Ok r)) where
    kept_0 : leaf_row held' 0 ≡ leaf_row held₁ 0
    kept_0 = g.before 0 (omega arith) ∙ q.other 0 (λ x. absurd (omega (arith, x)))

    kept_1 : leaf_row held' 1 ≡ leaf_row held₂ 1
    kept_1 = g.before 1 (omega arith)

    row_0 : leaf_at (λ i. false) held' t 0 ≡ leaf (in_field 1) false (some (s.field ∷ []))
    row_0 = leaf_kept held₁ held' (λ i. false) t 0 kept_0 ∙ p.here (λ i. false) t ∙ rw one_byte

    row_1 : leaf_at (λ i. false) held' t 1 ≡ leaf (in_field 2) false (some (s.component ∷ s.repetition ∷ s.escape ∷ s.subcomponent ∷ []))
    row_1 = leaf_kept held₂ held' (λ i. false) t 1 kept_1 ∙ q.here (λ i. false) t ∙ rw four_bytes

    two_rows : (m : ℕ) → leaves_from (λ i. false) held' t 0 (suc (suc m))
        ≡ leaf (in_field 1) false (some (s.field ∷ [])) ∷ leaf (in_field 2) false (some (s.component ∷ s.repetition ∷ s.escape ∷ s.subcomponent ∷ []))
        ∷ leaves_from (λ i. false) held' t 2 m
    unfolding leaves_from list_of
    two_rows m = rw (row_0, row_1)

    header_ends : (i : ℕ) → 0 ≤ i → i < r → (leaf_row held' i).start + (leaf_row held' i).len ≤ length t
    header_ends i a b = dite (ℕ_discrete i 0)
        (λ x. rw (x, kept_0, p.begins, p.long) (omega arith))
        (λ x. dite (ℕ_discrete i 1)
        (λ y. rw (y, kept_1, q.begins, q.long) (omega arith))
        (λ y. g.fitted.ends i (omega arith) b))

    header_within : (i : ℕ) → 0 ≤ i → i < r → Within (place_at held' i) (length t)
    header_within i a b = dite (ℕ_discrete i 0)
        (λ x. rw (x, place_kept held₁ held' 0 kept_0, p.place) (within_field 1 (length t) (omega arith) (omega arith)))
        (λ x. dite (ℕ_discrete i 1)
        (λ y. rw (y, place_kept held₂ held' 1 kept_1, q.place) (within_field 2 (length t) (omega arith) (omega arith)))
        (λ y. g.fitted.within i (omega arith) b))

    header_filled : Filled (leaves_of s (line t 0 e)) t 0 held' r
    header_filled =
        let z : r - 0 ≡ suc (suc (r - 2)) = omega (arith, g.fitted.count) in
        rw leaves_are_three (record {
          count = omega (arith, g.fitted.count);
          are = rw (z, two_rows (r - 2), g.fitted.are);
          ends = header_ends;
          within = header_within;
        })

    pub header_fits : {segs segs' : List HeldSegment} {put : HeldSegment} → put.first ≡ 0 → as_label put.label ≡ record { name = take 3 (take e t); occurrence = 1 }
        → SegmentPut segs 0 put r segs' → SegmentRead s t (line t 0 e) e 0 0 segs held segs' held' (Ok r)
    unfolding names list_of count
    header_fits f c w = record {
      fitted = record {
        few = omega arith;
        filled = header_filled;
        label = w.label ∙ c ∙ rw line_0;
        begins = w.begins ∙ f;
        ends = w.ends;
        rows = w.other;
        before = λ i a. absurd (omega arith);
      };
      few = g.few;
      most = g.most;
      too_many = tt;
    }
