-- Reading line by line. Assumes nothing.
use Rattle.std.proofs.Common.{◌≡◌, refl, sym, ap, ap₂, ◌∙◌, Bool, true, false, ◌||◌, List, [], ◌∷◌, ◌++◌, ℕ, zero, suc, ◌+◌, ◌-◌, ◌≤◌, ◌<◌, length, take, drop, eqb, leb, ltb, Ok, Err, arith, append-nil, le-ltb, ne_eqb}
use Rattle.std.proofs.Math.Option.{Option, some}
use mathlib.Core.Logic.{dite}
use native.Mathlib.Decide.{ℕ_discrete}
use borrow.Author.Tests.{lt-leb}
use lib.Seq.{append_snoc}
use Rattle.text.specs.Text.{Text}
use Rattle.text.proofs.Laws.{split, zero_or}
use Rattle.refusal.specs.declared.Refusal.{Refusal}
use Rattle.refusal.specs.declared.Refusal.TheVariants.{BadSegment, TooMany}
use Rattle.refusal.specs.Limits.{LEAVES_MAX, SEGMENTS_MAX}
use Rattle.er7.specs.declared.separators.Separators.{Separators}
use Rattle.message_model.specs.Message.{Label, Segment, segment, Message, leaves_of, is_named, count, segments, segment_lines, segments_fault}
use Rattle.er7_table.specs.declared.table.Leaf.{Leaf as HeldLeaf}
use Rattle.er7_table.specs.declared.table.Segment.{Segment as HeldSegment}
use Rattle.er7_table.specs.Filling.{LeafRoom}
use Rattle.er7_table.specs.Table.{list_of, Good, Placed, segment_row, first_leaf, name_at, label_at, segment_at, segments_from}
use Rattle.er7_table.proofs.Laws.{list_snoc, list_ext, place_kept, leaves_kept, name_kept, label_kept, first_kept}
use Rattle.er7_message.specs.Parsed.{fault_of, ParsedAs}
use Rattle.er7_message.specs.Inner.{line, LineEnd, fault_by, message_by, names, Numbered, SegmentFits, SegmentRead, Reading}
use Rattle.er7_message.proofs.Lines.{line_last, line_next, line_some}

-- ---- room in the table of leaves

room_rows : (r : ℕ) {held : List HeldLeaf} {m : ℕ} → LeafRoom held m → r ≤ LEAVES_MAX → r ≤ m → r ≤ length held
room_rows r h a b = zero_or r (λ e. rw e (omega arith)) (λ e. omega (arith, h.room (r - 1) (omega arith) (omega arith)))

pub room_kept : {held held' : List HeldLeaf} {m : ℕ} → LeafRoom held m → length held' ≡ length held → LeafRoom held' m
room_kept h e = record { room = λ i a b. omega (arith, h.room i a b, e) }

pub room_front : {held : List HeldLeaf} {m k : ℕ} → LeafRoom held m → k ≤ m → LeafRoom held k
room_front h e = record { room = λ i a b. h.room i a (omega arith) }

-- ---- nothing is read

pub reading_start : (s : Separators) (t : Text) (segs : List HeldSegment) (held : List HeldLeaf) → LeafRoom held (length t) → Reading s t segs held 0 0 (segment_lines [] t)
unfolding fault_by segments_from names list_of
reading_start s t segs held h = record {
  many = omega arith;
  few = omega arith;
  none_yet = λ _. refl;
  fault = refl;
  read = refl;
  numbered = record { number = λ j x. absurd (omega arith) };
  slots = record { rows = omega arith; room = omega arith; ends = λ i x. absurd (omega arith) };
  placed = record { within = λ i x. absurd (omega arith) };
  none_before = λ x. absurd (omega (arith, x));
  all = λ x. absurd (omega (arith, x));
  up = λ j x. absurd (omega arith);
  inside = λ j x. absurd (omega arith);
  leaf_room = h;
}

-- ---- one line more

fault_on : (s : Separators) (k n : ℕ) (l : Text) (ls : List Text) {r : ℕ} → eqb k 0 || is_named s l ≡ true → k < SEGMENTS_MAX → r ≡ n + length (leaves_of s l) → r ≤ LEAVES_MAX
    → segments_fault s k n (l ∷ ls) ≡ segments_fault s (k + 1) r ls
unfolding segments_fault
fault_on s k n l ls {r} e h q m = rw (e, lt-leb SEGMENTS_MAX k h, ← q, le-ltb LEAVES_MAX r m)

module _ {s : Separators} {t l : Text} {segs : List HeldSegment} {held : List HeldLeaf} {segs' : List HeldSegment} {held' : List HeldLeaf} {k n r : ℕ} {ls : List Text}
    (go : Reading s t segs held k n (l ∷ ls)) (f : SegmentFits s t l k n segs held segs' held' r) where
  low : n ≤ r
  low = omega (arith, f.filled.count)

  firsts : (j : ℕ) → j < k → first_leaf segs' j ≡ first_leaf segs j
  firsts j h = first_kept segs segs' j (f.rows j h)

  -- the row behind row j begins where it did
  nexts : (j : ℕ) → j < k → first_leaf segs' (j + 1) ≡ first_leaf segs (j + 1)
  nexts j h = dite (ℕ_discrete (j + 1) k) (λ q. rw q (f.begins ∙ sym (go.all (omega arith)))) (λ ne. firsts (j + 1) (omega arith))

  labels : (j : ℕ) → j < k → label_at segs' j ≡ label_at segs j
  labels j h = label_kept segs segs' j (f.rows j h)

  name_rows : (j : ℕ) → j < k → name_at segs' j ≡ name_at segs j
  name_rows j h = name_kept segs segs' j (f.rows j h)

  segment_kept : (j : ℕ) → j < k → segment_at (λ i. false) segs' held' t j ≡ segment_at (λ i. false) segs held t j
  unfolding segment_at
  segment_kept j h =
      rw (labels j h, firsts j h, nexts j h)
      (ap (segment (label_at segs j)) (leaves_kept held held' (λ i. false) t (first_leaf segs j) (first_leaf segs (j + 1) - first_leaf segs j)
      (λ i y. f.before i (omega (arith, go.up j h, go.inside j h)))))

  name_here : name_at segs' k ≡ take 3 l
  unfolding label_at
  name_here = ap (λ (g : Label). g.name) f.label

  number_here : (segment_row segs' k).label.occurrence ≡ count (take 3 l) (names segs 0 k) + 1
  unfolding label_at
  number_here = ap (λ (g : Label). g.occurrence) f.label

  names_kept : (j : ℕ) → j ≤ k → names segs' 0 j ≡ names segs 0 j
  unfolding names
  names_kept j h = list_ext (name_at segs') (name_at segs) 0 j (λ i a b. name_rows i (omega arith))

  names_more : names segs' 0 (k + 1) ≡ names segs 0 k ++ take 3 l ∷ []
  names_more =
      let z : k + 1 ≡ suc k = omega arith in
      let y : 0 + k ≡ k = omega arith in
      rw z (snoc ∙ ap₂ (λ (xs : List Text) (x : Text). xs ++ x ∷ []) (names_kept k (omega arith)) (rw y name_here))
    where
      snoc : names segs' 0 (suc k) ≡ names segs' 0 k ++ name_at segs' (0 + k) ∷ []
      snoc = unfold names in list_snoc (name_at segs') 0 k

  numbered_more : Numbered segs' (k + 1)
  numbered_more = record {
    number = λ j h. dite (ℕ_discrete j k)
        (λ q. rw (q, names_kept k (omega arith), name_here) number_here)
        (λ ne. ap (λ (s : HeldSegment). s.label.occurrence) (f.rows j (omega arith)) ∙ go.numbered.number j (omega arith) ∙ rw (name_rows j (omega arith), names_kept j (omega arith)));
  }

  segments_more : segments_from (λ i. false) segs' held' t 0 (k + 1) ≡ segments_from (λ i. false) segs held t 0 k ++ segment_at (λ i. false) segs' held' t k ∷ []
  segments_more =
      let z : k + 1 ≡ suc k = omega arith in
      let y : 0 + k ≡ k = omega arith in
      rw z (snoc ∙ ap₂ (λ (xs : List Segment) (x : Segment). xs ++ x ∷ []) kept (rw y))
    where
      snoc : segments_from (λ i. false) segs' held' t 0 (suc k) ≡ segments_from (λ i. false) segs' held' t 0 k ++ segment_at (λ i. false) segs' held' t (0 + k) ∷ []
      snoc = unfold segments_from in list_snoc (segment_at (λ i. false) segs' held' t) 0 k

      kept : segments_from (λ i. false) segs' held' t 0 k ≡ segments_from (λ i. false) segs held t 0 k
      kept = unfold segments_from in list_ext (segment_at (λ i. false) segs' held' t) (segment_at (λ i. false) segs held t) 0 k (λ j a b. segment_kept j (omega arith))

  segment_here : segments s (names segs 0 k) (l ∷ ls) ≡ segment_at (λ i. false) segs' held' t k ∷ segments s (names segs' 0 (k + 1)) ls
  unfolding segments segment_at
  segment_here = rw (f.label, f.begins, f.ends, f.filled.are, names_more)

  slots_more : LeafRoom held' (length t) → r ≤ LEAVES_MAX → r ≤ length t → Good held' t r (length t)
  slots_more h m a = record {
    rows = room_rows r h m a;
    room = omega arith;
    ends = λ i x. split i n
        (λ y. rw (f.before i y) (go.slots.ends i y))
        (λ y. f.filled.ends i y x);
  }

  placed_more : Placed held' r (length t)
  placed_more = record {
    within = λ i x. split i n
        (λ y. rw (place_kept held held' i (f.before i y)) (go.placed.within i y))
        (λ y. f.filled.within i y x);
  }

  pub reading_more : r ≤ LEAVES_MAX → r ≤ length t → eqb k 0 || is_named s l ≡ true → LeafRoom held' (length t) → Reading s t segs' held' (k + 1) r ls
  reading_more m a e h = record {
    many = omega (arith, f.few);
    few = m;
    none_yet = λ q. absurd (omega arith);
    fault = go.fault ∙ fault_on s k n l ls e f.few f.filled.count m;
    read = go.read ∙ rw (segment_here, segments_more) (sym (append_snoc (segments_from (λ i. false) segs held t 0 k) (segment_at (λ i. false) segs' held' t k) (segments s (names segs' 0 (k + 1)) ls)));
    numbered = numbered_more;
    slots = slots_more h m a;
    placed = placed_more;
    none_before = λ _. dite (ℕ_discrete k 0) (λ q. rw q at f.begins ∙ go.none_yet q) (λ ne. firsts 0 (omega arith) ∙ go.none_before (omega arith));
    all = λ _. f.ends;
    up = λ j x. dite (ℕ_discrete j k) (λ q. rw (q, f.begins, f.ends) low) (λ ne. rw (firsts j (omega arith), nexts j (omega arith)) (go.up j (omega arith)));
    inside = λ j x. dite (ℕ_discrete j k) (λ q. rw (q, f.ends) (omega arith)) (λ ne. rw (nexts j (omega arith)) (omega (arith, go.inside j (omega arith), low)));
    leaf_room = h;
  }

-- ---- a line that is refused

fault_bad : (s : Separators) (k n : ℕ) (l : Text) (ls : List Text) → eqb k 0 || is_named s l ≡ false → segments_fault s k n (l ∷ ls) ≡ some BadSegment
unfolding segments_fault
fault_bad s k n l ls e = rw e

fault_too_many : (s : Separators) (k n : ℕ) (l : Text) (ls : List Text) → eqb k 0 || is_named s l ≡ true → leb SEGMENTS_MAX k || ltb LEAVES_MAX (n + length (leaves_of s l)) ≡ true
    → segments_fault s k n (l ∷ ls) ≡ some TooMany
unfolding segments_fault
fault_too_many s k n l ls e q = rw (e, q)

refused : {t : Text} {f : Option Refusal} (e : Refusal) → f ≡ some e → (m : Message) (segs : List HeldSegment) (held : List HeldLeaf) → ParsedAs t f m segs held (Err e)
unfolding fault_of
refused e q m segs held = record { is = sym q; tables = tt }

-- ---- all lines are read

order : {s : Separators} {t : Text} {segs : List HeldSegment} {held : List HeldLeaf} {k n : ℕ} {ls : List Text} → Reading s t segs held k n ls → (i j : ℕ) → i ≤ j → j ≤ k → first_leaf segs i ≤ first_leaf segs j
order go i zero h l = let z : i ≡ 0 = omega arith in rw z (omega arith)
order {s} {t} {segs} go i (suc j) h l =
    let y : j + 1 ≡ suc j = omega arith in
    dite (ℕ_discrete i (suc j)) (λ q. rw q (omega arith)) (λ ne. omega (arith, order go i j (omega arith) (omega arith), rw y at (go.up j (omega arith))))

pub reading_all : {s : Separators} {t : Text} {segs : List HeldSegment} {held : List HeldLeaf} {k n : ℕ} → Reading s t segs held k n [] → 0 < k → (last : Bool)
    → ParsedAs t (fault_by s t) (message_by s last t) segs held (Ok (record { separators = s; segments = k; leaves = n; last_cr = last }))
unfolding fault_of message_by segments_fault segments
reading_all {s} {t} {segs} {held} {k} {n} go h last = record {
  is = sym go.fault;
  tables = record {
    separators = refl;
    last = refl;
    segments = sym (go.read ∙ append-nil (segments_from (λ i. false) segs held t 0 k));
    good = go.slots;
    placed = go.placed;
    segmented = record { rows = omega (arith, go.many); none_before = go.none_before h; order = order go; all = go.all h };
    segments_most = go.many;
    leaves_most = go.few;
  };
}

-- ---- the line that begins at index i
module _ {s : Separators} {t : Text} {segs : List HeldSegment} {held : List HeldLeaf} {k n i e : ℕ} (go : Reading s t segs held k n (segment_lines [] (drop i t))) (g : LineEnd t i e) where
  pub line_bad : eqb k 0 || is_named s (line t i e) ≡ false → (m : Message) (segs' : List HeldSegment) (held' : List HeldLeaf) → ParsedAs t (fault_by s t) m segs' held' (Err BadSegment)
  line_bad q m segs' held' =
      let ls = line_some g in
      refused BadSegment (go.fault ∙ ap (segments_fault s k n) ls.1 ∙ fault_bad s k n (line t i e) ls.0 q) m segs' held'

  module _ (q : eqb k 0 || is_named s (line t i e) ≡ true) {segs' : List HeldSegment} {held' : List HeldLeaf} where
    pub line_too_many : (f : Refusal) → SegmentRead s t (line t i e) e k n segs held segs' held' (Err f) → (m : Message) (segs'' : List HeldSegment) (held'' : List HeldLeaf)
        → ParsedAs t (fault_by s t) m segs'' held'' (Err f)
    line_too_many f w m segs'' held'' =
        let ls = line_some g in
        rw w.too_many.0 (refused TooMany (go.fault ∙ ap (segments_fault s k n) ls.1 ∙ fault_too_many s k n (line t i e) ls.0 q w.too_many.1) m segs'' held'')

    module _ {r : ℕ} (w : SegmentRead s t (line t i e) e k n segs held segs' held' (Ok r)) (room : LeafRoom held' (length t)) where
      pub line_on : e < length t → Reading s t segs' held' (k + 1) r (segment_lines [] (drop (e + 1) t))
      line_on x = reading_more (rw (line_next g x) at go) w.fitted w.most (omega (arith, w.few, g.high)) q room

      pub line_done : e ≡ length t → (last : Bool) → ParsedAs t (fault_by s t) (message_by s last t) segs' held' (Ok (record { separators = s; segments = k + 1; leaves = r; last_cr = last }))
      line_done x last = reading_all (reading_more (rw (line_last g x) at go) w.fitted w.most (omega (arith, w.few, g.high)) q room) (omega arith) last

-- a line behind the header is judged by its name
pub judged : (k : ℕ) → 1 ≤ k → (b : Bool) {c d : Bool} → c ≡ b → c ≡ d → eqb k 0 || b ≡ d
judged k h b e f = rw (ne_eqb k 0 (λ q. absurd (omega arith))) (sym e ∙ f)

-- ---- the header, which is the first line
module _ {s : Separators} {t : Text} {segs : List HeldSegment} {held : List HeldLeaf} {segs' : List HeldSegment} {held' : List HeldLeaf} {e : ℕ} (g : LineEnd t 0 e) (room : LeafRoom held (length t)) where
  pub header_too_many : (f : Refusal) → SegmentRead s t (line t 0 e) e 0 0 segs held segs' held' (Err f) → (m : Message) (segs'' : List HeldSegment) (held'' : List HeldLeaf)
      → ParsedAs t (fault_by s t) m segs'' held'' (Err f)
  header_too_many = line_too_many (reading_start s t segs held room) g refl

  module _ {r : ℕ} (w : SegmentRead s t (line t 0 e) e 0 0 segs held segs' held' (Ok r)) (room' : LeafRoom held' (length t)) where
    pub header_on : e < length t → Reading s t segs' held' 1 r (segment_lines [] (drop (e + 1) t))
    header_on x = line_on (reading_start s t segs held room) g refl w room' x

    pub header_done : e ≡ length t → (last : Bool) → ParsedAs t (fault_by s t) (message_by s last t) segs' held' (Ok (record { separators = s; segments = 1; leaves = r; last_cr = last }))
    header_done x last = line_done (reading_start s t segs held room) g refl w room' x last
