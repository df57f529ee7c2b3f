-- Laws of what the tables print as. Assumes nothing.
use Rattle.std.proofs.Common.{◌≡◌, refl, sym, ap, ◌∙◌, Bool, true, false, not, cond, ◌&&◌, ◌||◌, List, [], ◌∷◌, ◌++◌, ℕ, zero, suc, ◌+◌, ◌-◌, ◌≤◌, ◌<◌, length, take, drop, eqb, leb, arith, add-zero, append-nil, append_assoc, length-append, length-take-le, length-drop, get_or-take, get_or-drop, eq-eqb, ne_eqb}
use Rattle.std.proofs.Math.Option.{none, some}
use native.Mathlib.Nat.{sub_self}
use Rattle.text.specs.Text.{Text, part, Wrote}
use Rattle.text.proofs.Kept.{part_length}
use Rattle.text.proofs.Writes.{wrote_none, wrote_length, wrote_then}
use Rattle.er7.specs.declared.message.Place.{Place}
use Rattle.er7.specs.declared.separators.Separators.{Separators}
use Rattle.message_model.specs.Message.{Leaf, leaf, Label, is_header_name, touchable, delimiter, lead, print_leaves, print_segments}
use Rattle.er7_table.specs.declared.table.Leaf.{Leaf as HeldLeaf}
use Rattle.er7_table.specs.declared.table.Segment.{Segment as HeldSegment}
use Rattle.er7_table.specs.declared.table.TheConstants.{NO_LEAF}
use Rattle.er7_table.specs.Table.{list_of, leaf_row, place_at, stored_text, leaf_at, leaves_from, Good, first_leaf, name_at, label_at, segment_at, segments_from, Segmented}
use Rattle.er7_message.specs.declared.message.Layout.{Layout}
use Rattle.er7_render.specs.Rendered.{rendered}
use Rattle.er7_render.specs.Inner.{lead_in, ending, InStore, InTables, texts, leaf_text, leaves_text, segment_text}

-- ---- texts one behind another

texts_snoc : (f : ℕ → Text) (i n : ℕ) → texts f i (suc n) ≡ texts f i n ++ f (i + n)
unfolding texts
texts_snoc f i zero = rw (add-zero, append-nil)
texts_snoc f i (suc n) =
    ap (λ (z : Text). f i ++ z) (texts_snoc f (suc i) n ∙ ap (λ (k : ℕ). texts f (suc i) n ++ f k) (omega arith))
    ∙ sym (append_assoc (f i) (texts f (suc i) n) (f (i + suc n)))

texts_front : (f : ℕ → Text) (i n m : ℕ) → n ≤ m → length (texts f i n) ≤ length (texts f i m)
unfolding texts
texts_front f i zero m h = omega arith
texts_front f i (suc n) zero h = absurd (omega arith)
texts_front f i (suc n) (suc m) h =
    rw (length-append (f i) (texts f (suc i) n), length-append (f i) (texts f (suc i) m)) (omega (arith, texts_front f (suc i) n m (omega arith)))

-- of texts that g gives from elsewhere on
texts_ext : (f g : ℕ → Text) (i j n : ℕ) → ((k : ℕ) → k < n → f (i + k) ≡ g (j + k)) → texts f i n ≡ texts g j n
unfolding texts
texts_ext f g i j zero h = refl
texts_ext f g i j (suc n) h =
    let e : f i ≡ g j = rw (add-zero i, add-zero j) at (h 0 (omega arith)) in
    rw (e, texts_ext f g (suc i) (suc j) n (λ k l. next k l))
  where
    next : (k : ℕ) → k < n → f (suc i + k) ≡ g (suc j + k)
    next k l =
        let a : suc i + k ≡ i + suc k = omega arith in
        let b : suc j + k ≡ j + suc k = omega arith in
        rw (a, b) (h (suc k) (omega arith))

-- the texts that f gives for the numbers from first to before i stand in d from index at to index k; those to before end are to come
pub record Joining (f : ℕ → Text) (first end : ℕ) (d₀ : Text) (at i : ℕ) (d : Text) (k : ℕ) : Type 0 where
  pub low : first ≤ i
  pub within : i ≤ end
  pub long : length d ≡ length d₀
  pub wrote : Wrote d₀ at (texts f first (i - first)) d k

pub joining_start : (f : ℕ → Text) (first end : ℕ) (d : Text) (at : ℕ) → first ≤ end → at ≤ length d → Joining f first end d at first d at
unfolding texts
joining_start f first end d at h l = record { low = omega arith; within = h; long = refl; wrote = rw (sub_self first) (wrote_none d at l) }

module _ {f : ℕ → Text} {first end : ℕ} {d₀ d : Text} {at i k : ℕ} (g : Joining f first end d₀ at i d k) where
  next_text : texts f first (i + 1 - first) ≡ texts f first (i - first) ++ f i
  next_text =
      let a : i + 1 - first ≡ suc (i - first) = omega (arith, g.low) in
      let b : first + (i - first) ≡ i = omega (arith, g.low) in
      rw a (texts_snoc f first (i - first) ∙ rw b)

  pub joining_room : i < end → at + length (texts f first (end - first)) ≤ length d₀ → k + length (f i) ≤ length d
  joining_room h l =
      let e : length (texts f first (i + 1 - first)) ≡ length (texts f first (i - first)) + length (f i) = rw (next_text, length-append) in
      omega (arith, e, texts_front f first (i + 1 - first) (end - first) (omega arith), g.wrote.end, g.long)

  pub joining_more : {d' : Text} {r : ℕ} → i < end → Wrote d k (f i) d' r → Joining f first end d₀ at (i + 1) d' r
  joining_more h p = record {
    low = omega (arith, g.low);
    within = omega arith;
    long = wrote_length p ∙ g.long;
    wrote = rw next_text (wrote_then g.wrote p);
  }

  pub joining_end : end ≤ i → Wrote d₀ at (texts f first (end - first)) d k
  joining_end h = let e : end ≡ i = omega (arith, g.within) in rw e g.wrote

pub joining_whole : {f : ℕ → Text} {end : ℕ} {d₀ d : Text} {at i k : ℕ} → Joining f 0 end d₀ at i d k → end ≤ i → Wrote d₀ at (texts f 0 end) d k
joining_whole {f} {end} g h = let z : end - 0 ≡ end = omega arith in rw z at (joining_end g h)

-- ---- one leaf

module _ (s : Separators) (header : Bool) (p : Place) where
  -- before MSH-1 and MSH-2
  pub lead_none : header && leb p.field 2 ≡ true → (d : Text) (at : ℕ) → at ≤ length d → Wrote d at (lead_in s header p) d at
  unfolding lead_in
  lead_none e d at h = rw e (wrote_none d at h)

  pub lead_length : header && leb p.field 2 ≡ false → length (lead_in s header p) ≡ 1
  unfolding lead_in
  lead_length e = rw e

  -- before any other leaf
  pub lead_one : header && leb p.field 2 ≡ false → {b : ℕ} → b ≡ delimiter s p → {d d' : Text} {at r : ℕ} → Wrote d at (b ∷ []) d' r → Wrote d at (lead_in s header p) d' r
  unfolding lead_in
  lead_one e q w = rw (e, ← q) w

module _ (s : Separators) (header : Bool) (store : Text) (x : HeldLeaf) where
  pub leaf_gone : x.gone ≡ true → (d : Text) (at : ℕ) → at ≤ length d → Wrote d at (leaf_text s header store x) d at
  unfolding leaf_text
  leaf_gone e d at l = rw e (wrote_none d at l)

  module _ (live : x.gone ≡ false) where
    leaf_live : leaf_text s header store x ≡ lead_in s header x.place ++ part store x.start x.len
    unfolding leaf_text
    leaf_live = rw live

    leaf_length : InStore store x → length (leaf_text s header store x) ≡ length (lead_in s header x.place) + x.len
    leaf_length g = rw (leaf_live, length-append, part_length store x.start x.len g.end)

    pub lead_room : InStore store x → (at : ℕ) {n : ℕ} → at + length (leaf_text s header store x) ≤ n → at + length (lead_in s header x.place) ≤ n
    lead_room g at h = omega (arith, leaf_length g)

    module _ {d d₁ : Text} {at k : ℕ} (w : Wrote d at (lead_in s header x.place) d₁ k) {t : Text} (q : t ≡ part store x.start x.len) where
      pub text_room : InStore store x → at + length (leaf_text s header store x) ≤ length d → k + length t ≤ length d₁
      text_room g h = rw (q, part_length store x.start x.len g.end) (omega (arith, leaf_length g, w.end, wrote_length w))

      pub leaf_wrote : {d₂ : Text} {r : ℕ} → Wrote d₁ k t d₂ r → Wrote d at (leaf_text s header store x) d₂ r
      leaf_wrote v = rw leaf_live (wrote_then w (rw q at v))

pub leaf_in_store : {held : List HeldLeaf} {store : Text} {n used : ℕ} → Good held store n used → (i : ℕ) → i < n → InStore store (leaf_row held i)
leaf_in_store g i h = record { end = omega (arith, g.ends i h, g.room) }

-- ---- some of the leaves

module _ (held : List HeldLeaf) (first n : ℕ) (inside : first + n ≤ length held) where
  row_of_part : (i : ℕ) → i < n → leaf_row (take n (drop first held)) i ≡ leaf_row held (first + i)
  row_of_part i h = get_or-take n (drop first held) i NO_LEAF h ∙ get_or-drop first held i NO_LEAF

  pub length_of_part : length (take n (drop first held)) ≡ n
  length_of_part = length-take-le n (drop first held) (rw length-drop (omega arith))

  pub part_good : {store : Text} → Good held store (first + n) (length store) → Good (take n (drop first held)) store n (length store)
  part_good g = record { rows = rw length_of_part (omega arith); room = g.room; ends = λ i h. rw (row_of_part i h) (g.ends (first + i) (omega arith)) }

  pub part_text : (store : Text) (s : Separators) (header : Bool) → leaves_text s header (take n (drop first held)) store 0 n ≡ leaves_text s header held store first n
  unfolding leaves_text
  part_text store s header = texts_ext _ _ 0 first n (λ k h. same k h)
    where
      same : (k : ℕ) → k < n → leaf_text s header store (leaf_row (take n (drop first held)) (0 + k)) ≡ leaf_text s header store (leaf_row held (first + k))
      same k h = let z : 0 + k ≡ k = omega arith in rw (z, row_of_part k h)

-- ---- the end of a segment

pub ending_cr : {b : Bool} → b ≡ true → {d d' : Text} {at r : ℕ} → Wrote d at (13 ∷ []) d' r → Wrote d at (ending b) d' r
unfolding ending
ending_cr e w = rw e w

pub ending_none : {b : Bool} → b ≡ false → (d : Text) (at : ℕ) → at ≤ length d → Wrote d at (ending b) d at
unfolding ending
ending_none e d at h = rw e (wrote_none d at h)

pub ending_length : {b : Bool} → b ≡ true → length (ending b) ≡ 1
unfolding ending
ending_length e = rw e

-- ---- one segment

module _ (s : Separators) (cr : Bool) (segs : List HeldSegment) (held : List HeldLeaf) (store : Text) (m k : ℕ) where
  -- the texts of the segment's leaves
  abbrev inside : Bool → Text
  inside header = leaves_text s header held store (first_leaf segs k) (first_leaf segs (k + 1) - first_leaf segs k)

  abbrev all_inside : Text
  all_inside = inside (is_header_name (name_at segs k))

  segment_length : length (segment_text s cr segs held store m k) ≡ 3 + (length all_inside + length (ending (not (eqb (k + 1) m) || cr)))
  unfolding segment_text name_at
  segment_length =
      rw (length-append (name_at segs k) (all_inside ++ ending (not (eqb (k + 1) m) || cr)), length-append all_inside (ending (not (eqb (k + 1) m) || cr)))

  pub name_room : (at : ℕ) {n : ℕ} → at + length (segment_text s cr segs held store m k) ≤ n → at + 3 ≤ n
  name_room at h = omega (arith, segment_length)

  -- the segment's leaves
  abbrev part_of : List HeldLeaf
  part_of = take (first_leaf segs (k + 1) - first_leaf segs k) (drop (first_leaf segs k) held)

  module _ (g : InTables segs held store k) where
    rows_inside : first_leaf segs k + (first_leaf segs (k + 1) - first_leaf segs k) ≤ length held
    rows_inside = omega (arith, g.order, g.leaves.rows)

    pub inside_good : Good part_of store (length part_of) (length store)
    inside_good =
        let z : first_leaf segs k + (first_leaf segs (k + 1) - first_leaf segs k) ≡ first_leaf segs (k + 1) = omega (arith, g.order) in
        rw (length_of_part held (first_leaf segs k) _ rows_inside) (part_good held (first_leaf segs k) _ rows_inside (rw z g.leaves))

    module _ {header : Bool} (z : header ≡ is_header_name (name_at segs k)) where
      part_is : leaves_text s header part_of store 0 (length part_of) ≡ all_inside
      part_is = rw (length_of_part held (first_leaf segs k) _ rows_inside, part_text held (first_leaf segs k) _ rows_inside store s header, z)

      module _ {d d₁ : Text} {at i : ℕ} (w : Wrote d at (name_at segs k) d₁ i) where
        name_end : i ≡ at + 3
        unfolding name_at
        name_end = w.end

        pub inside_room : at + length (segment_text s cr segs held store m k) ≤ length d → i + length (leaves_text s header part_of store 0 (length part_of)) ≤ length d₁
        inside_room h = rw part_is (omega (arith, segment_length, name_end, wrote_length w))

        module _ {d₂ : Text} {j : ℕ} (v : Wrote d₁ i (leaves_text s header part_of store 0 (length part_of)) d₂ j) where
          pub ending_room : at + length (segment_text s cr segs held store m k) ≤ length d → j + length (ending (not (eqb (k + 1) m) || cr)) ≤ length d₂
          ending_room h = omega (arith, segment_length, name_end, wrote_length w, v.end, wrote_length v, ap length part_is)

          pub segment_wrote : {d₃ : Text} {r : ℕ} → Wrote d₂ j (ending (not (eqb (k + 1) m) || cr)) d₃ r → Wrote d at (segment_text s cr segs held store m k) d₃ r
          unfolding segment_text
          segment_wrote u = wrote_then w (wrote_then (rw part_is at v) u)

-- ---- what the tables print as

three : (a b c d : Text) → a ++ (b ++ (c ++ d)) ≡ (a ++ (b ++ c)) ++ d
three a b c d = sym (append_assoc a (b ++ c) d ∙ ap (λ (z : Text). a ++ z) (append_assoc b c d))

module _ (s : Separators) (named : ℕ → Bool) (held : List HeldLeaf) (store : Text) where
  leaf_prints : (g : Label) (i : ℕ) (xs : List Leaf) → print_leaves s g (leaf_at named held store i ∷ xs) ≡ leaf_text s (is_header_name g.name) store (leaf_row held i) ++ print_leaves s g xs
  unfolding leaf_at stored_text place_at leaf_text lead touchable lead_in print_leaves
  leaf_prints g i xs = go (leaf_row held i).gone (leaf_row held i).place (part store (leaf_row held i).start (leaf_row held i).len)
    where
      go : (b : Bool) (p : Place) (t : Text) → print_leaves s g (leaf p (named i) (cond b none (some t)) ∷ xs) ≡ cond b [] (lead_in s (is_header_name g.name) p ++ t) ++ print_leaves s g xs
      go true p t = refl
      go false p t = sym (append_assoc (lead s g p) t (print_leaves s g xs))

  leaves_print : (g : Label) (i n : ℕ) → print_leaves s g (leaves_from named held store i n) ≡ leaves_text s (is_header_name g.name) held store i n
  unfolding leaves_from list_of leaves_text texts print_leaves
  leaves_print g i zero = refl
  leaves_print g i (suc n) = leaf_prints g i (leaves_from named held store (suc i) n) ∙ ap (λ (z : Text). leaf_text s (is_header_name g.name) store (leaf_row held i) ++ z) (leaves_print g (suc i) n)

  module _ (cr : Bool) (segs : List HeldSegment) (m : ℕ) where
    -- the last segment, and one that another follows
    last_prints : (k : ℕ) → k + 1 ≡ m → print_segments s cr (segments_from named segs held store k 1) ≡ segment_text s cr segs held store m k
    unfolding segments_from segment_at label_at list_of segment_text ending print_segments
    last_prints k e =
        rw (leaves_print (label_at segs k) (first_leaf segs k) (first_leaf segs (k + 1) - first_leaf segs k), eq-eqb (k + 1) m e)

    one_prints : (k n : ℕ) → k + 1 < m
        → print_segments s cr (segments_from named segs held store k (suc (suc n)))
        ≡ segment_text s cr segs held store m k ++ print_segments s cr (segments_from named segs held store (suc k) (suc n))
    unfolding segments_from segment_at label_at list_of segment_text ending print_segments
    one_prints k n h =
        rw (leaves_print (label_at segs k) (first_leaf segs k) (first_leaf segs (k + 1) - first_leaf segs k), ne_eqb (k + 1) m (λ z. absurd (omega arith)))
        (three (name_at segs k) (leaves_text s (is_header_name (name_at segs k)) held store (first_leaf segs k) (first_leaf segs (k + 1) - first_leaf segs k)) (13 ∷ []) _)

    segments_print : (k n : ℕ) → k + n ≡ m → print_segments s cr (segments_from named segs held store k n) ≡ texts (segment_text s cr segs held store m) k n
    unfolding segments_from list_of texts print_segments
    segments_print k zero e = refl
    segments_print k (suc zero) e = last_prints k (omega arith) ∙ sym (append-nil (segment_text s cr segs held store m k))
    segments_print k (suc (suc n)) e =
        one_prints k n (omega arith) ∙ ap (λ (z : Text). segment_text s cr segs held store m k ++ z) (segments_print (suc k) (suc n) (omega arith))

pub rendered_texts : (c : Layout) (named : ℕ → Bool) (segs : List HeldSegment) (held : List HeldLeaf) (store : Text)
    → print_segments c.separators c.last_cr (segments_from named segs held store 0 c.segments) ≡ texts (segment_text c.separators c.last_cr segs held store c.segments) 0 c.segments
rendered_texts c named segs held store = segments_print c.separators named held store c.last_cr segs c.segments 0 c.segments (omega arith)

-- whichever leaves are named, the tables print the same
pub rendered_named : (c : Layout) (named : ℕ → Bool) (segs : List HeldSegment) (held : List HeldLeaf) (store : Text)
    → rendered c segs held store ≡ print_segments c.separators c.last_cr (segments_from named segs held store 0 c.segments)
unfolding rendered
rendered_named c named segs held store = rendered_texts c (λ i. false) segs held store ∙ sym (rendered_texts c named segs held store)

pub wrote_named : (c : Layout) (named : ℕ → Bool) (segs : List HeldSegment) (held : List HeldLeaf) (store : Text) {d d' : Text} {r : ℕ} → Wrote d 0 (rendered c segs held store) d' r
    → Wrote d 0 (print_segments c.separators c.last_cr (segments_from named segs held store 0 c.segments)) d' r
wrote_named c named segs held store w = rw (← rendered_named c named segs held store) w

-- ---- the loop over the segments

pub in_tables : {segs : List HeldSegment} {held : List HeldLeaf} {store : Text} {m n : ℕ} → Segmented segs m n × Good held store n (length store) → (k : ℕ) → k < m → InTables segs held store k
in_tables {segs} {held} {store} {m} {n} g k h =
    let o : first_leaf segs (k + 1) ≤ n = omega (arith, g.0.order (k + 1) m (omega arith) (omega arith), g.0.all) in
    record {
      rows = omega (arith, g.0.rows);
      order = g.0.order k (k + 1) (omega arith) (omega arith);
      leaves = record { rows = omega (arith, g.1.rows); room = g.1.room; ends = λ i l. g.1.ends i (omega arith) };
    }

module _ (c : Layout) (segs : List HeldSegment) (held : List HeldLeaf) (store : Text) where
  rendered_all : rendered c segs held store ≡ texts (segment_text c.separators c.last_cr segs held store c.segments) 0 (c.segments - 0)
  unfolding rendered
  rendered_all = let z : c.segments - 0 ≡ c.segments = omega arith in rw z (rendered_texts c (λ i. false) segs held store)

  pub render_room : {at k : ℕ} {d₀ d : Text} → Joining (segment_text c.separators c.last_cr segs held store c.segments) 0 c.segments d₀ 0 k d at → k < c.segments
      → length (rendered c segs held store) ≤ length d₀ → at + length (segment_text c.separators c.last_cr segs held store c.segments k) ≤ length d
  render_room g h l = joining_room g h (omega (arith, ap length rendered_all))

  pub render_end : {at k : ℕ} {d₀ d : Text} → Joining (segment_text c.separators c.last_cr segs held store c.segments) 0 c.segments d₀ 0 k d at → c.segments ≤ k
      → Wrote d₀ 0 (rendered c segs held store) d at
  render_end g h = rw rendered_all (joining_end g h)
