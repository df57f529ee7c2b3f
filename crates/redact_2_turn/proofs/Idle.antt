-- Laws of the leaves and segments that a turn passes by. Assumes nothing.
use Rattle.std.proofs.Common.{◌≡◌, refl, sym, ap, Bool, true, false, not, ◌&&◌, List, [], ℕ, ◌+◌, ◌-◌, ◌≤◌, ◌<◌, eqb, ltb, ne_eqb, ltb-true, arith, Option, Some, None}
use Rattle.std.proofs.Math.Option.{none}
use Rattle.std.proofs.lemmas.Bool.{eqb-false, lt-ltb, le-ltb}
use borrow.Author.Count.{below_more}
use borrow.Author.Tests.{not-true}
use Rattle.text.proofs.Laws.{split, zero_or, and_false, and_id, and_left, and_right}
use Rattle.er7.specs.Path.{as_path}
use Rattle.er7.specs.declared.message.Place.{Place}
use Rattle.er7.specs.declared.path.Path.{Path as HeldPath}
use Rattle.message_model.specs.Message.{Label, touchable}
use Rattle.run_model.specs.Redact.{fits}
use Rattle.er7_table.specs.declared.table.Leaf.{Leaf as HeldLeaf}
use Rattle.er7_table.specs.declared.table.Segment.{Segment as HeldSegment}
use Rattle.er7_table.specs.Table.{leaf_row, place_at, stored_text, leaf_at, label_at}
use Rattle.redact_6_row.specs.Reach.{reaches_place}
use Rattle.redact_4_leaf.specs.State.{Buffers, leaves, marked}
use Rattle.redact_4_leaf.proofs.Acting.{live_text}
use Rattle.redact_2_turn.specs.Turn.{field_of, enters, is_touched, looks_at, works}
use Rattle.redact_2_turn.specs.Ordered.{Rising, Ordered, StartAt, is_behind, Skipped, SegmentsSkipped}
use Rattle.redact_2_turn.specs.declared.turn.Aim.{Aim}
use Rattle.redact_2_turn.specs.declared.turn.Aim.TheVariants.{Reached, Unnamed, Nothing}

-- ---- leaves of another field

other_place : (w : HeldPath) (p : Place) → 0 < w.field → (p.field ≡ w.field → ⊥) → reaches_place (as_path [] w) p ≡ false
unfolding reaches_place as_path fits
other_place w p h ne = rw (ne_eqb w.field 0 (λ e. omega arith), ne_eqb w.field p.field (λ e. ne (sym e)))

pub other_field : (aim : Aim) (g : Label) (named : Bool) (x : HeldLeaf) → 0 < field_of aim → (x.gone ≡ false → x.place.field ≡ field_of aim → ⊥) → works aim g named x ≡ false
unfolding works looks_at is_touched field_of
other_field (Reached name w) g named x h ne = go x.gone refl
  where
    go : (b : Bool) → x.gone ≡ b → not b && touchable g x.place && reaches_place (as_path [] w) x.place ≡ false
    go true e = refl
    go false e = rw (other_place w x.place h (ne e), and_false (touchable g x.place))
other_field (Unnamed empty) g named x h ne = absurd (omega (arith, h))
other_field Nothing g named x h ne = absurd (omega (arith, h))

-- ---- the leaves that are passed by

-- a leaf's field is told first
module _ (field : ℕ) (x : HeldLeaf) where
  pub later_is : field < x.place.field → not (eqb field 0) && not x.gone ≡ is_behind field x
  unfolding is_behind
  later_is l = rw (lt-ltb field x.place.field l) (sym (and_id (not (eqb field 0) && not x.gone)))

  pub other_is : x.place.field ≤ field → ltb field x.place.field ≡ is_behind field x
  unfolding is_behind
  other_is l = rw (le-ltb field x.place.field l) (sym (and_false (not (eqb field 0) && not x.gone)))

rising_later : {held : List HeldLeaf} {first end i : ℕ} → Rising held first end → first ≤ i → Rising held i end
rising_later u h = record { rise = λ j k a b l x y. u.rise j k (omega arith) b l x y }

module _ (aim : Aim) (g : Label) (named : List Bool) (held : List HeldLeaf) where
  -- those before the first of the field
  pub idle_before : {first end r : ℕ} → Ordered held first end → StartAt (field_of aim) first end r → (j : ℕ) → first ≤ j → j < r → works aim g (marked named j) (leaf_row held j) ≡ false
  idle_before o s j l h = other_field aim g (marked named j) (leaf_row held j) (omega (arith, s.before j l h)) (λ e f. omega (arith, s.before j l h, o.few j l (omega (arith, s.high)) e))

  -- those from leaf i on, which is of a later field
  pub idle_behind : {i end : ℕ} → Rising held i end → i < end → is_behind (field_of aim) (leaf_row held i) ≡ true → (j : ℕ) → i ≤ j → j < end → works aim g (marked named j) (leaf_row held j) ≡ false
  unfolding is_behind
  idle_behind {i} u h e j l m =
      let field = field_of aim in
      let x = leaf_row held i in
      let front = and_left (not (eqb field 0) && not x.gone) (ltb field x.place.field) e in
      let some = eqb-false field 0 (not-true _ (and_left (not (eqb field 0)) (not x.gone) front)) in
      let live = not-true x.gone (and_right (not (eqb field 0)) (not x.gone) front) in
      let behind = ltb-true field x.place.field (and_right (not (eqb field 0) && not x.gone) (ltb field x.place.field) e) in
      other_field aim g (marked named j) (leaf_row held j) (zero_or field (λ z. absurd (some z)) (λ z. z)) (λ q f. omega (arith, behind, u.rise i j (omega arith) l m live q))

-- ---- the leaves and segments that are skipped

-- how many rows are left, from the next on
abbrev pub left : ℕ → Option ℕ → ℕ
left end (Some r) = end - r
left end None = 0

module _ (aim : Aim) (g : Label) (named : List Bool) (held : List HeldLeaf) {i : ℕ} where
  pub skipped_more : {r : ℕ} → Skipped aim g named held i r → works aim g (marked named r) (leaf_row held r) ≡ false → Skipped aim g named held i (r + 1)
  skipped_more {r} s e = record {
    low = omega (arith, s.low);
    idle = λ j l m. below_more (λ j. i ≤ j → works aim g (marked named j) (leaf_row held j) ≡ false) r (λ j m l. s.idle j l m) (λ l. e) j m l;
  }

  -- behind a leaf of a later field none is reached
  pub skipped_rest : {r end : ℕ} → Skipped aim g named held i r → Rising held i end → r < end → is_behind (field_of aim) (leaf_row held r) ≡ true → Skipped aim g named held i end
  skipped_rest {r} {end} s u h e = record {
    low = omega (arith, s.low);
    idle = λ j l m. split j r (λ b. s.idle j l b) (λ b. idle_behind aim g named held (rising_later u s.low) h e j b m);
  }

module _ (aim : Aim) (segs : List HeldSegment) {k : ℕ} where
  pub segments_more : {r : ℕ} → SegmentsSkipped aim segs k r → enters aim (label_at segs r) ≡ false → SegmentsSkipped aim segs k (r + 1)
  segments_more {r} s e = record {
    low = omega (arith, s.low);
    idle = λ j l m. below_more (λ j. k ≤ j → enters aim (label_at segs j) ≡ false) r (λ j m l. s.idle j l m) (λ l. e) j m l;
  }

-- ---- the order of the fields, where leaves are as they were

-- a leaf that is as another has not vanished if that has not, and its field is the same
module _ (β₀ β : Buffers) (j : ℕ) (e : leaves β j ≡ leaves β₀ j) where
  text_as : stored_text β.held β.store j ≡ stored_text β₀.held β₀.store j
  unfolding leaf_at
  text_as = cc

  place_as : place_at β.held j ≡ place_at β₀.held j
  unfolding leaf_at
  place_as = cc

  field_as : (leaf_row β.held j).place.field ≡ (leaf_row β₀.held j).place.field
  unfolding place_at
  field_as = ap (λ (p : Place). p.field) place_as

  live_as : (leaf_row β.held j).gone ≡ false → (leaf_row β₀.held j).gone ≡ false
  live_as h = go (leaf_row β₀.held j).gone refl
    where
      go : (b : Bool) → (leaf_row β₀.held j).gone ≡ b → b ≡ false
      go false q = refl
      go true q =
          let here = live_text β.held β.store j h in
          let gone : stored_text β₀.held β₀.store j ≡ none = unfold stored_text in rw q in
          let z : ◌≡◌ {A = ℕ} 0 1 = cc (text_as) in
          absurd (omega arith)

rising_as : (β₀ β : Buffers) {first end i : ℕ} → first ≤ i → ((j : ℕ) → i ≤ j → j < end → leaves β j ≡ leaves β₀ j) → Rising β₀.held first end → Rising β.held i end
rising_as β₀ β h e o = record {
  rise = λ j k a b l x y.
      let f = e j a (omega arith) in
      let g = e k (omega arith) l in
      omega (arith, field_as β₀ β j f, field_as β₀ β k g, o.rise j k (omega arith) b l (live_as β₀ β j f x) (live_as β₀ β k g y));
}

pub ahead_rising : (β₀ β : Buffers) {first end i : ℕ} → first ≤ i → ((j : ℕ) → i ≤ j → j < end → leaves β j ≡ leaves β₀ j) → Ordered β₀.held first end → Rising β.held i end
ahead_rising β₀ β h e o = rising_as β₀ β h e o.rising

pub ordered_as : (β₀ β : Buffers) {first end : ℕ} → ((j : ℕ) → first ≤ j → j < end → leaves β j ≡ leaves β₀ j) → Ordered β₀.held first end → Ordered β.held first end
ordered_as β₀ β e o = record {
  rising = rising_as β₀ β (omega arith) e o.rising;
  few = λ j a l x. let f = e j a l in omega (arith, field_as β₀ β j f, o.few j a l (live_as β₀ β j f x));
}
