-- The fields of the leaves of a segment are in order, since each leaf stands next to the one before it. Assumes nothing.
use mathlib.Core.Path.{◌≡◌, refl, ap}
use mathlib.Core.Bool.{Bool, false}
use mathlib.Core.List.{List, ◌∷◌}
use mathlib.Core.Option.{Option, none, some}
use Prim.Native.Nat.{ℕ, zero, suc, ◌+◌, ◌-◌, ◌≤◌, ◌<◌}
use native.Mathlib.Numerals.{add-one}
use native.Mathlib.Omega.{arith}
use Rattle.text.specs.Text.{Text}
use Rattle.text.proofs.Laws.{split}
use Rattle.er7.specs.declared.message.Place.{Place}
use Rattle.message_model.specs.Message.{Leaf, leaf, Label, at_field}
use Rattle.message_model.specs.Chain.{Piece, a_field, a_repetition, a_component, a_subcomponent, next_place, Chain, Chained}
use Rattle.er7_table.specs.declared.table.Leaf.{Leaf as HeldLeaf}
use Rattle.er7_table.specs.declared.table.Segment.{Segment as HeldSegment}
use Rattle.er7_table.specs.Table.{leaf_row, list_of, place_at, stored_text, leaf_at, first_leaf, label_at}
use Rattle.redact_4_leaf.specs.Walk.{segment_of}
use Rattle.redact_4_leaf.specs.State.{Buffers, leaves, marked}
use Rattle.redact_4_leaf.proofs.Acting.{live_text}
use Rattle.redact_2_turn.specs.Ordered.{Ordered, AllOrdered}

-- a leaf in a chain, behind the place p: the place behind which the next one stands
record Stepped (p q : Place) (o : Option Text) (xs : List Leaf) : Type 0 where
  place : Place
  low : p.field ≤ place.field
  high : place.field ≤ p.field + 1
  rest : Chain place xs
  live : (t : Text) → o ≡ some t → place ≡ q

step_low : (k : Piece) (p : Place) → p.field ≤ (next_place k p).field
step_low a_field p = omega arith
step_low a_repetition p = omega arith
step_low a_component p = omega arith
step_low a_subcomponent p = omega arith

step_high : (k : Piece) (p : Place) → (next_place k p).field ≤ p.field + 1
step_high a_field p = omega arith
step_high a_repetition p = omega arith
step_high a_component p = omega arith
step_high a_subcomponent p = omega arith

stepped : (p q : Place) (b : Bool) (o : Option Text) (xs : List Leaf) → Chain p (leaf q b o ∷ xs) → Stepped p q o xs
stepped p q b none xs c = record { place = p; low = omega arith; high = omega arith; rest = c; live = λ t e. let z : ◌≡◌ {A = ℕ} 0 1 = cc in absurd (omega arith) }
stepped p q b (some t) xs ((k, e), c) = record { place = q; low = rw e (step_low k p); high = rw e (step_high k p); rest = c; live = λ u f. refl }

module _ (m : ℕ → Bool) (held : List HeldLeaf) (store : Text) where
  step_at : (i n : ℕ) (p : Place) → Chain p (list_of (leaf_at m held store) i (suc n)) → Stepped p (place_at held i) (stored_text held store i) (list_of (leaf_at m held store) (suc i) n)
  unfolding list_of leaf_at
  step_at i n p c = stepped p (place_at held i) (m i) (stored_text held store i) (list_of (leaf_at m held store) (suc i) n) c

  -- the field of the place behind a leaf that has not vanished
  field_behind : (i n : ℕ) (p : Place) (s : Stepped p (place_at held i) (stored_text held store i) (list_of (leaf_at m held store) (suc i) n)) → (leaf_row held i).gone ≡ false → s.place.field ≡ (leaf_row held i).place.field
  unfolding place_at
  field_behind i n p s e = ap (λ (q : Place). q.field) (s.live _ (live_text held store i e))

  chain_fields : (n i : ℕ) (p : Place) → Chain p (list_of (leaf_at m held store) i n) → (j : ℕ) → i ≤ j → j < i + n → (leaf_row held j).gone ≡ false
      → (p.field ≤ (leaf_row held j).place.field) × ((leaf_row held j).place.field ≤ p.field + (j - i) + 1)
  chain_fields zero i p c j a b e = absurd (omega arith)
  chain_fields (suc n) i p c j a b e =
      let s = step_at i n p c in
      split i j
      (λ h. let r = chain_fields n (suc i) s.place s.rest j h (omega arith) e in (omega (arith, r.0, s.low), omega (arith, r.1, s.high)))
      (λ h. let q : j ≡ i = omega arith in let f = field_behind i n p s (rw q at e) in rw q (omega (arith, f, s.low), omega (arith, f, s.high)))

  chain_rises : (n i : ℕ) (p : Place) → Chain p (list_of (leaf_at m held store) i n) → (j k : ℕ) → i ≤ j → j ≤ k → k < i + n → (leaf_row held j).gone ≡ false → (leaf_row held k).gone ≡ false
      → (leaf_row held j).place.field ≤ (leaf_row held k).place.field
  chain_rises zero i p c j k a b l e f = absurd (omega arith)
  chain_rises (suc n) i p c j k a b l e f =
      let s = step_at i n p c in
      split i j
      (λ h. chain_rises n (suc i) s.place s.rest j k h b (omega arith) e f)
      (λ h. let q : j ≡ i = omega arith in let g = field_behind i n p s (rw q at e) in behind s q g)
    where
      behind : (s : Stepped p (place_at held i) (stored_text held store i) (list_of (leaf_at m held store) (suc i) n)) → j ≡ i → s.place.field ≡ (leaf_row held i).place.field → (leaf_row held j).place.field ≤ (leaf_row held k).place.field
      behind s q g =
          split i k (λ h. rw q (omega (arith, g, (chain_fields n (suc i) s.place s.rest k h (omega arith) f).0)))
          (λ h. let r : k ≡ j = omega arith in rw r (omega arith))

  chain_ordered : (first end : ℕ) → Chain (at_field 0) (list_of (leaf_at m held store) first (end - first)) → Ordered held first end
  unfolding at_field
  chain_ordered first end c = record {
    rising = record { rise = λ i j a b l e f. chain_rises (end - first) first (at_field 0) c i j a b (omega arith) e f };
    few = λ j a l e. omega (arith, (chain_fields (end - first) first (at_field 0) c j a (omega arith) e).1);
  }

-- the same of segments
chain_at : (labels : ℕ → Label) (firsts : ℕ → ℕ) (f : ℕ → Leaf) (n i : ℕ) → Chained (list_of (segment_of labels firsts f) i n) → (k : ℕ) → i ≤ k → k < i + n → Chain (at_field 0) (list_of f (firsts k) (firsts (suc k) - firsts k))
unfolding list_of segment_of
chain_at labels firsts f zero i c k a l = absurd (omega arith)
chain_at labels firsts f (suc n) i c k a l =
    split i k (λ h. chain_at labels firsts f n (suc i) c.1 k h (omega arith)) (λ h. let q : k ≡ i = omega arith in rw q c.0)

pub chained_ordered : (segs : List HeldSegment) (m : ℕ) (β : Buffers) → Chained (list_of (segment_of (label_at segs) (first_leaf segs) (leaves β)) 0 m) → AllOrdered segs β.held m
chained_ordered segs m β c = record {
  ordered = λ k h. rw add-one (chain_ordered (marked β.named) β.held β.store (first_leaf segs k) (first_leaf segs (suc k)) (chain_at (label_at segs) (first_leaf segs) (leaves β) m 0 c k (omega arith) (omega arith)));
}
