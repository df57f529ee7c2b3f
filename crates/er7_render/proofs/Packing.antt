-- Compaction. Assumes nothing.
use Rattle.std.proofs.Common.{◌≡◌, refl, sym, ap, ◌∙◌, Bool, true, false, cond, List, ℕ, ◌+◌, ◌-◌, ◌≤◌, ◌<◌, length, take, arith, add-one, length-take-le}
use Rattle.std.proofs.Math.Option.{none, some}
use mathlib.Core.Logic.{dite}
use native.Mathlib.Decide.{ℕ_discrete}
use Rattle.text.specs.Text.{Text, part, Wrote}
use Rattle.text.proofs.Kept.{part_length, part_kept, wrote_same, wrote_part}
use Rattle.text.proofs.Writes.{wrote_length}
use Rattle.er7_table.specs.declared.table.Leaf.{Leaf as HeldLeaf}
use Rattle.er7_table.specs.Table.{leaf_row, place_at, stored_text, leaf_at, Good}
use Rattle.er7_render.specs.Stored.{TextSet, live_len, live_sum, Packed}
use Rattle.er7_render.specs.Inner.{InStore, LeafPacked}
use Rattle.er7_render.proofs.Sums.{sum_step}

-- ---- one leaf

live_most : (held : List HeldLeaf) (i : ℕ) → live_len held i ≤ (leaf_row held i).len
unfolding live_len
live_most held i = go (leaf_row held i).gone
  where
    go : (b : Bool) → cond b 0 (leaf_row held i).len ≤ (leaf_row held i).len
    go true = omega arith
    go false = omega arith

module _ (held : List HeldLeaf) (store : Text) (i : ℕ) (g : InStore store (leaf_row held i)) where
  pub live_end : (leaf_row held i).start + live_len held i ≤ length store
  live_end = omega (arith, live_most held i, g.end)

  module _ (n : ℕ) (e : n ≡ live_len held i) {t : Text} (q : t ≡ part store (leaf_row held i).start n) where
    pub copy_room : (at : ℕ) {m : ℕ} → at + live_len held i ≤ m → at + length t ≤ m
    copy_room at h = rw (q, e, part_length store (leaf_row held i).start (live_len held i) live_end) h

    pub leaf_packed : {spare spare' : Text} {at r : ℕ} {held' : List HeldLeaf} → Wrote spare at t spare' r
        → TextSet held i at n held' → LeafPacked held store i spare at held' spare' r
    leaf_packed w v = record { set = rw (← e) v; wrote = rw (← e, ← q) w }

-- ---- a text in a store that begins alike

text_over : (held : List HeldLeaf) (store store' : Text) (e : ℕ) → take e store' ≡ take e store → (i : ℕ) → (leaf_row held i).start + (leaf_row held i).len ≤ e → stored_text held store' i ≡ stored_text held store i
unfolding stored_text
text_over held store store' e q i h = rw (part_kept store store' e q (leaf_row held i).start (leaf_row held i).len h)

part_front : (t : Text) (n : ℕ) → take n t ≡ part t 0 n
unfolding part
part_front t n = refl

-- ---- the loop

sum_next : (held : List HeldLeaf) (i n : ℕ) → i < n → live_sum held i (n - i) ≡ live_len held i + live_sum held (i + 1) (n - (i + 1))
sum_next held i n h = rw add-one (sum_step held i n h)

-- the texts of the first i leaves fill `at` bytes of the spare buffer; the rows from i on are as they were
pub record Packing (held : List HeldLeaf) (store : Text) (n i : ℕ) (held' : List HeldLeaf) (spare : Text) (at : ℕ) : Type 0 where
  pub within : i ≤ n
  pub rows : length held' ≡ length held
  pub left : at + live_sum held i (n - i) ≡ live_sum held 0 n
  pub room : live_sum held 0 n ≤ length spare
  pub ends : (k : ℕ) → k < i → (leaf_row held' k).start + (leaf_row held' k).len ≤ at
  pub text : (k : ℕ) → k < i → stored_text held' spare k ≡ stored_text held store k
  pub place : (k : ℕ) → place_at held' k ≡ place_at held k
  pub behind : (k : ℕ) → i ≤ k → leaf_row held' k ≡ leaf_row held k

pub pack_start : (held : List HeldLeaf) (store : Text) (n : ℕ) (spare : Text) → live_sum held 0 n ≤ length spare → Packing held store n 0 held spare 0
pack_start held store n spare h = record {
  within = omega arith;
  rows = refl;
  left = let q : n - 0 ≡ n = omega arith in rw q (omega arith);
  room = h;
  ends = λ k x. absurd (omega arith);
  text = λ k x. absurd (omega arith);
  place = λ k. refl;
  behind = λ k x. refl;
}

module _ {held : List HeldLeaf} {store : Text} {n i : ℕ} {held' : List HeldLeaf} {spare : Text} {at : ℕ}
    (g : Good held store n (length store)) (p : Packing held store n i held' spare at) where
  live_same : live_len held' i ≡ live_len held i
  unfolding live_len
  live_same = rw (p.behind i (omega arith))

  module _ (h : i < n) where
    pub pack_row : i < length held'
    pack_row = omega (arith, g.rows, p.rows)

    pub pack_in_store : InStore store (leaf_row held' i)
    pack_in_store = record { end = rw (p.behind i (omega arith)) (g.ends i h) }

    pub pack_room : at + live_len held' i ≤ length spare
    pack_room = rw live_same (omega (arith, p.left, p.room, sum_next held i n h))

    module _ {held'' : List HeldLeaf} {spare' : Text} {r : ℕ} (w : LeafPacked held' store i spare at held'' spare' r) where
      text_long_lem : length (part store (leaf_row held' i).start (live_len held' i)) ≡ live_len held' i
      unfolding part
      text_long_lem = part_length store (leaf_row held' i).start (live_len held' i) (live_end held' store i pack_in_store)

      end_is : r ≡ at + live_len held i
      end_is = omega (arith, w.wrote.end, text_long_lem, live_same)

      text_here : stored_text held'' spare' i ≡ stored_text held store i
      unfolding stored_text live_len
      text_here =
          let q : part spare' at (live_len held' i) ≡ part store (leaf_row held' i).start (live_len held' i) =
          ap (part spare' at) (sym text_long_lem) ∙ wrote_part w.wrote in
          rw (w.set.begins, w.set.long, q, live_same, w.set.gone i, p.behind i (omega arith)) (go (leaf_row held i).gone)
        where
          go : (b : Bool) → cond b none (some (part store (leaf_row held i).start (cond b 0 (leaf_row held i).len))) ≡ cond b none (some (part store (leaf_row held i).start (leaf_row held i).len))
          go true = refl
          go false = refl

      text_other : (k : ℕ) → k < i → stored_text held'' spare' k ≡ stored_text held store k
      text_other k x = w.set.other_text spare' k (λ e. absurd (omega arith)) ∙ over ∙ p.text k x
        where
          over : stored_text held' spare' k ≡ stored_text held' spare k
          over = text_over held' spare spare' at (wrote_same w.wrote).same k (p.ends k x)

      pub pack_next : Packing held store n (i + 1) held'' spare' r
      pack_next = record {
        within = omega arith;
        rows = w.set.rows ∙ p.rows;
        left = omega (arith, p.left, sum_next held i n h, end_is);
        room = rw (wrote_length w.wrote) p.room;
        ends = λ k x. dite (ℕ_discrete k i) (λ e. rw (e, w.set.begins, w.set.long) (omega (arith, end_is, live_same)))
            (λ ne. rw (w.set.other k ne) (omega (arith, p.ends k (omega arith), end_is)));
        text = λ k x. dite (ℕ_discrete k i) (λ e. rw e text_here) (λ ne. text_other k (omega arith));
        place = λ k. w.set.place k ∙ p.place k;
        behind = λ k x. w.set.other k (λ e. absurd (omega arith)) ∙ p.behind k (omega arith);
      }

  pub pack_all : n ≤ i → Packed held store n held' spare at
  unfolding live_sum leaf_at
  pack_all h =
      let z : n - i ≡ 0 = omega arith in
      let s : at + 0 ≡ live_sum held 0 n = rw z at p.left in
      record {
        size = omega arith;
        rows = p.rows;
        good = record { rows = rw p.rows g.rows; room = omega (arith, p.room); ends = λ k x. p.ends k (omega arith) };
        place = p.place;
        text = λ k x. p.text k (omega arith);
        leaf = λ named k x. rw (p.place k, p.text k (omega arith));
      }

-- ---- and back

-- the first r bytes of the spare buffer become those of the store
pub pack_back : {held : List HeldLeaf} {store : Text} {n : ℕ} {held' : List HeldLeaf} {spare : Text} {r : ℕ} → Packed held store n held' spare r
    → {old store' : Text} {m : ℕ} → Wrote old 0 (take r spare) store' m → Packed held store n held' store' r
unfolding leaf_at
pack_back {held} {store} {n} {held'} {spare} {r} p {old} {store'} {m} w =
    let l : length (take r spare) ≡ r = length-take-le r spare p.good.room in
    let e : m ≡ r = omega (arith, w.end, l) in
    let q : take r store' ≡ take r spare = ap (λ (k : ℕ). take k store') (sym l) ∙ part_front store' (length (take r spare)) ∙ wrote_part w in
    let t : (i : ℕ) → i < n → stored_text held' store' i ≡ stored_text held store i = λ i h. text_over held' spare store' r q i (p.good.ends i h) ∙ p.text i h in
    record {
      size = p.size;
      rows = p.rows;
      good = record { rows = p.good.rows; room = omega (arith, w.high, wrote_length w); ends = p.good.ends };
      place = p.place;
      text = t;
      leaf = λ named i h. rw (p.place i, t i h);
    }
