-- Laws of a comparison eight bytes at a time. Assumes nothing.
use Rattle.std.proofs.Common.{◌≡◌, refl, sym, ap, ◌∙◌, ℕ, ◌+◌, ◌-◌, ◌≤◌, ◌<◌, Bool, true, false, ◌&&◌, [], ◌∷◌, ◌++◌, length, take, drop, get_or, arith, eqb, take_all, take-take, take-add, drop-drop}
use Rattle.std.proofs.Math.Bool.{and_assoc}
use Rattle.text.specs.Text.{Text, same, begins, part}
use Rattle.text.proofs.Laws.{and_id}
use Rattle.text.proofs.Runs.{part_more}
use Rattle.text.proofs.Kept.{part_take, part_length}
use Rattle.text.proofs.Words.{same_refl, same_eq}

-- ---- eight bytes

-- one byte more on both sides
same_more : (s t : Text) (x y : ℕ) → length s ≡ length t → same (s ++ x ∷ []) (t ++ y ∷ []) ≡ same s t && eqb x y
unfolding same
same_more [] [] x y h = and_id (eqb x y)
same_more [] (b ∷ t) x y h = absurd (omega arith)
same_more (a ∷ s) [] x y h = absurd (omega arith)
same_more (a ∷ s) (b ∷ t) x y h = rw (same_more s t x y (omega arith)) (sym (and_assoc (eqb a b) (same s t) (eqb x y)))

-- n bytes of v from index j on and of t from index k on have been compared
pub record Matching (v : Text) (j : ℕ) (t : Text) (k n : ℕ) (alike : Bool) : Type 0 where
  pub few : n ≤ 8
  pub is : alike ≡ same (part v j n) (part t k n)

module _ (v : Text) (j : ℕ) (t : Text) (k : ℕ) where
  pub matching_start : Matching v j t k 0 true
  unfolding part same
  matching_start = record { few = omega arith; is = refl }

  module _ (in-v : j + 8 ≤ length v) (in-t : k + 8 ≤ length t) where
    pub matching_more : {n : ℕ} {alike : Bool} → Matching v j t k n alike → n < 8
        → Matching v j t k (n + 1) (alike && eqb (get_or v (j + n) 0) (get_or t (k + n) 0))
    matching_more {n} {alike} g h =
        record {
          few = omega arith;
          is = rw (part_more v j n (j + n) refl (omega arith), part_more t k n (k + n) refl (omega arith)) (ap (λ (b : Bool). b && eqb (get_or v (j + n) 0) (get_or t (k + n) 0)) g.is
              ∙ sym (same_more (part v j n) (part t k n) _ _ (part_length v j n (omega arith) ∙ sym (part_length t k n (omega arith)))));
        }

  pub matching_end : {n : ℕ} {alike : Bool} → Matching v j t k n alike → 8 ≤ n → alike ≡ same (part v j 8) (part t k 8)
  matching_end {n} {alike} g h = let e : n ≡ 8 = omega (arith, g.few) in g.is ∙ ap (λ (n : ℕ). same (part v j n) (part t k n)) e

-- ---- all of a value

-- a text begins with v if v is what it begins with
begins_itself : (v s : Text) → v ≡ take (length v) s → begins v s ≡ true
unfolding begins
begins_itself v s e = ap (same v) (sym e) ∙ same_refl v

-- the first j bytes of v stand in t from index i on
pub record Standing (v t : Text) (i j : ℕ) : Type 0 where
  pub high : j ≤ length v
  pub is : take j v ≡ part t i j

module _ (v t : Text) (i : ℕ) where
  pub standing_start : Standing v t i 0
  unfolding part
  standing_start = record { high = omega arith; is = refl }

  -- eight bytes more
  eight_more : (j : ℕ) → same (part v j 8) (part t (i + j) 8) ≡ true → {k : ℕ} → take j v ≡ part t i j → k ≡ j + 8 → take k v ≡ part t i k
  unfolding part
  eight_more j e f q =
      rw (q, take-add j 8 v, take-add j 8 (drop i t), drop-drop j i t, f, same_eq (part v j 8) (part t (i + j) 8) e)

  pub standing_more : {j : ℕ} → Standing v t i j → j + 8 ≤ length v → true ≡ same (part v j 8) (part t (i + j) 8) → Standing v t i (j + 8)
  standing_more {j} g h e = record { high = h; is = eight_more j (sym e) g.is refl }

  pub eight_differ : (j : ℕ) → j + 8 ≤ length v → false ≡ same (part v j 8) (part t (i + j) 8) → false ≡ begins v (drop i t)
  unfolding begins part
  eight_differ j h e = sym (by_same (same v (take (length v) (drop i t))) refl)
    where
      by_same : (b : Bool) → same v (take (length v) (drop i t)) ≡ b → b ≡ false
      by_same false q = refl
      by_same true q =
          let s = take (length v) (drop i t) in
          let w : part v j 8 ≡ part t (i + j) 8 = ap (λ (s : Text). part s j 8) (same_eq v s q) ∙ part_take (drop i t) (length v) j 8 h ∙ ap (take 8) (drop-drop j i t) in
          sym (same_refl (part t (i + j) 8)) ∙ ap (λ (s : Text). same s (part t (i + j) 8)) (sym w) ∙ sym e

  -- the last eight bytes, some of them compared before
  pub standing_end : {last j : ℕ} {b : Bool} → Standing v t i j → 8 ≤ length v → last ≡ length v - 8 → last ≤ j
      → b ≡ same (part v last 8) (part t (i + last) 8) → b ≡ begins v (drop i t)
  unfolding part
  standing_end {last = last} {b = false} g h n l e = eight_differ last (omega arith) e
  standing_end {last = last} {j = j} {b = true} g h n l e =
      let f : take last v ≡ part t i last = sym (take-take last j v l) ∙ ap (take last) g.is ∙ take-take last j (drop i t) l in
      let k : length v ≡ last + 8 = omega arith in
      sym (begins_itself v (drop i t) (sym (take_all (length v) v (omega arith)) ∙ eight_more last (sym e) f k))
