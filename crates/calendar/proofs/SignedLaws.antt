-- Laws of signed numbers in a range. Assumes nothing.
use Rattle.std.proofs.Common.{w64, SFits, to_z, of_z, to_z-of_z, ◌≡◌, refl, sym, ap, subst, ◌∙◌, true, false, ◌&&◌, ℕ, zero, suc, ◌+◌, ◌-◌, ◌^◌, ◌≤◌, ◌<◌, arith, T, leb, ltb, ℤ, pos, negsuc, nat_abs, ◌+ℤ◌, ◌-ℤ◌, lt-ltb, le-ltb, ltb-false, le-leb}
use Rattle.std.proofs.Math.IntN.{sub_ℕ}
use Rattle.std.specs.Int.Signed.{mag, le_z, non_neg}
use Rattle.std.proofs.lemmas.Bool.{lt-leb}
use Rattle.text.proofs.Laws.{split, clash, at_least, at_most, by_cond}
use Rattle.calendar.specs.Calendar.{in_years}

-- what is read back from the bits of a signed number of 64 bits
pub back : (z : ℤ) → mag z < 2 ^ 63 → to_z w64 (of_z w64 z) ≡ z
back z h = to_z-of_z {w = w64} {z = z} (record { sfits = h })

-- a signed number from a to b is a natural number
pub record Natural (a b : ℕ) (z : ℤ) : Type 0 where
  pub sign : T (non_neg z)
  pub low : a ≤ nat_abs z
  pub high : nat_abs z ≤ b
  pub is : z ≡ pos (nat_abs z)

pub in_range : (a b : ℕ) (z : ℤ) → le_z (pos a) z && le_z z (pos b) ≡ true → Natural a b z
in_range a b (pos n) e = record { sign = tt; low = at_least a n b e; high = at_most a n b e; is = refl }
in_range a b (negsuc n) e = clash (sym e)

pub range_in : (a b n : ℕ) → a ≤ n → n ≤ b → le_z (pos a) (pos n) && le_z (pos n) (pos b) ≡ true
range_in a b n p q = rw (le-leb a n p, le-leb n b q)

-- ---- day a of m, and n days behind it: n is compared with the days that are left on either side

left_above : (m a k : ℕ) → a ≤ m → leb k (m - a) ≡ leb (a + k) m
left_above m a k h =
    split m (a + k)
    (λ g. lt-leb k (m - a) (omega arith) ∙ sym (lt-leb (a + k) m g))
    (λ g. le-leb k (m - a) (omega arith) ∙ sym (le-leb (a + k) m g))

left_below : (b k : ℕ) → (le_z (pos 1 -ℤ pos (suc b)) (pos k) ≡ true) × (le_z (pos 1 -ℤ pos (suc b)) (negsuc k) ≡ ltb k b)
left_below zero k = (le-leb 0 k (omega arith), sym (le-ltb k 0 (omega arith)))
left_below (suc b) k =
    let e = lt-ltb 1 (suc (suc b)) (omega arith) in (
      rw e,
      rw e
          (split k (suc b) (λ g. le-leb k (suc (suc b) - 2) (omega arith) ∙ sym (lt-ltb k (suc b) g)) (λ g. lt-leb k (suc (suc b) - 2) (omega arith) ∙ sym (le-ltb k (suc b) g))),
    )

module _ (m b k : ℕ) (h : suc b ≤ m) where
  behind : b ≤ k → le_z (pos 1) (sub_ℕ (suc b) (suc k)) && le_z (sub_ℕ (suc b) (suc k)) (pos m) ≡ false
  behind g =
      by_cond (λ z. le_z (pos 1) z && le_z z (pos m) ≡ false) (ltb (suc b) (suc k)) (negsuc (suc k - suc (suc b))) (pos (suc b - suc k))
      (λ _. refl)
      (λ e. rw (lt-leb 1 (suc b - suc k) (omega (arith, ltb-false (suc b) (suc k) e))))

  before : k < b → le_z (pos 1) (sub_ℕ (suc b) (suc k)) && le_z (sub_ℕ (suc b) (suc k)) (pos m) ≡ true
  before g = rw (le-ltb (suc b) (suc k) (omega arith), le-leb 1 (suc b - suc k) (omega arith), le-leb (suc b - suc k) m (omega arith))

stays_by : (m a : ℕ) (n : ℤ) → 1 ≤ a → a ≤ m → le_z (pos 1 -ℤ pos a) n && le_z n (pos m -ℤ pos a) ≡ le_z (pos 1) (pos a +ℤ n) && le_z (pos a +ℤ n) (pos m)
stays_by m zero n l h = absurd (omega arith)
stays_by m (suc b) (pos k) l h = rw (le-ltb m (suc b) h, (left_below b k).0, left_above m (suc b) k h, le-leb 1 (suc b + k) (omega arith))
stays_by m (suc b) (negsuc k) l h =
    rw (le-ltb m (suc b) h, (left_below b k).1)
    (split k b (λ g. rw (lt-ltb k b g) (sym (before m b k h g))) (λ g. rw (le-ltb k b g) (sym (behind m b k h g))))

side_fits : (m a : ℕ) → m < 2 ^ 63 → 1 ≤ a → a ≤ 3652059 → SFits w64 (pos m -ℤ pos a)
side_fits m zero g l h = absurd (omega arith)
side_fits m (suc b) g l h =
    record { sfits = by_cond (λ z. mag z < 2 ^ 63) (ltb m (suc b)) (negsuc (suc b - suc m)) (pos (m - suc b)) (λ _. omega arith) (λ _. omega arith) }

-- a day of the years, and any n; z' and n' are read back from their bits
module _ (z n : ℤ) (e : in_years z ≡ true) {z' n' : ℤ} (i : z' ≡ z) (j : n' ≡ n) where
  day_natural : Natural 1 3652059 z
  unfolding in_years
  day_natural = in_range 1 3652059 z e

  pub side : (m : ℕ) → m < 2 ^ 63 → SFits w64 (pos m -ℤ z')
  side m g = let q = day_natural in subst (λ (x : ℤ). SFits w64 (pos m -ℤ x)) (sym (i ∙ q.is)) (side_fits m (nat_abs z) g q.low q.high)

  pub stays_is : le_z (to_z w64 (of_z w64 (pos 1 -ℤ z'))) n' && le_z n' (to_z w64 (of_z w64 (pos 3652059 -ℤ z'))) ≡ in_years (z +ℤ n)
  unfolding in_years
  stays_is =
      let q = day_natural in
      rw (to_z-of_z {w = w64} {z = (pos 1 -ℤ z')} (side 1 (omega arith)), to_z-of_z {w = w64} {z = (pos 3652059 -ℤ z')} (side 3652059 (omega arith)))
      (subst (λ (x : ℤ). le_z (pos 1 -ℤ x) n' && le_z n' (pos 3652059 -ℤ x) ≡ in_years (x +ℤ n')) (sym (i ∙ q.is)) (stays_by 3652059 (nat_abs z) n' q.low q.high)
      ∙ ap (λ (x : ℤ). in_years (x +ℤ n')) i
      ∙ ap (λ (x : ℤ). in_years (z +ℤ x)) j
      )

-- a day of the years fits
pub years_fit : (z : ℤ) → in_years z ≡ true → SFits w64 z
unfolding in_years
years_fit z e = let q = in_range 1 3652059 z e in subst (SFits w64) (sym q.is) (record { sfits = omega (arith, q.high) })

-- a sum of two signed locals, which hold bits
module _ (a b : ℤ) (f : SFits w64 a) (g : SFits w64 b) (h : SFits w64 (a +ℤ b)) where
  pub sum_fits : SFits w64 (to_z w64 (of_z w64 a) +ℤ to_z w64 (of_z w64 b))
  sum_fits = rw (to_z-of_z {w = w64} {z = a} f, to_z-of_z {w = w64} {z = b} g) h

  pub sum_back : to_z w64 (of_z w64 (to_z w64 (of_z w64 a) +ℤ to_z w64 (of_z w64 b))) ≡ a +ℤ b
  sum_back = rw (to_z-of_z {w = w64} {z = a} f, to_z-of_z {w = w64} {z = b} g) (to_z-of_z {w = w64} {z = (a +ℤ b)} h)
