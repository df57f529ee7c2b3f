-- Laws of days as signed numbers. One that is passed on is read back from its bits: n' is n. Assumes nothing.
use mathlib.Core.Path.{◌≡◌, refl, sym, ap, subst, ◌∙◌}
use mathlib.Core.Bool.{Bool, true, false}
use mathlib.Core.List.{◌∷◌}
use Prim.Native.Nat.{ℕ, zero, suc, ◌+◌, ◌≤◌, ◌<◌}
use native.Mathlib.Omega.{arith}
use borrow.Author.Tests.{ltb-true, le-ltb, le-leb, lt-leb}
use lib.IntN.{ℤ, pos, negsuc, nat_abs, neg_ℤ, ◌-ℤ◌, +ℤ_idl}
use lib.Dec.{T}
use lib.Signed.{mag, lt_z, non_neg, nat_abs-le}
use mir.Syntax.{w64}
use mir.Val.{Fits, SFits, to_z, of_z}
use mir.ValLaws.{to_z-of_z}
use Rattle.text.specs.Number.{decimal, take_number}
use Rattle.text.proofs.Laws.{clash, same_ok, same_err}
use Rattle.refusal.specs.declared.Refusal.TheVariants.{BadDayCount}
use Rattle.er7_redact.specs.Action.{DAYS_MAX, signed, days_of, print_days, is_negative, without_sign, whole, read_days}
use Rattle.er7_redact.specs.Inner.{held_days, held_number, Unsigned}
use Rattle.std.proofs.Math.Option.{Option, none, some}
use Rattle.std.proofs.Common.{Ok, Err, drop}
use Rattle.std.proofs.Common as Std
use Rattle.std.specs.Option.{ok_or}
use Rattle.std.specs.Result.{is_ok}
use Rattle.text.specs.Text.{Text}
use Rattle.refusal.specs.declared.Refusal.{Refusal}

-- ---- reading

negative_fits : (k : ℕ) → k ≤ DAYS_MAX → SFits w64 (neg_ℤ (pos k))
negative_fits zero h = record { sfits = omega arith }
negative_fits (suc k) h = record { sfits = omega arith }

-- the code's minus takes a number from 0
module _ (k : ℕ) (h : k ≤ DAYS_MAX) {z : ℤ} (e : z ≡ pos k) where
  minus_is : pos 0 -ℤ z ≡ neg_ℤ (pos k)
  minus_is = ap (λ (x : ℤ). pos 0 -ℤ x) e ∙ +ℤ_idl (neg_ℤ (pos k))

  pub minus_fits : SFits w64 (pos 0 -ℤ z)
  minus_fits = subst (SFits w64) (sym minus_is) (negative_fits k h)

  pub signed_minus : {m : Bool} → m ≡ true → to_z w64 (of_z w64 (pos 0 -ℤ z)) ≡ signed m k
  unfolding signed
  signed_minus p = rw p (to_z-of_z w64 (pos 0 -ℤ z) minus_fits ∙ minus_is)

  pub signed_plus : {m : Bool} → m ≡ false → z ≡ signed m k
  unfolding signed
  signed_plus p = rw p e

-- the days that were read: a number up to the end, behind a sign, that is not too large
module _ {s : Text} {i k : ℕ} {a : Std.Option ℕ} (g : Unsigned without_sign s i k) (w : a ≡ held_number (whole (take_number (drop k s)))) where
  number_is : a ≡ held_number (whole (take_number (without_sign (drop i s))))
  number_is = w ∙ ap (λ (u : Text). held_number (whole (take_number u))) g.is

  found : (o : Option ℕ) {n : ℕ} → Ok n ≡ ok_or (held_number o) BadDayCount → o ≡ some n
  unfolding held_number
  found none e = clash (ap is_ok e)
  found (some x) e = ap some (sym (same_ok _ _ e))

  none_found : (m : Bool) (o : Option ℕ) {x : Refusal} → Err x ≡ ok_or (held_number o) BadDayCount → Err x ≡ held_days (days_of m o)
  unfolding held_number held_days days_of
  none_found m none e = same_err _ _ e
  none_found m (some n) e = clash (sym (ap is_ok e))

  module _ {n : ℕ} (e : Ok n ≡ ok_or a BadDayCount) where
    is_found : whole (take_number (without_sign (drop i s))) ≡ some n
    is_found = found _ (rw number_is at e)

    pub days_read : {z z' : ℤ} {m : Bool} → m ≡ is_negative (drop i s) → n ≤ DAYS_MAX → z' ≡ z → z ≡ signed m n → Ok z' ≡ held_days (read_days (drop i s))
    unfolding held_days days_of read_days
    days_read f h j q = ap Ok (j ∙ q) ∙ sym (rw (← f, is_found, le-leb n DAYS_MAX h))

    pub days_over : DAYS_MAX < n → Err BadDayCount ≡ held_days (read_days (drop i s))
    unfolding held_days days_of read_days
    days_over h = sym (rw (is_found, lt-leb n DAYS_MAX h))

  pub days_bad : {x : Refusal} → Err x ≡ ok_or a BadDayCount → Err x ≡ held_days (read_days (drop i s))
  unfolding read_days
  days_bad e = none_found _ _ (rw number_is at e)

-- ---- the number without its sign

-- -1 - n, where n is below 0
from_minus_one : (n : ℤ) → lt_z n (pos 0) ≡ true → negsuc 0 -ℤ n ≡ pos (mag n)
from_minus_one (pos k) h = absurd (omega (arith, ltb-true k 0 h))
from_minus_one (negsuc k) h = rw (le-ltb (suc k) 1 (omega arith)) (ap pos (omega arith))

negative_size : (n : ℤ) → lt_z n (pos 0) ≡ true → nat_abs n ≡ mag n + 1
negative_size (pos k) h = absurd (omega (arith, ltb-true k 0 h))
negative_size (negsuc k) h = omega arith

module _ (n : ℤ) (f : SFits w64 n) {n' : ℤ} (i : n' ≡ n) (h : lt_z n' (pos 0) ≡ true) where
  less : lt_z n (pos 0) ≡ true
  less = subst (λ (x : ℤ). lt_z x (pos 0) ≡ true) i h

  less_is : negsuc 0 -ℤ n' ≡ pos (mag n)
  less_is = ap (λ (x : ℤ). negsuc 0 -ℤ x) i ∙ from_minus_one n less

  pub less_fits : SFits w64 (negsuc 0 -ℤ n')
  less_fits = subst (SFits w64) (sym less_is) (record { sfits = f.sfits })

  pub less_back : to_z w64 (of_z w64 (negsuc 0 -ℤ n')) ≡ pos (mag n)
  less_back = to_z-of_z w64 (negsuc 0 -ℤ n') less_fits ∙ less_is

  pub less_casts : T (non_neg (to_z w64 (of_z w64 (negsuc 0 -ℤ n')))) × Fits w64 (nat_abs (to_z w64 (of_z w64 (negsuc 0 -ℤ n'))))
  less_casts = subst (λ (x : ℤ). T (non_neg x) × Fits w64 (nat_abs x)) (sym less_back) (tt, record { fits = omega (arith, f.sfits) })

  pub size_fits : Fits w64 (nat_abs (to_z w64 (of_z w64 (negsuc 0 -ℤ n'))) + 1)
  size_fits = subst (λ (x : ℤ). Fits w64 (nat_abs x + 1)) (sym less_back) (record { fits = omega (arith, f.sfits) })

  pub size_is : nat_abs (to_z w64 (of_z w64 (negsuc 0 -ℤ n'))) + 1 ≡ nat_abs n
  size_is = ap (λ (x : ℤ). nat_abs x + 1) less_back ∙ sym (negative_size n less)

not_negative : (n : ℤ) → lt_z n (pos 0) ≡ false → T (non_neg n)
not_negative (pos k) h = tt
not_negative (negsuc k) h = clash h

module _ (n : ℤ) (f : SFits w64 n) {n' : ℤ} (i : n' ≡ n) (h : lt_z n' (pos 0) ≡ false) where
  pub plain_casts : T (non_neg n') × Fits w64 (nat_abs n')
  plain_casts = (not_negative n' h, subst (λ (x : ℤ). Fits w64 (nat_abs x)) (sym i) (record { fits = omega (arith, nat_abs-le n f.sfits) }))

-- ---- printing

days_minus_by : (n : ℤ) → lt_z n (pos 0) ≡ true → print_days n ≡ 0x2d ∷ decimal (nat_abs n)
unfolding print_days
days_minus_by (pos k) h = absurd (omega (arith, ltb-true k 0 h))
days_minus_by (negsuc k) h = refl

days_plus_by : (n : ℤ) → lt_z n (pos 0) ≡ false → print_days n ≡ decimal (nat_abs n)
unfolding print_days
days_plus_by (pos k) h = refl
days_plus_by (negsuc k) h = clash h

module _ (n : ℤ) {n' : ℤ} (i : n' ≡ n) where
  pub days_minus : lt_z n' (pos 0) ≡ true → print_days n ≡ 0x2d ∷ decimal (nat_abs n')
  days_minus h = ap print_days (sym i) ∙ days_minus_by n' h

  pub days_plus : lt_z n' (pos 0) ≡ false → print_days n ≡ decimal (nat_abs n')
  days_plus h = ap print_days (sym i) ∙ days_plus_by n' h
