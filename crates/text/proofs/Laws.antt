-- Laws of tests. Assumes nothing.
use mathlib.Core.Path.{◌≡◌, refl, ap}
use Rattle.std.proofs.Common.{Result, Ok, Err}
use Rattle.std.specs.Result.{result_ok, result_err}
use Rattle.std.proofs.lemmas.Option.{same_Some}
use mathlib.Core.Bool.{Bool, true, false, cond, ◌&&◌, ◌||◌}
use mathlib.Core.Option.{Option, none, some}
use Prim.Native.Nat.{ℕ, ◌≤◌, ◌<◌}
use native.Mathlib.Decide.{dec_lt}
use native.Mathlib.Omega.{arith}
use borrow.Author.Tests.{leb-true, eqb-false}
use lib.Dec.{leb}

pub split {ℓ} : {X : Type ℓ} (a b : ℕ) → (a < b → X) → (b ≤ a → X) → X
split a b f g = elim (dec_lt a b) [ yes h ↦ f h | no h ↦ g (omega arith) ]

pub and_left : (a b : Bool) → a && b ≡ true → a ≡ true
and_left true b e = refl
and_left false b e = e

pub and_right : (a b : Bool) → a && b ≡ true → b ≡ true
and_right true b e = e
and_right false true e = refl
and_right false false e = e

pub clash : {X : Type 0} → true ≡ false → X
clash e = absurd (eqb-false 0 0 e refl)

pub at_least : (a x b : ℕ) → leb a x && leb x b ≡ true → a ≤ x
at_least a x b e = leb-true a x (and_left (leb a x) (leb x b) e)

pub at_most : (a x b : ℕ) → leb a x && leb x b ≡ true → x ≤ b
at_most a x b e = leb-true x b (and_right (leb a x) (leb x b) e)

pub and_false : (a : Bool) → a && false ≡ false
and_false true = refl
and_false false = refl

pub and_id : (a : Bool) → a && true ≡ a
and_id true = refl
and_id false = refl

pub or_id : (a : Bool) → a || false ≡ a
or_id true = refl
or_id false = refl

pub or_true : (a : Bool) → a || true ≡ true
or_true true = refl
or_true false = refl

pub and_true : (a b : Bool) → a ≡ true → b ≡ true → a && b ≡ true
and_true a b e f = rw (e, f)

-- a choice, by its test
pub by_cond {ℓ κ} : {X : Type ℓ} (P : X → Type κ) (b : Bool) (x y : X) → (b ≡ true → P x) → (b ≡ false → P y) → P (cond b x y)
by_cond P true x y f g = f refl
by_cond P false x y f g = g refl

-- 0 or not
pub zero_or {ℓ} : {X : Type ℓ} (n : ℕ) → (n ≡ 0 → X) → (0 < n → X) → X
zero_or n f g = split 0 n g (λ h. f (omega arith))

-- nothing, or something of which P holds
abbrev pub Maybe : {X : Type 0} → (X → Type 0) → Option X → Type 0
Maybe P none = Unit {0}
Maybe P (some x) = P x

-- ---- results

pub same_ok : {A E : Type 0} (x y : A) → ◌≡◌ {A = Result A E} (Ok x) (Ok y) → x ≡ y
same_ok x y e = same_Some x y (ap result_ok e)

-- an error stands beside a value of any type
pub same_err : {A B E : Type 0} (x y : E) → ◌≡◌ {A = Result A E} (Err x) (Err y) → ◌≡◌ {A = Result B E} (Err x) (Err y)
same_err x y e = ap Err (same_Some x y (ap result_err e))
