-- Laws of headers. Assumes nothing.
use Rattle.std.proofs.Common.{◌≡◌, refl, sym, Bool, true, false, not, ◌&&◌, ◌||◌, [], ◌∷◌, ℕ, ◌+◌, ◌≤◌, ◌<◌, length, drop, get_or, eqb, ne_eqb, drop_of_length-le}
use Rattle.std.specs.List.{list_any}
use mathlib.Core.Logic.{dite}
use native.Mathlib.Decide.{ℕ_discrete}
use Rattle.text.specs.Text.{Text}
use Rattle.text.proofs.Runs.{drop_step}
use Rattle.message_model.specs.Message.{may_delimit, absent, may_delimit_all}

pub and_end : (b : Bool) → b && true ≡ b
and_end true = refl
and_end false = refl

eqb_comm : (x y : ℕ) → eqb y x ≡ eqb x y
eqb_comm x y = dite (ℕ_discrete x y) (λ e. rw e) (λ ne. rw (ne_eqb x y ne, ne_eqb y x (λ e. ne (sym e))))

not_or : (a b : Bool) → not (a || b) ≡ not a && not b
not_or true b = refl
not_or false b = refl

absent_any : (x : ℕ) (xs : Text) → not (list_any (λ y. eqb y x) xs) ≡ absent x xs
unfolding absent
absent_any x [] = refl
absent_any x (y ∷ xs) = rw (not_or, eqb_comm x y, absent_any x xs)

module _ (t : Text) (i : ℕ) (h : i < length t) {b : Bool}
    (e : b ≡ may_delimit (get_or t i 0) && not (list_any (λ y. eqb y (get_or t i 0)) (drop (i + 1) t))) where
  pub delimits_not : b ≡ false → may_delimit_all (drop i t) ≡ false
  unfolding may_delimit_all
  delimits_not f = rw (drop_step t i h, ← absent_any, ← e, f)

  pub delimits_more : b ≡ true → may_delimit_all (drop i t) ≡ may_delimit_all (drop (i + 1) t)
  unfolding may_delimit_all
  delimits_more f = rw (drop_step t i h, ← absent_any, ← e, f)

pub delimits_end : (t : Text) (i : ℕ) → length t ≤ i → may_delimit_all (drop i t) ≡ true
unfolding may_delimit_all
delimits_end t i h = rw (drop_of_length-le t {i = i} h)
