-- Laws of texts that hold a date. Assumes nothing.
use Rattle.std.proofs.Common.{w64, SFits, ◌≡◌, refl, sym, ap, ◌∙◌, Bool, true, false, ◌&&◌, ◌||◌, [], ◌++◌, ℕ, ◌+◌, ◌≤◌, arith, eqb-true, eqb, ℤ, pos, nat_abs, ◌+ℤ◌, length, drop, length-drop, length-append}
use Rattle.text.specs.Text.{Text, is_digit, all, Wrote}
use Rattle.text.proofs.Laws.{and_left, and_right, by_cond}
use Rattle.text.proofs.Spelling.{positional_length}
use Rattle.text.proofs.Writes.{wrote_none, wrote_then, wrote_length}
use Rattle.calendar.specs.declared.dates.Date.{Date}
use Rattle.calendar.specs.Calendar.{is_date, day_number, in_years, DateAt}
use Rattle.calendar.specs.Shift.{target, moved, digit, date_text, front, is_long, is_dated, is_moved, shifted}
use Rattle.calendar.specs.Inner.{DayRoom, day_text}
use Rattle.calendar.proofs.Moves.{in_years_lem, date_is, date_in_years}
use Rattle.calendar.proofs.SignedLaws.{years_fit}

-- ---- the form

or_cases {ℓ} : {X : Type ℓ} (a b : Bool) → a || b ≡ true → (a ≡ true → X) → (b ≡ true → X) → X
or_cases true b e f g = f refl
or_cases false b e f g = g e

pub long_bounds : (n : ℕ) → is_long n ≡ true → (8 ≤ n) × (n ≤ 14)
unfolding is_long
long_bounds n e =
    or_cases (eqb n 8 || eqb n 12) (eqb n 14) e
    (λ h. or_cases (eqb n 8) (eqb n 12) h (λ p. omega (arith, eqb-true n 8 p)) (λ p. omega (arith, eqb-true n 12 p)))
    (λ p. omega (arith, eqb-true n 14 p))

-- what `is_dated` says
pub record Dated (s : Text) : Type 0 where
  pub long : is_long (length s) ≡ true
  pub low : 8 ≤ length s
  pub high : length s ≤ 14
  pub digits : all is_digit s ≡ true
  pub date : is_date (front s) ≡ true

pub dated_of : (s : Text) → is_dated s ≡ true → Dated s
unfolding is_dated
dated_of s e =
    let a = and_left (is_long (length s) && all is_digit s) (is_date (front s)) e in
    let l = and_left (is_long (length s)) (all is_digit s) a in record {
      long = l;
      low = (long_bounds (length s) l).0;
      high = (long_bounds (length s) l).1;
      digits = and_right (is_long (length s)) (all is_digit s) a;
      date = and_right (is_long (length s) && all is_digit s) (is_date (front s)) e;
    }

-- ---- the writes. A signed local that is passed on is read back from its bits: z' is z

pub date_length : (x : Date) → length (date_text x) ≡ 8
unfolding date_text
date_length x = positional_length 10 digit 8 _

module _ {z z' : ℤ} (s d y : Text) (at : ℕ) (r : DayRoom z s at d) (e : y ≡ drop 8 s) (i : z' ≡ z) where
  -- the date, and behind it the rest
  pub day_written : (x : Date) {d₁ d₂ : Text} {k j : ℕ} → DateAt (nat_abs z') x → Wrote d at (date_text x) d₁ k → Wrote d₁ k y d₂ j → Wrote d at (day_text z s) d₂ j
  unfolding day_text
  day_written x a v w = let q = in_years_lem z r.known in rw (← date_is q.low q.high (rw i at a), ← e) (wrote_then v w)

  -- there is room for the rest
  pub rest_room : (x : Date) {d₁ : Text} {k : ℕ} → Wrote d at (date_text x) d₁ k → k + length y ≤ length d₁
  rest_room x v = rw e (omega (arith, v.end, date_length x, wrote_length v, length-drop 8 s, r.low, r.room))

-- ---- whether a value is moved

-- the day of its date, z, read back from its bits as z'
pub day_in_years : (s : Text) {z z' : ℤ} → is_dated s ≡ true → z' ≡ z → z ≡ pos (day_number (front s)) → in_years z' ≡ true
day_in_years s e i q = ap in_years (i ∙ q) ∙ date_in_years (front s) (dated_of s e).date

-- what `is_moved` told; n' is n, read back from its bits
pub moved_told : {n n' : ℤ} (s : Text) {t b : Bool} → n' ≡ n → t ≡ is_moved n' s → t ≡ b → is_moved n s ≡ b
moved_told s j e f = ap (λ (m : ℤ). is_moved m s) (sym j) ∙ sym e ∙ f

pub record Moved (n : ℤ) (s : Text) : Type 0 where
  pub dated : is_dated s ≡ true
  pub years : in_years (target n (front s)) ≡ true

pub moved_of : (n : ℤ) (s : Text) → is_moved n s ≡ true → Moved n s
unfolding is_moved
moved_of n s e = record { dated = and_left (is_dated s) _ e; years = and_right (is_dated s) _ e }

pub moved_fits : (n : ℤ) (s : Text) → is_moved n s ≡ true → {z : ℤ} → z ≡ pos (day_number (front s)) → SFits w64 (z +ℤ n)
unfolding target
moved_fits n s e q = years_fit _ (ap (λ (x : ℤ). in_years (x +ℤ n)) q ∙ (moved_of n s e).years)

module _ (n : ℤ) (s : Text) where
  pub cleared_is : is_moved n s ≡ false → shifted n s ≡ []
  unfolding shifted
  cleared_is e = rw e

  pub shifted_is : is_moved n s ≡ true → shifted n s ≡ date_text (moved n (front s)) ++ drop 8 s
  unfolding shifted
  shifted_is e = rw e

  pub shifted_long : is_moved n s ≡ true → length (shifted n s) ≡ length s
  shifted_long e =
      let d = dated_of s (moved_of n s e).dated in
      rw (shifted_is e) (length-append (date_text (moved n (front s))) (drop 8 s) ∙ omega (arith, date_length (moved n (front s)), length-drop 8 s, d.low))

  pub shifted_short : length (shifted n s) ≤ length s
  unfolding shifted
  shifted_short =
      by_cond (λ (t : Text). length t ≤ length s) (is_moved n s) (date_text (moved n (front s)) ++ drop 8 s) []
      (λ e. omega (arith, ap length (shifted_is e), shifted_long e))
      (λ _. omega arith)

  pub cleared_written : (d : Text) (at : ℕ) → is_moved n s ≡ false → at ≤ length d → Wrote d at (shifted n s) d at
  cleared_written d at e h = rw (cleared_is e) (wrote_none d at h)

  module _ (e : is_moved n s ≡ true) {n' z z' : ℤ} (j : n' ≡ n) (i : z' ≡ z) (q : z ≡ target n' (front s)) where
    day_is : z' ≡ target n (front s)
    day_is = i ∙ q ∙ ap (λ (m : ℤ). target m (front s)) j

    pub day_room : (d : Text) (at : ℕ) → at + length (shifted n s) ≤ length d → DayRoom z' s at d
    day_room d at h =
        let m = moved_of n s e in
        record { known = ap in_years day_is ∙ m.years; low = (dated_of s m.dated).low; room = omega (arith, shifted_long e) }

    pub shift_written : {d d₁ : Text} {at k : ℕ} → Wrote d at (day_text z' s) d₁ k → Wrote d at (shifted n s) d₁ k
    unfolding day_text moved
    shift_written w = rw (shifted_is e) (rw day_is at w)
