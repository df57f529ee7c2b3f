-- "Where both results stay in the years, moving by n and then by minus n gives the date back", on texts. Assumes nothing.
use Rattle.std.proofs.Common.{◌≡◌, ap, ◌∙◌, true, ◌++◌, ℕ, ◌<◌, arith, ℤ, pos, neg_ℤ, length, take, drop, length-take, length-drop, length-append, take-append-drop, take_at, drop_at}
use Rattle.text.specs.Text.{Text, is_digit, all}
use Rattle.text.specs.Number.{worth, positional}
use Rattle.text.proofs.Runs.{all_append}
use Rattle.calendar.specs.declared.dates.Date.{Date}
use Rattle.calendar.specs.Calendar.{is_date, day_number, in_years}
use Rattle.calendar.specs.Shift.{target, moved, stamp, date_in, digit, date_text, front, is_dated, is_moved, shifted, ShiftBack}
use Rattle.calendar.proofs.DateLaws.{Bounds, bounds_of, day_short}
use Rattle.calendar.proofs.Places.{same_date}
use Rattle.calendar.proofs.Moves.{date_in_years, moved_at, target_back, move_back}
use Rattle.calendar.proofs.Digits.{spelled, worth_eight, all_positional, all_parts}
use Rattle.calendar.proofs.TextLaws.{Dated, dated_of, moved_of, date_length, shifted_is}

-- ---- a date and its number YYYYMMDD

stamp_again : (n : ℕ) → stamp (date_in n) ≡ n
unfolding stamp date_in
stamp_again n = omega arith

module _ (d : Date) (b : Bounds d) where
  stamp_small : stamp d < 100000000
  unfolding stamp
  stamp_small = omega (arith, day_short d b)

  stamp_back : date_in (stamp d) ≡ d
  unfolding stamp date_in
  stamp_back =
      let s = day_short d b in
      same_date _ d (omega arith) (omega arith) (omega arith)

-- ---- a date and its text

front_text : (d : Date) (r : Text) → is_date d ≡ true → front (date_text d ++ r) ≡ d
unfolding front date_text
front_text d r p =
    let b = bounds_of d p in
    ap (λ t. date_in (worth 0 t)) (take_at (date_text d) r 8 (date_length d)) ∙ ap date_in (worth_eight (stamp d) (stamp_small d b)) ∙ stamp_back d b

text_front : (t : Text) → Dated t → date_text (front t) ++ drop 8 t ≡ t
unfolding date_text front
text_front t h =
    let l : length (take 8 t) ≡ 8 = length-take 8 t ∙ omega (arith, h.low) in
    let a = all_parts (take 8 t) (drop 8 t) (rw (take-append-drop 8 t) h.digits) in
    let e : positional 10 digit 8 (worth 0 (take 8 t)) ≡ take 8 t = rw l at (spelled (take 8 t) a.0) in
    rw (stamp_again (worth 0 (take 8 t)), e) (take-append-drop 8 t)

-- another date in the place of a text's date
module _ (t : Text) (h : Dated t) (d : Date) (p : is_date d ≡ true) where
  put_long : length (date_text d ++ drop 8 t) ≡ length t
  put_long = length-append (date_text d) (drop 8 t) ∙ omega (arith, date_length d, length-drop 8 t, h.low)

  put_digits : all is_digit (date_text d ++ drop 8 t) ≡ true
  unfolding date_text
  put_digits =
      all_append is_digit (date_text d) (drop 8 t) (all_positional 8 (stamp d))
      (all_parts (take 8 t) (drop 8 t) (rw (take-append-drop 8 t) h.digits)).1

  put_dated : is_dated (date_text d ++ drop 8 t) ≡ true
  unfolding is_dated
  put_dated = rw (put_long, h.long, put_digits, front_text d (drop 8 t) p, p)

-- ---- the shift

moved_is : (n : ℤ) (t : Text) → is_dated t ≡ true → in_years (target n (front t)) ≡ true → is_moved n t ≡ true
unfolding is_moved
moved_is n t p q = rw (p, q)

pub shift_back : ShiftBack
shift_back n t e =
    let k = moved_of n t e in
    let h = dated_of t k.dated in
    let d = moved n (front t) in
    let v = (moved_at n (front t) k.years).valid in
    let f : front (date_text d ++ drop 8 t) ≡ d = front_text d (drop 8 t) v in
    let y : target (neg_ℤ n) (front (date_text d ++ drop 8 t)) ≡ pos (day_number (front t)) = ap (target (neg_ℤ n)) f ∙ target_back n (front t) k.years in
    let m : moved (neg_ℤ n) (front (date_text d ++ drop 8 t)) ≡ front t = ap (moved (neg_ℤ n)) f ∙ move_back n (front t) k.years h.date in
    ap (shifted (neg_ℤ n)) (shifted_is n t e)
    ∙ shifted_is (neg_ℤ n) (date_text d ++ drop 8 t) (moved_is (neg_ℤ n) (date_text d ++ drop 8 t) (put_dated t h d v) (ap in_years y ∙ date_in_years (front t) h.date))
    ∙ rw (m, drop_at (date_text d) (drop 8 t) 8 (date_length d)) (text_front t h)
