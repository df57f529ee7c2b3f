-- The action `shift n`. Assumes nothing: these are definitions.
use Rattle.std.specs.Prelude.{◌≡◌, Bool, true, cond, ◌&&◌, ◌||◌, [], ◌++◌, ℕ, ◌+◌, ◌*◌, ◌/◌, ◌%◌, ℤ, pos, nat_abs, neg_ℤ, ◌+ℤ◌, length, take, drop, eqb}
use Rattle.text.specs.Text.{Text, is_digit, all}
use Rattle.text.specs.Number.{worth, positional}
use Rattle.calendar.specs.declared.dates.Date.{Date}
use Rattle.calendar.specs.Calendar.{is_date, day_number, in_years, date_of}

-- the day n days behind a date
unfoldable pub target : ℤ → Date → ℤ
target n d = pos (day_number d) +ℤ n

-- "moves a date by n days"
unfoldable pub moved : ℤ → Date → Date
moved n d = date_of (nat_abs (target n d))

-- ---- texts

-- YYYYMMDD as a number, and back
unfoldable pub stamp : Date → ℕ
stamp d = d.year * 10000 + d.month * 100 + d.day

unfoldable pub date_in : ℕ → Date
date_in n = record { year = n / 10000; month = n / 100 % 100; day = n % 100 }

unfoldable pub digit : ℕ → ℕ
digit x = 48 + x

unfoldable pub date_text : Date → Text
date_text d = positional 10 digit 8 (stamp d)

-- the date at the front of a text of digits
unfoldable pub front : Text → Date
front t = date_in (worth 0 (take 8 t))

-- "alone or followed by four or six digits"
unfoldable pub is_long : ℕ → Bool
is_long n = eqb n 8 || eqb n 12 || eqb n 14

-- "the value must be YYYYMMDD, a Gregorian date of years 1 to 9999"
unfoldable pub is_dated : Text → Bool
is_dated t = is_long (length t) && all is_digit t && is_date (front t)

-- such a value whose date, moved, stays in the years
unfoldable pub is_moved : ℤ → Text → Bool
is_moved n t = is_dated t && in_years (target n (front t))

-- the digits behind the date "are left as they came"; "A value of another form, or a result outside those years, is cleared"
unfoldable pub shifted : ℤ → Text → Text
shifted n t = cond (is_moved n t) (date_text (moved n (front t)) ++ drop 8 t) []

-- "Where both results stay in the years, moving by n and then by minus n gives the date back": that the second result stays in them follows
abbrev pub ShiftBack : Type 0
ShiftBack = (n : ℤ) (t : Text) → is_moved n t ≡ true → shifted (neg_ℤ n) (shifted n t) ≡ t
