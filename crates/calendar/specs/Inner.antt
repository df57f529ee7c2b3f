-- What the functions inside the crate say of their answers. Assumes nothing: these are definitions.
use Rattle.std.specs.Prelude.{◌≡◌, true, ◌++◌, ℕ, suc, ◌+◌, ◌≤◌, ◌<◌, ℤ, nat_abs, length, drop}
use Rattle.text.specs.Text.{Text}
use Rattle.calendar.specs.Calendar.{year_length, month_length, sum, in_years, date_of}
use Rattle.calendar.specs.Shift.{date_text}

-- r periods of the lengths f are whole in the first n days, and r + 1 are not
pub record WholeIn (f : ℕ → ℕ) (n r : ℕ) : Type 0 where
  pub whole : sum f r ≤ n
  pub more : n < sum f (suc r)

abbrev pub YearsIn : ℕ → ℕ → Type 0
YearsIn n r = WholeIn year_length n r × (r < 9999)

abbrev pub MonthsIn : ℕ → ℕ → ℕ → Type 0
MonthsIn y n r = WholeIn (month_length y) n r × (r < 12)

-- day z and what stands behind a value's date are written to d from index at on
pub record DayRoom (z : ℤ) (s : Text) (at : ℕ) (d : Text) : Type 0 where
  pub known : in_years z ≡ true
  pub low : 8 ≤ length s
  pub room : at + length s ≤ length d

unfoldable pub day_text : ℤ → Text → Text
day_text z s = date_text (date_of (nat_abs z)) ++ drop 8 s
