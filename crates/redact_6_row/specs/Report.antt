-- What the report's buffer holds: rows from its front on. Assumes nothing: these are definitions.
use Rattle.std.specs.Prelude.{◌≡◌, List, ℕ, ◌+◌, ◌≤◌, ◌<◌, length, take}
use Rattle.text.specs.Text.{Text, put}
use Rattle.run_model.specs.Redact.{Row, print_rows}

-- the row w was added behind len bytes of the buffer d, which left d': it was written if it fits; r counts it in any case
pub record RowAt (d : Text) (len : ℕ) (w d' : Text) (r : ℕ) : Type 0 where
  pub end : r ≡ len + length w
  pub long : length d' ≡ length d
  pub fits : len + length w ≤ length d → d' ≡ put d len w
  pub full : length d < len + length w → d' ≡ d

-- the rows ρs take len bytes, and stand at the front of the buffer d if it has room for them all
pub record Reported (d : Text) (len : ℕ) (ρs : List Row) : Type 0 where
  pub long : len ≡ length (print_rows ρs)
  pub text : len ≤ length d → take len d ≡ print_rows ρs
