-- Numbers as text, in decimal and in hexadecimal. Assumes nothing: these are definitions.
use Rattle.std.specs.Prelude.{◌≡◌, true, false, cond, not, ◌&&◌, [], ◌∷◌, ◌++◌, ℕ, zero, suc, ◌+◌, ◌*◌, ◌-◌, ◌/◌, ◌%◌, ◌^◌, ◌≤◌, length, drop, ltb, Option, Some, None}
use Rattle.text.specs.Text.{Text, is_digit, is_empty, run, rest}

-- "Decimal printing calls itself on the quotient": its digits, and behind them the last one. The first number bounds the calls; above n it has no effect
unfoldable pub digits : ℕ → ℕ → Text
digits zero n = []
digits (suc f) n = elim (ltb n 10) [ true ↦ (48 + n) ∷ [] | false ↦ digits f (n / 10) ++ ((48 + n % 10) ∷ []) ]

unfoldable pub decimal : ℕ → Text
decimal n = digits (suc n) n

-- what digits are worth behind a number a
unfoldable pub worth : ℕ → Text → ℕ
worth a [] = a
worth a (x ∷ s) = worth (a * 10 + (x - 48)) s

-- a number taken from the front of a text, with what is left of it; or none that can be read
pub data Taken : Type 0 where
  taken : ℕ → Text → Taken
  refused : Taken

-- the digits at the front, at least one, "leading zeros allowed", up to 18446744073709551615
unfoldable pub take_number : Text → Taken
take_number s =
    cond (not (is_empty (run is_digit s)) && ltb (worth 0 (run is_digit s)) (2 ^ 64))
    (taken (worth 0 (run is_digit s)) (rest is_digit s))
    refused

-- k digits of n in base b, the highest first, each written by f
unfoldable pub positional : ℕ → (ℕ → ℕ) → ℕ → ℕ → Text
positional b f zero n = []
positional b f (suc k) n = positional b f k (n / b) ++ (f (n % b) ∷ [])

-- "16 lower-case hexadecimal digits"
unfoldable pub hex_digit : ℕ → ℕ
hex_digit n = cond (ltb n 10) (48 + n) (87 + n)

unfoldable pub hexadecimal : ℕ → Text
hexadecimal n = positional 16 hex_digit 16 n

-- a number's eight bytes, "highest first"
unfoldable pub eight_bytes : ℕ → Text
eight_bytes n = positional 256 (λ x. x) 8 n

-- ---- what is read from an index on

-- what an answer says: the number, and the text from the index behind it
unfoldable pub as_taken : Text → Option (ℕ × ℕ) → Taken
as_taken s (Some (n, r)) = taken n (drop r s)
as_taken s None = refused

-- the index behind a number lies in the text
abbrev pub Inside : Text → ℕ → Option (ℕ × ℕ) → Type 0
Inside s i (Some (n, r)) = (i ≤ r) × (r ≤ length s)
Inside s i None = Unit {0}

-- a is what f takes from s at index i
pub record TakenAt (f : Text → Taken) (s : Text) (i : ℕ) (a : Option (ℕ × ℕ)) : Type 0 where
  pub is : as_taken s a ≡ f (drop i s)
  pub inside : Inside s i a
