-- What the contracts of private functions cite; no public contract rests on it. Assumes nothing: these are definitions.
use Rattle.std.specs.Prelude.{cond, ℕ, ◌^◌, ltb, length, Option, Some, None, option_map}
use Rattle.text.specs.Text.{Text, is_digit, run}
use Rattle.text.specs.Number.{worth}

-- the number, if 64 bits hold it
unfoldable pub in_64_bits : ℕ → Option ℕ
in_64_bits n = cond (ltb n (2 ^ 64)) (Some n) None

-- what the digits at the front are worth, with how many they are, if 64 bits hold it
unfoldable pub leading : Text → Option (ℕ × ℕ)
leading s = option_map (λ n. (n, length (run is_digit s))) (in_64_bits (worth 0 (run is_digit s)))
