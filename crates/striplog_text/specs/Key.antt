-- A key that is read byte by byte: what each byte makes of those before it. Assumes nothing: these are definitions.
use Rattle.std.specs.Prelude.{cond, List, [], ◌∷◌, ℕ, ◌+◌, ◌*◌, ◌-◌, ◌^◌, eqb, ltb}
use Rattle.std.proofs.Math.Option.{Option, none, some}
use Rattle.text.specs.Text.{Text, is_digit}
use Rattle.striplog_text.specs.declared.key.Key.{Key}
use Rattle.striplog_text.specs.declared.key.Key.TheVariants.{Nothing, Digits, Ended, Bad}

-- "up to 18446744073709551615"
unfoldable pub with_digit : ℕ → ℕ → Key
with_digit n d = cond (ltb (n * 10 + d) (2 ^ 64)) (Digits (n * 10 + d)) Bad

-- "decimal digits .., then at most one LF"
unfoldable pub behind_digits : ℕ → ℕ → Key
behind_digits n x = cond (is_digit x) (with_digit n (x - 48)) (cond (eqb x 0x0a) (Ended n) Bad)

unfoldable pub fed_byte : Key → ℕ → Key
fed_byte Nothing x = cond (is_digit x) (with_digit 0 (x - 48)) Bad
fed_byte (Digits n) x = behind_digits n x
fed_byte (Ended n) x = Bad
fed_byte Bad x = Bad

-- a chunk's bytes in order
unfoldable pub fed : Key → Text → Key
fed k [] = k
fed k (x ∷ s) = fed (fed_byte k x) s

-- a file's chunks in order
unfoldable pub fed_all : Key → List Text → Key
fed_all k [] = k
fed_all k (t ∷ ts) = fed_all (fed k t) ts

-- the key, once the file has ended
unfoldable pub key_of : Key → Option ℕ
key_of Nothing = none
key_of (Digits n) = some n
key_of (Ended n) = some n
key_of Bad = none
