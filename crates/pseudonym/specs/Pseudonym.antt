-- pseudonym.rs: FNV-1a, 64 bits, and the pseudonym of a value under a key. Assumes nothing: these are definitions.
use Rattle.std.specs.Prelude.{ℕ, ◌*◌, ◌%◌, ◌^◌, [], ◌∷◌, ◌++◌, bit_xor}
use Rattle.text.specs.Text.{Text}
use Rattle.text.specs.Number.{hexadecimal, eight_bytes}

-- "start at 0xcbf29ce484222325"
abbrev pub OFFSET : ℕ
OFFSET = 0xcbf29ce484222325

abbrev pub PRIME : ℕ
PRIME = 0x100000001b3

-- "For each byte, first xor it in, then the hash is multiplied by the prime 0x100000001b3, keeping the low 64 bits"
unfoldable pub step : ℕ → ℕ → ℕ
step h b = (bit_xor h b * PRIME) % 2 ^ 64

unfoldable pub fold : ℕ → Text → ℕ
fold h [] = h
fold h (b ∷ s) = fold (step h b) s

-- "Bytes are the key's eight, highest first, then the value. The answer is 16 lower-case hexadecimal digits"
unfoldable pub pseudonym : ℕ → Text → Text
pseudonym key value = hexadecimal (fold OFFSET (eight_bytes key ++ value))
