-- Texts as lists of bytes: tests of a byte, words, runs, and what a write leaves in a buffer. Assumes nothing: these are definitions.
use Rattle.std.specs.Prelude.{◌≡◌, Bool, true, false, cond, not, ◌&&◌, ◌||◌, List, [], ◌∷◌, ◌++◌, map, ℕ, ◌+◌, ◌-◌, ◌≤◌, length, take, drop, replicate, eqb, leb}
use Prim.Native.Char.{code}
use Prim.Native.String.{String, [] as no-characters, ◌∷◌ as ◌character-then◌}
use Rattle.text.specs.declared.bytes.Class.{Class}
use Rattle.text.specs.declared.bytes.Class.TheVariants.{Digit, Alphanumeric, Blank, NotBlank, AllBut}

abbrev pub Text : Type 0
Text = List ℕ

-- the bytes of a quoted text
unfoldable pub bytes : String → Text
bytes no-characters = []
bytes (c character-then s) = code c ∷ bytes s

-- ---- bytes

unfoldable pub is_digit : ℕ → Bool
is_digit x = leb 48 x && leb x 57

unfoldable pub is_upper : ℕ → Bool
is_upper x = leb 65 x && leb x 90

unfoldable pub is_lower : ℕ → Bool
is_lower x = leb 97 x && leb x 122

-- "ASCII letters and digits"
unfoldable pub is_alphanumeric : ℕ → Bool
is_alphanumeric x = is_digit x || is_upper x || is_lower x

-- a blank or a tab
unfoldable pub is_blank : ℕ → Bool
is_blank x = eqb x 32 || eqb x 9

unfoldable pub not_blank : ℕ → Bool
not_blank x = not (is_blank x)

-- the bytes of a class
unfoldable pub is_in : Class → ℕ → Bool
is_in Digit x = is_digit x
is_in Alphanumeric x = is_alphanumeric x
is_in Blank x = is_blank x
is_in NotBlank x = not_blank x
is_in (AllBut b) x = not (eqb x b)

-- "case ignored": the lower case of an ASCII capital, and any other byte itself
unfoldable pub lower_byte : ℕ → ℕ
lower_byte x = cond (is_upper x) (x + 32) x

-- ---- texts

unfoldable pub lower : Text → Text
lower s = map lower_byte s

unfoldable pub same : Text → Text → Bool
same [] [] = true
same [] (y ∷ t) = false
same (x ∷ s) [] = false
same (x ∷ s) (y ∷ t) = eqb x y && same s t

-- s is the word w, which is in lower case, whatever the case of s
unfoldable pub is_word : Text → Text → Bool
is_word s w = same (lower s) w

unfoldable pub is_empty : Text → Bool
is_empty [] = true
is_empty (x ∷ s) = false

-- the longest run at the front of which p holds, and what stands behind it
unfoldable pub run : (ℕ → Bool) → Text → Text
run p [] = []
run p (x ∷ s) = cond (p x) (x ∷ run p s) []

unfoldable pub rest : (ℕ → Bool) → Text → Text
rest p [] = []
rest p (x ∷ s) = cond (p x) (rest p s) (x ∷ s)

-- p holds of every byte
unfoldable pub all : (ℕ → Bool) → Text → Bool
all p [] = true
all p (x ∷ s) = p x && all p s

-- v stands at the front of s
unfoldable pub begins : Text → Text → Bool
begins v s = same v (take (length v) s)

-- n bytes of s from index i on
unfoldable pub part : Text → ℕ → ℕ → Text
part s i n = take n (drop i s)

-- the bytes of s from index i to index e
unfoldable pub between : Text → ℕ → ℕ → Text
between s i e = take (e - i) (drop i s)

-- ---- buffers

-- d with s in the place of what stood from index at on
unfoldable pub put : Text → ℕ → Text → Text
put d at s = take at d ++ s ++ drop (at + length s) d

-- s was written to d from index at on, which left d'; r is the index behind it, which lies in d
pub record Wrote (d : Text) (at : ℕ) (s d' : Text) (r : ℕ) : Type 0 where
  pub end : r ≡ at + length s
  pub high : r ≤ length d
  pub text : d' ≡ put d at s

-- the first k bytes of d are kept in d', which is as long
pub record SameTo (k : ℕ) (d d' : Text) : Type 0 where
  pub long : length d' ≡ length d
  pub same : take k d' ≡ take k d

-- s stands in d' from index at on; what stood in d before it is kept, and what stands behind it is free
pub record StandsAt (d : Text) (at : ℕ) (s d' : Text) : Type 0 where
  pub before : SameTo at d d'
  pub room : at + length s ≤ length d
  pub here : part d' at (length s) ≡ s

-- d with zeros from index at on
unfoldable pub zeroed : Text → ℕ → Text
zeroed d at = take at d ++ replicate (length d - at) 0

-- r is where the run of p from index i on ends
pub record RunEnd (p : ℕ → Bool) (s : Text) (i r : ℕ) : Type 0 where
  pub low : i ≤ r
  pub high : r ≤ length s
  pub run_is : part s i (r - i) ≡ run p (drop i s)
  pub rest_is : drop r s ≡ rest p (drop i s)

-- r is where the run of p from index i on ends, in the text up to index e
pub record RunTo (p : ℕ → Bool) (s : Text) (i e r : ℕ) : Type 0 where
  pub low : i ≤ r
  pub high : r ≤ e
  pub run_is : between s i r ≡ run p (between s i e)
  pub rest_is : between s r e ≡ rest p (between s i e)
