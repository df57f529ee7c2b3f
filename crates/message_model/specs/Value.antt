-- The value of a leaf: null, escapes, and words in a value. Assumes nothing: these are definitions.
use Rattle.std.specs.Prelude.{Bool, false, not, cond, ◌&&◌, ◌||◌, [], ◌∷◌, ◌++◌, ℕ, length, drop, eqb}
use Rattle.std.proofs.Math.Option.{Option, none, some}
use Rattle.text.specs.Text.{Text, bytes, is_empty, same, begins}
use Rattle.text.specs.Characters.{is_word_char, word_behind}
use Rattle.er7.specs.declared.separators.Separators.{Separators}

-- "null leaf `""`"
unfoldable pub NULL : Text
NULL = bytes "\"\""

unfoldable pub is_null : Text → Bool
is_null t = same t NULL

unfoldable pub is_empty_or_null : Text → Bool
is_empty_or_null t = is_empty t || is_null t

-- ---- reading

-- "where the letter between two escape characters is F, S, T, R or E, the run is the field, component, subcomponent,
-- repetition or escape delimiter"
unfoldable pub delimiter_of : Separators → ℕ → Option ℕ
delimiter_of s l =
    cond (eqb l 0x46) (some s.field)
    (cond (eqb l 0x53) (some s.component)
    (cond (eqb l 0x54) (some s.subcomponent)
    (cond (eqb l 0x52) (some s.repetition)
    (cond (eqb l 0x45) (some s.escape) none))))

unfoldable pub letter_run : Separators → ℕ → Option ℕ → Text
letter_run s l (some b) = b ∷ []
letter_run s l none = s.escape ∷ l ∷ s.escape ∷ []

-- what a pair stands for that has the bytes `w` between its two; "Any other pair .. stands for itself"
unfoldable pub pair : Separators → Text → Text
pair s [] = s.escape ∷ s.escape ∷ []
pair s (l ∷ []) = letter_run s l (delimiter_of s l)
pair s (l ∷ k ∷ w) = s.escape ∷ l ∷ k ∷ (w ++ (s.escape ∷ []))

-- where reading stands: outside a pair, or in one that has begun, with the bytes since
pub data Mode : Type 0 where
  outside : Mode
  inside : Text → Mode

-- "an escape character pairs with the next one": what a byte adds to the value, and where reading then stands
unfoldable pub adds : Separators → Mode → ℕ → Text
adds s outside x = cond (eqb x s.escape) [] (x ∷ [])
adds s (inside w) x = cond (eqb x s.escape) (pair s w) []

unfoldable pub goes_on : Separators → Mode → ℕ → Mode
goes_on s outside x = cond (eqb x s.escape) (inside []) outside
goes_on s (inside w) x = cond (eqb x s.escape) outside (inside (w ++ (x ∷ [])))

-- "and an unpaired one with all that follows it, stands for itself"
unfoldable pub decode_from : Separators → Mode → Text → Text
decode_from s outside [] = []
decode_from s (inside w) [] = s.escape ∷ w
decode_from s m (x ∷ t) = adds s m x ++ decode_from s (goes_on s m x) t

unfoldable pub decode : Separators → Text → Text
decode s t = decode_from s outside t

-- a null leaf reads as empty
unfoldable pub value : Separators → Text → Text
value s t = cond (is_null t) [] (decode s t)

-- ---- "Writing: each of the five delimiters becomes such a run"

-- the letter of a delimiter
unfoldable pub letter_of : Separators → ℕ → Option ℕ
letter_of s b =
    cond (eqb b s.field) (some 0x46)
    (cond (eqb b s.component) (some 0x53)
    (cond (eqb b s.subcomponent) (some 0x54)
    (cond (eqb b s.repetition) (some 0x52)
    (cond (eqb b s.escape) (some 0x45) none))))

unfoldable pub encode_byte : Separators → ℕ → Option ℕ → Text
encode_byte s b (some l) = s.escape ∷ l ∷ s.escape ∷ []
encode_byte s b none = b ∷ []

unfoldable pub encode : Separators → Text → Text
encode s [] = []
encode s (b ∷ v) = encode_byte s b (letter_of s b) ++ encode s v

-- ---- words

-- no letter or digit stands at the front
unfoldable pub ends_word : Text → Bool
ends_word t = not (is_word_char t)

-- v stands at the front of a text, "with no letter or digit directly before or behind it"; `after` says whether one stands before the text
abbrev pub is_hit : Text → Bool → Text → Bool
is_hit v after t = not after && (begins v t && ends_word (drop (length v) t))

-- "The word finder now tries every starting place, overlapping ones too": some place of the text has a hit
unfoldable pub find_word : Text → Bool → Text → Bool
find_word v after [] = false
find_word v after (x ∷ t) = is_hit v after (x ∷ t) || find_word v (word_behind after (x ∷ t)) t

-- v is a whole word of t; both in lower case
unfoldable pub is_whole_word : Text → Text → Bool
is_whole_word v t = find_word v false t
