-- Characters and words of a text. What counts characters, asks for a letter or digit, for lower case, for blanks or for a word goes by
-- these names. Every text that an entry accepts is ASCII, so that a character is a byte. Assumes nothing: these are definitions.
use Rattle.std.specs.Prelude.{Bool, false, cond, [], ◌∷◌, ℕ, ◌-◌, length, take, drop, replicate}
use Rattle.std.proofs.Math.Option.{Option, none, some}
use Rattle.text.specs.Text.{Text, is_alphanumeric, is_blank, not_blank, lower, run, rest}

-- how many characters a text has; its first n, and its last n
abbrev pub char_count : Text → ℕ
char_count s = length s

abbrev pub first_chars : ℕ → Text → Text
first_chars n s = take n s

abbrev pub last_chars : ℕ → Text → Text
last_chars n s = drop (char_count s - n) s

-- the text of the character c, the character that a text is, and n times the character c
abbrev pub character : ℕ → Text
character c = c ∷ []

abbrev pub one_char : Text → Option ℕ
one_char [] = none
one_char (x ∷ []) = some x
one_char (x ∷ y ∷ s) = none

abbrev pub mask_text : ℕ → ℕ → Text
mask_text c n = replicate n c

-- a text in lower case
abbrev pub lower_text : Text → Text
lower_text s = lower s

-- a text without the blanks and tabs at its front, its first word, and what stands behind that
abbrev pub skip_blanks : Text → Text
skip_blanks s = rest is_blank s

abbrev pub word : Text → Text
word s = run not_blank s

abbrev pub behind_word : Text → Text
behind_word s = rest not_blank s

-- a text without the blanks and tabs at its end, and at both ends
unfoldable pub prepend : ℕ → Text → Text
prepend x [] = cond (is_blank x) [] (x ∷ [])
prepend x (y ∷ t) = x ∷ y ∷ t

unfoldable pub trim_end : Text → Text
trim_end [] = []
trim_end (x ∷ s) = prepend x (trim_end s)

unfoldable pub trim : Text → Text
trim s = trim_end (skip_blanks s)

-- a letter or digit stands at the front; and behind the first byte of a text with or without one before it
abbrev pub is_word_char : Text → Bool
is_word_char [] = false
is_word_char (x ∷ t) = is_alphanumeric x

abbrev pub word_behind : Bool → Text → Bool
word_behind before t = is_word_char t
