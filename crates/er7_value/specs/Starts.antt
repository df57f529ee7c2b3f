-- Where a word can start in a text. Assumes nothing: these are definitions.
use Rattle.std.specs.Prelude.{◌≡◌, Bool, false, not, ◌&&◌, ◌||◌, List, [], ◌∷◌, ℕ, zero, suc, get_or, eqb}
use Rattle.text.specs.Text.{Text, is_alphanumeric}
use Rattle.text.specs.Characters.{word_behind}

-- a letter or digit stands directly before index i
unfoldable pub letter_before : Text → ℕ → Bool
letter_before t zero = false
letter_before t (suc i) = is_alphanumeric (get_or t i 0)

-- the byte b stands in t with no letter or digit directly before it; `after` says whether one stands before t
unfoldable pub starts_behind : Bool → Text → ℕ → Bool
starts_behind after [] b = false
starts_behind after (x ∷ t) b = not after && eqb x b || starts_behind (word_behind after (x ∷ t)) t b

-- the byte b starts a word of t
unfoldable pub starts_word : Text → ℕ → Bool
starts_word t b = starts_behind false t b

-- a byte is marked if it starts a word of t, and no other is
pub record Starts (t : Text) (starts : List Bool) : Type 0 where
  pub marked : (b : ℕ) → get_or starts b false ≡ starts_word t b
