-- Laws of `begins`, `ends_word` and `find_word`: from an index on, over plain values. Assumes nothing.
use Rattle.std.proofs.Common.{◌≡◌, refl, sym, ap, ◌∙◌, ℕ, zero, suc, ◌+◌, ◌-◌, ◌≤◌, ◌<◌, max, Bool, true, false, not, ◌&&◌, ◌||◌, [], ◌∷◌, length, take, drop, get_or, add-one, add-zero, add_assoc, eq-eqb, length-take, length-drop, arith, ne_eqb, eqb, drop_of_length-le, drop-drop, get_or-take, get_or-drop}
use Rattle.text.specs.declared.bytes.Class.TheVariants.{Alphanumeric}
use Rattle.text.specs.Text.{Text, is_in, is_alphanumeric, begins, same, part}
use Rattle.text.proofs.Laws.{and_false}
use Rattle.text.proofs.Runs.{drop_step}
use Rattle.text.proofs.Words.{same_longer}
use Rattle.message_model.specs.Value.{ends_word, is_hit, find_word, is_whole_word}
use Rattle.er7_value.specs.Starts.{letter_before}

-- ---- a hit

part_byte : (t : Text) (i n j : ℕ) → j < n → get_or (part t i n) j 0 ≡ get_or t (i + j) 0
unfolding part
part_byte t i n j h = get_or-take n (drop i t) j 0 h ∙ get_or-drop i t j 0

pub part_first : (t : Text) (i n : ℕ) → 0 < n → get_or (part t i n) 0 0 ≡ get_or t i 0
part_first t i n h = part_byte t i n 0 h ∙ ap (λ (j : ℕ). get_or t j 0) (add-zero i)

hit_short : (v t : Text) → length t < length v → begins v t ≡ false
unfolding begins
hit_short v t h = same_longer v (take (length v) t) (λ e. absurd (omega (arith, e, length-take (length v) t)))

-- v stands in t from index i on if its rest behind j bytes that were compared does
abbrev pub Fitting : Text → Text → ℕ → ℕ → Type 0
Fitting v t i j = begins v (drop i t) ≡ begins (drop j v) (drop (i + j) t)

module _ (v t : Text) (i j : ℕ) (room : i + length v ≤ length t) (g : Fitting v t i j) where
  fits : j < length v → begins v (drop i t) ≡ eqb (get_or v j 0) (get_or t (i + j) 0) && begins (drop (j + 1) v) (drop (i + (j + 1)) t)
  unfolding begins same
  fits h = g ∙ rw (drop_step v j h, drop_step t (i + j) (omega arith), add_assoc i j 1)

  pub fits_more : j < length v → get_or v j 0 ≡ get_or t (i + j) 0 → Fitting v t i (j + 1)
  fits_more h e = fits h ∙ rw (eq-eqb _ _ e)

  pub fits_not : j < length v → (get_or v j 0 ≡ get_or t (i + j) 0 → ⊥) → false ≡ begins v (drop i t)
  fits_not h n = sym (fits h ∙ rw (ne_eqb _ _ n))

  pub fits_all : length v ≤ j → true ≡ begins v (drop i t)
  unfolding begins same
  fits_all h = sym (g ∙ rw (drop_of_length-le v {i = j} h))

-- ---- what stands around a hit

pub before_first : (t : Text) (i : ℕ) → i ≡ 0 → false ≡ letter_before t i
unfolding letter_before
before_first t i e = rw e

pub before_later : (t : Text) (i : ℕ) → (i ≡ 0 → ⊥) → is_in Alphanumeric (get_or t (i - 1) 0) ≡ letter_before t i
unfolding letter_before is_in
before_later t zero n = absurd (n refl)
before_later t (suc i) n = let e : suc i - 1 ≡ i = omega arith in rw e

pub before_next : (t : Text) (i : ℕ) → letter_before t (i + 1) ≡ is_alphanumeric (get_or t i 0)
unfolding letter_before
before_next t i = rw (add-one i)

pub ends_last : (t : Text) (e : ℕ) → e ≡ length t → true ≡ ends_word (drop e t)
unfolding ends_word
ends_last t e h = rw (drop_of_length-le t {i = e} (omega arith))

pub ends_byte : (t : Text) (e : ℕ) → e < length t → not (is_in Alphanumeric (get_or t e 0)) ≡ ends_word (drop e t)
unfolding ends_word is_in
ends_byte t e h = rw (drop_step t e h)

-- a hit by its three parts
module _ (v t : Text) (i : ℕ) where
  pub hit_other : begins v (drop i t) ≡ false → false ≡ is_hit v (letter_before t i) (drop i t)
  hit_other f = rw f (sym (and_false (not (letter_before t i))))

  pub hit_behind_letter : letter_before t i ≡ true → false ≡ is_hit v (letter_before t i) (drop i t)
  hit_behind_letter e = rw e

  pub hit_by_end : letter_before t i ≡ false → begins v (drop i t) ≡ true → ends_word (drop (i + length v) t) ≡ is_hit v (letter_before t i) (drop i t)
  hit_by_end e f = rw (e, f, drop-drop (length v) i t)

-- ---- the search

-- in fewer bytes than v has, and in none, nothing is found
find_short : (v : Text) (a : Bool) (t : Text) → length t < max (length v) 1 → find_word v a t ≡ false
unfolding find_word
find_short v a [] h = refl
find_short v a (x ∷ t) h = rw (hit_short v (x ∷ t) (omega arith), and_false (not a)) (find_short v (is_alphanumeric x) t (omega arith))

-- a text with fewer bytes than v does not have it as a word
pub word_short : (v t : Text) → length t < length v → is_whole_word v t ≡ false
unfolding is_whole_word
word_short v t h = find_short v false t (omega arith)

-- v is found in t from index i on
unfoldable pub found_from : Text → Text → ℕ → Bool
found_from v t i = find_word v (letter_before t i) (drop i t)

pub whole_from_start : (v t : Text) → is_whole_word v t ≡ found_from v t 0
unfolding is_whole_word found_from letter_before
whole_from_start v t = refl

-- at index i there is a hit, or the search goes on
found_step : (v t : Text) (i : ℕ) → i < length t → found_from v t i ≡ is_hit v (letter_before t i) (drop i t) || found_from v t (i + 1)
unfolding found_from find_word
found_step v t i h = rw (drop_step t i h, before_next t i)

pub found_short : (v t : Text) (i : ℕ) → length t < i + max (length v) 1 → found_from v t i ≡ false
unfolding found_from
found_short v t i h = find_short v (letter_before t i) (drop i t) (rw (length-drop i t) (omega arith))

module _ (v t : Text) (i : ℕ) (h : i < length t) where
  pub found_yes : true ≡ is_hit v (letter_before t i) (drop i t) → found_from v t i ≡ true
  found_yes e = found_step v t i h ∙ rw (← e)

  pub found_no : false ≡ is_hit v (letter_before t i) (drop i t) → found_from v t i ≡ found_from v t (i + 1)
  found_no e = found_step v t i h ∙ rw (← e)
