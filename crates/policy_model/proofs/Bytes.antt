-- The bytes that a line of a policy may hold. Assumes nothing.
use mathlib.Core.Path.{◌≡◌, refl}
use mathlib.Core.Bool.{Bool, true, false, ◌&&◌, ◌||◌}
use Prim.Native.Nat.{ℕ, ◌≤◌}
use native.Mathlib.Omega.{arith}
use borrow.Author.Tests.{eqb-true, ne_eqb, le-leb}
use lib.Dec.{eqb, leb}
use Rattle.text.specs.Text.{is_digit, is_upper, is_lower, is_alphanumeric, is_blank, not_blank, all}
use Rattle.text.specs.Number.{decimal}
use Rattle.text.proofs.Laws.{at_least, at_most, and_left, and_right}
use Rattle.text.proofs.Decimals.{decimal_all, digit_low, digit_high}
use Rattle.refusal.specs.Refusal.{is_plain}
use Rattle.policy_model.specs.Policy.{not_cr, not_hash}
use Rattle.policy_model.proofs.Texts.{all_implies}

-- a byte in front of a comment
unfoldable pub is_line_byte : ℕ → Bool
is_line_byte x = is_plain x && not_hash x

-- and no blank
unfoldable pub is_word_byte : ℕ → Bool
is_word_byte x = is_line_byte x && not_blank x

module _ (x : ℕ) where
  pub word_line : is_word_byte x ≡ true → is_line_byte x ≡ true
  unfolding is_word_byte
  word_line h = and_left (is_line_byte x) (not_blank x) h

  pub word_not_blank : is_word_byte x ≡ true → not_blank x ≡ true
  unfolding is_word_byte
  word_not_blank h = and_right (is_line_byte x) (not_blank x) h

  pub line_plain : is_line_byte x ≡ true → is_plain x ≡ true
  unfolding is_line_byte
  line_plain h = and_left (is_plain x) (not_hash x) h

  pub line_not_hash : is_line_byte x ≡ true → not_hash x ≡ true
  unfolding is_line_byte
  line_not_hash h = and_right (is_plain x) (not_hash x) h

  -- neither CR nor LF
  plain_ends : is_plain x ≡ true → (x ≡ 0x0d → ⊥) × (x ≡ 0x0a → ⊥)
  unfolding is_plain
  plain_ends h = go (eqb x 0x09) refl h
    where
      go : (b : Bool) → eqb x 0x09 ≡ b → b || leb 0x20 x && leb x 0x7e ≡ true → (x ≡ 0x0d → ⊥) × (x ≡ 0x0a → ⊥)
      go true e h = let q = eqb-true x 0x09 e in omega arith
      go false e h = let q = at_least 0x20 x 0x7e h in omega arith

  pub line_not_cr : is_line_byte x ≡ true → not_cr x ≡ true
  unfolding not_cr
  line_not_cr h = rw (ne_eqb x 0x0d (plain_ends (line_plain h)).0)

  pub line_not_lf : is_line_byte x ≡ true → eqb x 0x0a ≡ false
  line_not_lf h = ne_eqb x 0x0a (plain_ends (line_plain h)).1

  word_byte : 0x24 ≤ x → x ≤ 0x7e → is_word_byte x ≡ true
  unfolding is_word_byte is_line_byte is_plain not_hash not_blank is_blank
  word_byte l h = rw (ne_eqb x 0x09 (omega arith), le-leb 0x20 x (omega arith), le-leb x 0x7e h, ne_eqb x 0x23 (omega arith), ne_eqb x 0x20 (omega arith))

  digit_word : is_digit x ≡ true → is_word_byte x ≡ true
  digit_word h = let l = digit_low x h in let k = digit_high x h in word_byte (omega arith) (omega arith)

  pub alphanumeric_word : is_alphanumeric x ≡ true → is_word_byte x ≡ true
  unfolding is_alphanumeric is_upper is_lower
  alphanumeric_word h = go (is_digit x) refl (is_upper x) refl h
    where
      go : (a : Bool) → is_digit x ≡ a → (b : Bool) → is_upper x ≡ b → a || b || is_lower x ≡ true → is_word_byte x ≡ true
      go true e b f h = digit_word e
      go false e true f h = let l = at_least 65 x 90 f in let k = at_most 65 x 90 f in word_byte (omega arith) (omega arith)
      go false e false f h = let l = at_least 97 x 122 h in let k = at_most 97 x 122 h in word_byte (omega arith) (omega arith)

pub decimal_word : (n : ℕ) → all is_word_byte (decimal n) ≡ true
decimal_word n = all_implies is_digit is_word_byte digit_word (decimal n) (decimal_all n)
