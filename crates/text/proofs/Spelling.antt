-- Laws of numbers written digit by digit. Assumes nothing.
use Rattle.std.proofs.Common.{◌≡◌, refl, sym, ap, ◌∙◌, subst, [], ◌∷◌, ◌++◌, append_assoc, append-nil, ℕ, zero, suc, ◌+◌, ◌-◌, ◌/◌, ◌%◌, ◌≤◌, ◌<◌, length, take, drop, set, length-append, length-set, add-one, arith}
use borrow.Rule.Slice.PartMut.{put_mid}
use Rattle.text.specs.Text.{Text, put, between, Wrote}
use Rattle.text.specs.Number.{positional, hex_digit, hexadecimal, eight_bytes}
use Rattle.text.proofs.Runs.{between_length}
use Rattle.text.proofs.Writes.{put_none, put_before, put_whole, wrote_part}

module _ (b : ℕ) (f : ℕ → ℕ) where
  pub positional_length : (k n : ℕ) → length (positional b f k n) ≡ k
  unfolding positional
  positional_length zero n = refl
  positional_length (suc k) n = rw (length-append, positional_length k (n / b), add-one)

  -- of the digits of n those behind index k are written, and k digits of m are left
  pub record Spelling (n : ℕ) (d₀ d : Text) (k m : ℕ) : Type 0 where
    pub most : k ≤ length d₀
    pub long : length d ≡ length d₀
    pub tail : Text
    pub left : positional b f (length d₀) n ≡ positional b f k m ++ tail
    pub text : d ≡ put d₀ k tail

  pub spelling_start : (n : ℕ) (d : Text) → Spelling n d d (length d) n
  spelling_start n d = record { most = omega arith; long = refl; tail = []; left = sym (append-nil _); text = sym (put_none d _) }

  module _ {n : ℕ} {d₀ d : Text} where
    -- one digit more in front
    more : {k m : ℕ} (v : ℕ) → Spelling n d₀ d (suc k) m → v ≡ f (m % b) → Spelling n d₀ (set d k v) k (m / b)
    unfolding positional
    more {k} {m} v g e =
        let l : length (positional b f (suc k) m ++ g.tail) ≡ length d₀ = ap length (sym g.left) ∙ positional_length (length d₀) n in
        let t : suc k + length g.tail ≡ length d₀ = rw (← positional_length (suc k) m) (sym (length-append (positional b f (suc k) m) g.tail) ∙ l) in
        let q : suc k ≡ k + 1 = omega arith in record {
          most = omega (arith, g.most);
          long = length-set d k v ∙ g.long;
          tail = v ∷ g.tail;
          left = g.left ∙ rw (e, append_assoc);
          text = rw (g.text, q) (put_before d₀ k v g.tail (omega arith));
        }

    pub spelling_more : {k m : ℕ} (v : ℕ) → Spelling n d₀ d k m → 0 < k → v ≡ f (m % b) → Spelling n d₀ (set d (k - 1) v) (k - 1) (m / b)
    spelling_more {k} {m} v g h e = more v (subst (λ j. Spelling n d₀ d j m) (omega arith) g) e

    pub spelling_end : {k m : ℕ} → Spelling n d₀ d k m → k ≡ 0 → d ≡ positional b f (length d₀) n
    unfolding positional
    spelling_end {k} {m} g h =
        let t : positional b f (length d₀) n ≡ g.tail = g.left ∙ rw h in
        g.text ∙ rw (← t, h) (put_whole d₀ _ (positional_length (length d₀) n))

-- digits that fill a part are written there
pub wrote_digits : (b : ℕ) (f : ℕ → ℕ) (c n : ℕ) {d s : Text} {at : ℕ} → at + c ≤ length d → s ≡ positional b f (length (take (at + c - at) (drop at d))) n
    → Wrote d at (positional b f c n) (put_mid at (at + c - at) d s) (at + c)
unfolding between
wrote_digits b f c n {d} {s} {at} h e =
    let k : at + c - at ≡ c = omega arith in
    let l : length (take (at + c - at) (drop at d)) ≡ c = between_length d at (at + c) h ∙ k in
    rw (e, l, k) (wrote_part d at (positional b f c n) (sym (positional_length b f c n)) (rw (positional_length b f c n)) h)

-- the bytes are those that the number's own method gives
pub eight_bytes_are : (n : ℕ)
    → (n / 72057594037927936 % 256) ∷ (n / 281474976710656 % 256) ∷ (n / 1099511627776 % 256) ∷ (n / 4294967296 % 256) ∷ (n / 16777216 % 256) ∷ (n / 65536 % 256) ∷ (n / 256 % 256) ∷ (n % 256) ∷ [] ≡ eight_bytes n
unfolding eight_bytes positional
eight_bytes_are n =
    let q2 : n / 65536 ≡ n / 256 / 256 = omega arith in
    let q3 : n / 16777216 ≡ n / 256 / 256 / 256 = omega arith in
    let q4 : n / 4294967296 ≡ n / 256 / 256 / 256 / 256 = omega arith in
    let q5 : n / 1099511627776 ≡ n / 256 / 256 / 256 / 256 / 256 = omega arith in
    let q6 : n / 281474976710656 ≡ n / 256 / 256 / 256 / 256 / 256 / 256 = omega arith in
    let q7 : n / 72057594037927936 ≡ n / 256 / 256 / 256 / 256 / 256 / 256 / 256 = omega arith in
    rw (q7, q6, q5, q4, q3, q2) refl

pub eight_bytes_length : (n : ℕ) → length (eight_bytes n) ≡ 8
unfolding eight_bytes
eight_bytes_length n = positional_length 256 (λ x. x) 8 n

pub hexadecimal_length : (n : ℕ) → length (hexadecimal n) ≡ 16
unfolding hexadecimal
hexadecimal_length n = positional_length 16 hex_digit 16 n
