-- Laws of the printed lines: their lengths, and writing them part by part. Assumes nothing.
use Rattle.std.proofs.Common.{◌≡◌, [], ◌∷◌, ◌++◌, ℕ, ◌+◌, ◌^◌, ◌≤◌, ◌<◌, arith, eq-eqb, ne_eqb, length, length-append}
use Rattle.text.specs.Text.{Text, bytes, Wrote}
use Rattle.text.specs.Number.{decimal}
use Rattle.text.proofs.Decimals.{length_u64}
use Rattle.text.proofs.Laws.{zero_or}
use Rattle.text.proofs.Writes.{wrote_then}
use Rattle.striplog_text.specs.Striplog.{rows_line, refused_line, printed}
use Rattle.refusal.specs.Limits.{TEXT_MAX}

-- digits and LF
ended_length : (n : ℕ) → length (decimal n ++ (0x0a ∷ [])) ≡ length (decimal n) + 1
ended_length n = length-append (decimal n) (0x0a ∷ [])

pub rows_length : (n : ℕ) → length (rows_line n) ≡ 5 + (length (decimal n) + 1)
unfolding rows_line bytes
rows_length n = rw (ended_length n) (omega arith)

pub refused_length : (n l : ℕ) → length (refused_line n l) ≡ 8 + (length (decimal n) + (6 + (length (decimal l) + 1)))
unfolding refused_line bytes
refused_length n l = rw (length-append (decimal n) (bytes " line " ++ (decimal l ++ (0x0a ∷ []))), ended_length l) (omega arith)

module _ {d d₁ d₂ d₃ : Text} {at a b r : ℕ} where
  pub rows_wrote : (n : ℕ) → Wrote d at (bytes "rows ") d₁ a → Wrote d₁ a (decimal n) d₂ b → Wrote d₂ b (0x0a ∷ []) d₃ r → Wrote d at (rows_line n) d₃ r
  unfolding rows_line
  rows_wrote n f g h = wrote_then f (wrote_then g h)

  pub refused_wrote : (n l : ℕ) {d₄ d₅ : Text} {c e : ℕ} → Wrote d at (bytes "refused ") d₁ a → Wrote d₁ a (decimal n) d₂ b → Wrote d₂ b (bytes " line ") d₃ c
      → Wrote d₃ c (decimal l) d₄ e → Wrote d₄ e (0x0a ∷ []) d₅ r → Wrote d at (refused_line n l) d₅ r
  unfolding refused_line
  refused_wrote n l f g h i j = wrote_then f (wrote_then g (wrote_then h (wrote_then i j)))

-- ---- what a call comes to, by its number

module _ (number line rows : ℕ) (text report : Text) where
  printed_success : number ≡ 0 → printed number line text report rows ≡ text ++ (report ++ rows_line rows)
  unfolding printed
  printed_success h = rw (eq-eqb number 0 h)

  printed_refusal : (number ≡ 0 → ⊥) → printed number line text report rows ≡ refused_line number line
  unfolding printed
  printed_refusal h = rw (ne_eqb number 0 h)

  pub success_length : number ≡ 0 → length (printed number line text report rows) ≡ length text + (length report + length (rows_line rows))
  success_length h = rw (printed_success h, length-append text (report ++ rows_line rows), length-append report (rows_line rows))

  pub refusal_length : (number ≡ 0 → ⊥) → length (printed number line text report rows) ≡ length (refused_line number line)
  refusal_length h = rw (printed_refusal h)

  pub success_wrote : {d d₁ d₂ d₃ : Text} {at a b r : ℕ} → number ≡ 0 → Wrote d at text d₁ a → Wrote d₁ a report d₂ b → Wrote d₂ b (rows_line rows) d₃ r
      → Wrote d at (printed number line text report rows) d₃ r
  success_wrote h f g i = rw (printed_success h) (wrote_then f (wrote_then g i))

  pub refusal_wrote : {d d' : Text} {at r : ℕ} → (number ≡ 0 → ⊥) → Wrote d at (refused_line number line) d' r → Wrote d at (printed number line text report rows) d' r
  refusal_wrote h f = rw (printed_refusal h) f

-- no more than 49,152 bytes of text and 65,536 of report, and a line
pub printed_most : (number line rows : ℕ) (text report : Text) → number < 2 ^ 64 → line < 2 ^ 64 → rows < 2 ^ 64 → length text ≤ TEXT_MAX → length report ≤ 65536
    → length (printed number line text report rows) ≤ 114714
printed_most number line rows text report hn hl hr ht hp = zero_or number
    (λ e. omega (arith, success_length number line rows text report e, rows_length rows, length_u64 rows hr))
    (λ e. omega (arith, refusal_length number line rows text report (λ z. omega arith), refused_length number line, length_u64 number hn, length_u64 line hl))
