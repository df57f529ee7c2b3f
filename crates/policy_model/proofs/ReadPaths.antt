-- A path that was read from the first word of a rule can be printed as one. Assumes nothing.
use mathlib.Core.Path.{◌≡◌, refl, sym, ap, ◌∙◌}
use mathlib.Core.Bool.{Bool, true, false, ◌||◌, or-true}
use mathlib.Core.List.{[], ◌∷◌, ◌++◌, append-nil, append_assoc}
use Prim.Native.Nat.{ℕ, ◌+◌, ◌≤◌, ◌<◌}
use native.Mathlib.Omega.{arith}
use borrow.Author.Tests.{lt-leb}
use lib.Dec.{leb}
use lib.ListN.{length}
use Rattle.text.specs.Text.{Text, bytes, is_digit, is_upper, is_alphanumeric, is_blank, not_blank, is_empty, lower_byte, lower, is_word, all}
use Rattle.text.specs.Number.{decimal}
use Rattle.text.proofs.Laws.{and_left, and_false, and_true, at_least, by_cond, zero_or, clash}
use Rattle.text.proofs.Runs.{all_append}
use Rattle.text.proofs.Words.{same_eq}
use Rattle.text.proofs.Decimals.{decimal_all, decimal_full}
use Rattle.er7.specs.Path.{Path, in_brackets, behind, print_path}
use Rattle.er7.proofs.PrintedPaths.{brackets_none, brackets_some, behind_none, behind_some}
use Rattle.er7.proofs.PathReadBack.{GoodPath, PathFrom}
use Rattle.refusal.specs.Refusal.{is_plain}
use Rattle.policy_model.specs.Policy.{path_kind, line_kind, not_hash}
use Rattle.policy_model.proofs.Texts.{all_implies, full_append}
use Rattle.policy_model.proofs.Bytes.{is_line_byte, is_word_byte, alphanumeric_word, decimal_word}
use Rattle.policy_model.proofs.Columns.{GoodWord}

-- ---- its bytes

behind_bytes : (c n : ℕ) → is_word_byte c ≡ true → all is_word_byte (behind c n) ≡ true
unfolding all
behind_bytes c n h = zero_or n (λ e. rw (behind_none n c e)) (λ z. rw (behind_some n c (omega arith)) (and_true (is_word_byte c) (all is_word_byte (decimal n)) h (decimal_word n)))

brackets_bytes : (n : ℕ) → all is_word_byte (in_brackets n) ≡ true
unfolding all is_word_byte is_line_byte is_plain not_hash not_blank is_blank
brackets_bytes n = zero_or n (λ e. rw (brackets_none n e)) (λ z. rw (brackets_some n (omega arith)) (all_append is_word_byte (decimal n) (0x5d ∷ []) (decimal_word n) refl))

path_bytes : (p : Path) → GoodPath p → all is_word_byte (print_path p) ≡ true
unfolding print_path is_word_byte is_line_byte is_plain not_hash not_blank is_blank
path_bytes p g =
    all_append is_word_byte p.segment _ (all_implies is_alphanumeric is_word_byte alphanumeric_word p.segment g.letters)
    (all_append is_word_byte (in_brackets p.occurrence) _ (brackets_bytes p.occurrence)
    (all_append is_word_byte (behind 0x2d p.field) _ (behind_bytes 0x2d p.field refl)
    (all_append is_word_byte (in_brackets p.repetition) _ (brackets_bytes p.repetition)
    (all_append is_word_byte (behind 0x2e p.component) _ (behind_bytes 0x2e p.component refl)
    (behind_bytes 0x2e p.subcomponent refl)))))

pub path_word : (w : Text) (p : Path) → PathFrom w p → length w ≤ 64 → GoodWord (print_path p)
unfolding print_path
path_word w p f l = record { full = full_append p.segment _ f.good.named; bytes_fit = path_bytes p f.good; short = omega (arith, f.shorter) }

-- ---- it is no directive: with an index it has a digit, and no directive has one

unfoldable has_digit : Text → Bool
has_digit [] = false
has_digit (x ∷ s) = is_digit x || has_digit s

digit_behind : (a b : Text) → has_digit b ≡ true → has_digit (a ++ b) ≡ true
unfolding has_digit
digit_behind [] b h = h
digit_behind (x ∷ a) b h = rw (digit_behind a b h) (or-true (is_digit x))

digit_first : (n : ℕ) (b : Text) → has_digit (decimal n ++ b) ≡ true
digit_first n b = go (decimal n) (decimal_full n) (decimal_all n)
  where
    go : (s : Text) → is_empty s ≡ false → all is_digit s ≡ true → has_digit (s ++ b) ≡ true
    go [] e h = unfold is_empty in clash e
    go (x ∷ s) e h = unfold has_digit all in rw (and_left (is_digit x) (all is_digit s) h)

no_digit : (x : ℕ) → 57 < x → is_digit x ≡ false
unfolding is_digit
no_digit x h = rw (lt-leb x 57 h) (and_false (leb 48 x))

-- neither a capital nor its lower case is a digit
digit_lower : (x : ℕ) → is_digit (lower_byte x) ≡ is_digit x
unfolding lower_byte
digit_lower x = by_cond (λ (y : ℕ). is_digit y ≡ is_digit x) (is_upper x) (x + 32) x (λ e. capital (unfold is_upper in at_least 65 x 90 e)) (λ e. refl)
  where
    capital : 65 ≤ x → is_digit (x + 32) ≡ is_digit x
    capital l = rw (no_digit x (omega arith), no_digit (x + 32) (omega arith))

has_lower : (s : Text) → has_digit (lower s) ≡ has_digit s
unfolding has_digit lower
has_lower [] = refl
has_lower (x ∷ s) = rw (digit_lower x) (ap (λ (b : Bool). is_digit x || b) (has_lower s))

no_word : (s w : Text) → has_digit s ≡ true → has_digit w ≡ false → is_word s w ≡ false
no_word s w h k = go (is_word s w) refl
  where
    go : (b : Bool) → is_word s w ≡ b → is_word s w ≡ false
    go true e = unfold is_word in clash (sym h ∙ sym (has_lower s) ∙ ap has_digit (same_eq (lower s) w e) ∙ k)
    go false e = e

digit_line_kind : (s : Text) → has_digit s ≡ true → line_kind s ≡ path_kind
unfolding line_kind bytes has_digit is_digit
digit_line_kind s h = rw (
  no_word s (bytes "accept") h refl,
  no_word s (bytes "reject") h refl,
  no_word s (bytes "unrecognised") h refl,
  no_word s (bytes "unrecognized") h refl,
  no_word s (bytes "known-values") h refl,
  no_word s (bytes "*") h refl,
)

brackets_digit : (n : ℕ) (b : Text) → 0 < n → has_digit (in_brackets n ++ b) ≡ true
unfolding has_digit
brackets_digit n b z = rw (brackets_some n (omega arith), append_assoc (decimal n) (0x5d ∷ []) b) (unfold is_digit in digit_first n (0x5d ∷ b))

behind_digit : (c n : ℕ) (b : Text) → 0 < n → has_digit (behind c n ++ b) ≡ true
behind_digit c n b z = rw (behind_some n c (omega arith)) (digit_behind (c ∷ []) (decimal n ++ b) (digit_first n b))

alone : (p : Path) → GoodPath p → p.occurrence ≡ 0 → p.field ≡ 0 → print_path p ≡ p.segment
unfolding print_path
alone p g a b = rw (
  brackets_none p.occurrence a,
  behind_none p.field 0x2d b,
  brackets_none p.repetition (g.field_first b).0,
  behind_none p.component 0x2e (g.field_first b).1,
  behind_none p.subcomponent 0x2e (g.field_first b).2,
  append-nil,
)

pub path_no_directive : (w : Text) (p : Path) → PathFrom w p → line_kind w ≡ path_kind → line_kind (print_path p) ≡ path_kind
path_no_directive w p f h = zero_or p.occurrence
    (λ a. zero_or p.field
    (λ b. rw (alone p f.good a b, f.alone a b) h)
    (λ z. digit_line_kind (print_path p) (unfold print_path in digit_behind p.segment _ (digit_behind (in_brackets p.occurrence) _ (behind_digit 0x2d p.field _ z)))))
    (λ z. digit_line_kind (print_path p) (unfold print_path in digit_behind p.segment _ (brackets_digit p.occurrence _ z)))
