-- An action that was read from a line can be printed in one and reads back. Assumes nothing.
use mathlib.Core.Path.{◌≡◌, refl, sym, ap, ◌∙◌}
use mathlib.Core.Bool.{true, false}
use mathlib.Core.List.{[], ◌∷◌, ◌++◌}
use Prim.Native.Nat.{ℕ, suc, ◌+◌, ◌≤◌, ◌<◌, ◌^◌}
use native.Mathlib.Omega.{arith}
use lib.IntN.{ℤ, pos, negsuc, nat_abs}
use lib.ListN.{length, length-append}
use Rattle.text.specs.Text.{Text, bytes, is_upper, is_blank, not_blank, is_empty, lower_byte, lower, same, is_word, run, rest, all}
use Rattle.text.specs.Number.{decimal}
use Rattle.text.proofs.Laws.{by_cond, Maybe}
use Rattle.text.proofs.Runs.{stop, stop_rest, all_append}
use Rattle.text.proofs.Words.{same_eq, lower_length}
use Rattle.text.proofs.Decimals.{length_u64, decimal_full}
use Rattle.er7_redact.specs.declared.action.Verb.{Verb}
use Rattle.er7_redact.specs.Action.{Action, ActionRead, is_action, no_action, keep, clear, null, pseudonym, replace, first, last, shift, name, argument, verb_with_argument, verb, bare, read_replace, read_mask, DAYS_MAX, read_argument, refusal_of, read_action, print_days, print_action}
use Rattle.er7_redact.proofs.ActionReadBack.{bare_from, count_from, days_from, IfRead, if_read, action_read_back}
use Rattle.refusal.specs.Refusal.{is_plain}
use Rattle.policy_model.specs.Policy.{not_hash}
use Rattle.policy_model.proofs.Texts.{all_rest, full_append, stop_append, ends, ends_append, ends_rest, blank_between}
use Rattle.policy_model.proofs.Bytes.{is_line_byte, is_word_byte, decimal_word}
use Rattle.policy_model.proofs.Columns.{GoodWord, Trimmed, GoodRest, word_rest}
use Rattle.policy_model.proofs.LineReads.{GoodAction}

-- what stands behind the first word
pub behind_word_lem : (s : Text) → Trimmed s → Trimmed (rest is_blank (rest not_blank s))
behind_word_lem s g = record {
  begins = stop_rest is_blank (rest not_blank s);
  closes = ends_rest is_blank (rest not_blank s) (ends_rest not_blank s g.closes);
  bytes_fit = all_rest is_line_byte is_blank (rest not_blank s) (all_rest is_line_byte not_blank s g.bytes_fit);
}

-- ---- what is printed

-- the action a can be printed in a line
abbrev Fits : Action → Type 0
Fits a = GoodRest (print_action a)

-- a name with its blank, and an argument
module _ (a : Text) (n : is_empty a ≡ false) (b : stop is_blank a ≡ true) (h : all is_line_byte a ≡ true) where
  argument_fits : (t : Text) → Trimmed t → is_empty t ≡ false → length a + length t ≤ 80 → GoodRest (a ++ t)
  argument_fits t g f l = record {
    trimmed = record {
      begins = stop_append is_blank a t n b;
      closes = ends_append a t f g.closes;
      bytes_fit = all_append is_line_byte a t h g.bytes_fit;
    };
    full = full_append a t n;
    short = rw length-append l;
  }

  count_fits : (k : ℕ) → k < 2 ^ 64 → length a ≤ 60 → GoodRest (a ++ decimal k)
  count_fits k m l =
      let e = length_u64 k m in
      let d : GoodRest (decimal k) = word_rest (decimal k) (record { full = decimal_full k; bytes_fit = decimal_word k; short = omega arith }) in
      argument_fits (decimal k) d.trimmed d.full (omega arith)

-- `shift` with its days
days_fit : (z : ℤ) → nat_abs z ≤ DAYS_MAX → Fits (shift z)
unfolding print_action print_days bytes is_empty stop is_blank all is_line_byte is_plain not_hash
days_fit (pos n) h = count_fits (bytes "shift ") refl refl refl n (omega arith) (omega arith)
days_fit (negsuc n) h = count_fits (bytes "shift -") refl refl refl (suc n) (omega arith) (omega arith)

redacted_fits : Fits (replace (bytes "REDACTED"))
unfolding print_action bytes is_empty stop is_blank ends all is_line_byte is_plain not_hash
redacted_fits = record { trimmed = record { begins = refl; closes = refl; bytes_fit = refl }; full = refl; short = omega arith }

-- ---- what is read

replace_fits : (s : Text) → Trimmed s → (is_empty s ≡ false → length s ≤ 72) → Maybe Fits (read_replace s)
unfolding read_replace print_action bytes is_empty stop is_blank all is_line_byte is_plain not_hash
replace_fits [] g l = redacted_fits
replace_fits (x ∷ s) g l = argument_fits (bytes "replace ") refl refl refl (x ∷ s) g refl (omega (arith, l refl))

mask_fits : (s : Text) → Trimmed s → Maybe Fits (read_mask s)
unfolding read_mask print_action bytes is_empty stop is_blank ends all is_line_byte is_plain not_hash
mask_fits [] g = record { trimmed = record { begins = refl; closes = refl; bytes_fit = refl }; full = refl; short = omega arith }
mask_fits (x ∷ []) g = argument_fits (bytes "mask ") refl refl refl (x ∷ []) g refl (omega arith)
mask_fits (x ∷ y ∷ s) g = tt

-- `replace` has seven letters
replace_letters : (w : Text) → is_word w (bytes "replace") ≡ true → length w ≡ 7
unfolding is_word bytes
replace_letters w e = sym (lower_length w) ∙ ap length (same_eq (lower w) (bytes "replace") e)

module _ (s : Text) (g : Trimmed s) (l : length s ≤ 80) where
  ByVerb : Verb → Type 0
  ByVerb v = Maybe Fits (read_argument v (argument s))

  bare_fits : (a : Action) → GoodWord (print_action a) → Maybe Fits (bare a (argument s))
  bare_fits a h = bare_from Fits a (argument s) (word_rest (print_action a) h)

  verb_fits : Maybe Fits (read_argument (verb (name s)) (argument s))
  unfolding ByVerb verb verb_with_argument read_argument argument name print_action bytes is_empty stop is_blank not_blank all is_word_byte is_line_byte is_plain not_hash
  verb_fits =
      by_cond ByVerb (is_word (name s) (bytes "keep")) _ _ (λ e. bare_fits keep (record { full = refl; bytes_fit = refl; short = omega arith })) λ e.
      by_cond ByVerb (is_word (name s) (bytes "clear")) _ _ (λ e. bare_fits clear (record { full = refl; bytes_fit = refl; short = omega arith })) λ e.
      by_cond ByVerb (is_word (name s) (bytes "null")) _ _ (λ e. bare_fits null (record { full = refl; bytes_fit = refl; short = omega arith })) λ e.
      by_cond ByVerb (is_word (name s) (bytes "pseudonym")) _ _ (λ e. bare_fits pseudonym (record { full = refl; bytes_fit = refl; short = omega arith })) λ e.
      by_cond ByVerb (is_word (name s) (bytes "replace")) _ _ (λ e. replace_fits (argument s) (behind_word_lem s g) (λ n. omega (arith, replace_letters (name s) e, blank_between s n))) λ e.
      by_cond ByVerb (is_word (name s) (bytes "mask")) _ _ (λ e. mask_fits (argument s) (behind_word_lem s g)) λ e.
      by_cond ByVerb (is_word (name s) (bytes "first")) _ _ (λ e. count_from Fits first (λ n h. count_fits (bytes "first ") refl refl refl n h (omega arith)) (argument s)) λ e.
      by_cond ByVerb (is_word (name s) (bytes "last")) _ _ (λ e. count_from Fits last (λ n h. count_fits (bytes "last ") refl refl refl n h (omega arith)) (argument s)) λ e.
      by_cond ByVerb (is_word (name s) (bytes "shift")) _ _ (λ e. days_from Fits (λ z h. days_fit z h) (argument s)) λ e. tt

  pub action_good : IfRead GoodAction (read_action s)
  unfolding read_action
  action_good = go (read_action s) refl (if_read Fits (refusal_of (verb (name s))) (read_argument (verb (name s)) (argument s)) verb_fits)
    where
      go : (o : ActionRead) → read_action s ≡ o → IfRead Fits o → IfRead GoodAction o
      go (no_action x) e h = tt
      go (is_action a) e h = record { rest_good = h; back = action_read_back s a e }

pub redacted_good : GoodAction (replace (bytes "REDACTED"))
unfolding read_action print_action bytes name argument verb_with_argument verb read_argument read_replace is_word same lower lower_byte is_upper run rest not_blank is_blank
redacted_good = record { rest_good = redacted_fits; back = refl }
