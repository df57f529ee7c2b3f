-- A good policy, printed, reads as that policy, and fits. Assumes nothing.
use mathlib.Core.Path.{◌≡◌, refl, ap, ◌∙◌}
use mathlib.Core.Bool.{true}
use mathlib.Core.List.{List, [], ◌∷◌, ◌++◌, append-nil, append_assoc}
use Prim.Native.Nat.{ℕ, suc, ◌+◌, ◌*◌, ◌≤◌}
use native.Mathlib.Omega.{arith}
use borrow.Author.Tests.{lt-ltb, le-ltb}
use lib.ListN.{length, length-append}
use Rattle.text.specs.Text.{Text, run, rest, all}
use Rattle.text.proofs.Laws.{and_left, and_right}
use Rattle.text.specs.Characters.{trim_end, trim}
use Rattle.er7_redact.specs.Policy.{Rule}
use Rattle.refusal.specs.Refusal.{too_long, is_plain, no_foreign, is_allowed}
use Rattle.refusal.specs.declared.input.Input.TheVariants as Inputs
use Rattle.refusal.specs.Limits.{INPUT_MAX, RULES_MAX}
use Rattle.policy_model.specs.Policy.{Policy, start, read_words, read_line, push, policy_lines, read, with_rules, after_line, read_lines, read_policy, width, rule_lines, rule_block, default_lines, joined, print_policy}
use Rattle.policy_model.proofs.Texts.{Every, none_left, one_more, every_append}
use Rattle.policy_model.proofs.Bytes.{is_line_byte, line_plain, line_not_lf}
use Rattle.policy_model.proofs.Columns.{GoodLine}
use Rattle.policy_model.proofs.LineReads.{GoodRule, rule_reads, rule_line_lem, GoodPosture, posture_reads, posture_line_lem, GoodUnrecognised, unrecognised_reads, unrecognised_line_lem, sweep_reads, sweep_line_lem}

pub record GoodPolicy (p : Policy) : Type 0 where
  pub rules_good : Every GoodRule p.rules
  pub few : length p.rules ≤ RULES_MAX
  pub posture_good : GoodPosture p.posture
  pub unrecognised_good : GoodUnrecognised p.unrecognised

-- ---- reading the lines

-- the number of the line behind some rules
abbrev behind_rules : ℕ → List Rule → ℕ
behind_rules n [] = n
behind_rules n (r ∷ rs) = behind_rules (suc n) rs

rules_back : (n k : ℕ) (p : Policy) (rs : List Rule) (ls : List Text) → Every GoodRule rs → k ≤ 64 → length p.rules + length rs ≤ RULES_MAX
    → read_lines n p (rule_lines k rs ++ ls) ≡ read_lines (behind_rules n rs) (with_rules p (p.rules ++ rs)) ls
unfolding read_lines rule_lines after_line with_rules
rules_back n k p [] ls none_left h l = rw append-nil
rules_back n k p (r ∷ rs) ls (one_more g gs) h l =
    rw (rule_reads k r h g, lt-ltb (length p.rules) RULES_MAX (omega arith))
    (rules_back (suc n) k (with_rules p (p.rules ++ (r ∷ []))) rs ls gs h (rw length-append (omega arith)) ∙ rw append_assoc)

width_short : (rs : List Rule) → Every GoodRule rs → width rs ≤ 64
unfolding width
width_short [] none_left = omega arith
width_short (r ∷ rs) (one_more g gs) = omega (arith, g.word_good.short, width_short rs gs)

empty_line : (n : ℕ) (p : Policy) (ls : List Text) → read_lines n p ([] ∷ ls) ≡ read_lines (suc n) p ls
unfolding read_lines after_line read_line read_words trim trim_end run rest
empty_line n p ls = refl

block_lines : (r : Rule) (rs : List Rule) (ls : List Text) → rule_block (r ∷ rs) ++ ls ≡ rule_lines (width (r ∷ rs)) (r ∷ rs) ++ ([] ∷ ls)
unfolding rule_block
block_lines r rs ls = append_assoc (rule_lines (width (r ∷ rs)) (r ∷ rs)) ([] ∷ []) ls

block_back : (rs : List Rule) (ls : List Text) → Every GoodRule rs → length rs ≤ RULES_MAX
    → (n : ℕ) × (read_lines 1 start (rule_block rs ++ ls) ≡ read_lines n (with_rules start rs) ls)
unfolding start with_rules
block_back [] ls g h = (1, unfold rule_block in refl)
block_back (r ∷ rs) ls g h = (
  suc (behind_rules 1 (r ∷ rs)),
  ap (read_lines 1 start) (block_lines r rs ls)
      ∙ rules_back 1 (width (r ∷ rs)) start (r ∷ rs) ([] ∷ ls) g (width_short (r ∷ rs) g) (omega arith)
      ∙ empty_line (behind_rules 1 (r ∷ rs)) (with_rules start (r ∷ rs)) ls,
)

defaults_back : (n : ℕ) (p q : Policy) → GoodPosture p.posture → GoodUnrecognised p.unrecognised → read_lines n (with_rules q p.rules) (default_lines p) ≡ read p
unfolding read_lines after_line default_lines with_rules
defaults_back n p q g h = rw (posture_reads p.posture g, unrecognised_reads p.unrecognised h, sweep_reads p.sweep)

lines_back : (p : Policy) → GoodPolicy p → read_lines 1 start (rule_block p.rules ++ default_lines p) ≡ read p
lines_back p g =
    let b = block_back p.rules (default_lines p) g.rules_good g.few in
    b.1 ∙ defaults_back b.0 p start g.posture_good g.unrecognised_good

-- ---- the text of the lines

line_then : (l s : Text) → all is_line_byte l ≡ true → policy_lines (l ++ (0x0a ∷ s)) ≡ l ∷ policy_lines s
unfolding policy_lines all push
line_then [] s h = refl
line_then (x ∷ l) s h = rw (line_not_lf x (and_left (is_line_byte x) (all is_line_byte l) h), line_then l s (and_right (is_line_byte x) (all is_line_byte l) h))

joined_lines : (ls : List Text) → Every GoodLine ls → policy_lines (joined ls) ≡ ls
unfolding joined
joined_lines [] none_left = unfold policy_lines in refl
joined_lines (l ∷ ls) (one_more g gs) = line_then l (joined ls) g.bytes_fit ∙ ap (λ (ks : List Text). l ∷ ks) (joined_lines ls gs)

text_then : (l s : Text) → all is_line_byte l ≡ true → no_foreign Inputs.Policy s ≡ true → no_foreign Inputs.Policy (l ++ (0x0a ∷ s)) ≡ true
unfolding no_foreign is_allowed all
text_then [] s h k = unfold is_plain in k
text_then (x ∷ l) s h k = rw (line_plain x (and_left (is_line_byte x) (all is_line_byte l) h)) (text_then l s (and_right (is_line_byte x) (all is_line_byte l) h) k)

joined_text : (ls : List Text) → Every GoodLine ls → no_foreign Inputs.Policy (joined ls) ≡ true
unfolding joined
joined_text [] none_left = unfold no_foreign is_allowed in refl
joined_text (l ∷ ls) (one_more g gs) = text_then l (joined ls) g.bytes_fit (joined_text ls gs)

joined_length : (ls : List Text) → Every GoodLine ls → length (joined ls) ≤ 147 * length ls
unfolding joined
joined_length [] none_left = omega arith
joined_length (l ∷ ls) (one_more g gs) = rw length-append (omega (arith, g.short, joined_length ls gs))

rule_lines_good : (k : ℕ) (rs : List Rule) → k ≤ 64 → Every GoodRule rs → Every GoodLine (rule_lines k rs)
unfolding rule_lines
rule_lines_good k [] h none_left = none_left
rule_lines_good k (r ∷ rs) h (one_more g gs) = one_more (rule_line_lem k r h g) (rule_lines_good k rs h gs)

empty_good : GoodLine []
unfolding all
empty_good = record { bytes_fit = refl; short = omega arith }

block_good : (rs : List Rule) → Every GoodRule rs → Every GoodLine (rule_block rs)
unfolding rule_block
block_good [] g = none_left
block_good (r ∷ rs) g =
    every_append (rule_lines (width (r ∷ rs)) (r ∷ rs)) ([] ∷ []) (rule_lines_good (width (r ∷ rs)) (r ∷ rs) (width_short (r ∷ rs) g) g)
    (one_more empty_good none_left)

rule_lines_count : (k : ℕ) (rs : List Rule) → length (rule_lines k rs) ≡ length rs
unfolding rule_lines
rule_lines_count k [] = refl
rule_lines_count k (r ∷ rs) = ap suc (rule_lines_count k rs)

block_count : (rs : List Rule) → length (rule_block rs) ≤ length rs + 1
unfolding rule_block
block_count [] = omega arith
block_count (r ∷ rs) = rw (length-append, rule_lines_count) (omega arith)

module _ (p : Policy) (g : GoodPolicy p) where
  lines_good : Every GoodLine (rule_block p.rules ++ default_lines p)
  unfolding default_lines
  lines_good =
      every_append (rule_block p.rules) _ (block_good p.rules g.rules_good)
      (one_more (posture_line_lem p.posture g.posture_good)
      (one_more (unrecognised_line_lem p.unrecognised g.unrecognised_good)
      (one_more (sweep_line_lem p.sweep) none_left)))

  lines_count : length (rule_block p.rules ++ default_lines p) ≤ 132
  unfolding default_lines
  lines_count = rw length-append (omega (arith, block_count p.rules, g.few))

  -- ---- the laws

  pub good_fits : length (print_policy p) ≤ INPUT_MAX
  unfolding print_policy
  good_fits = omega (arith, joined_length _ lines_good, lines_count)

  pub good_back : read_policy (print_policy p) ≡ read p
  unfolding read_policy print_policy too_long
  good_back =
      let ls : List Text = rule_block p.rules ++ default_lines p in
      rw (le-ltb INPUT_MAX (length (joined ls)) (unfold print_policy in good_fits), joined_text ls lines_good, joined_lines ls lines_good) (lines_back p g)
