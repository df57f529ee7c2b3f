-- A policy that was read, or merged from two, prints as a text that fits and reads back as that policy, as each built-in policy does. Assumes nothing.
use mathlib.Core.Path.{◌≡◌, refl, sym, subst}
use mathlib.Core.Bool.{Bool, true, false}
use Prim.Native.Nat.{ℕ, zero, suc, ◌+◌, ◌≤◌}
use native.Mathlib.Omega.{arith}
use lib.ListN.{length, length-append}
use Rattle.text.specs.Text.{Text, bytes, is_digit, is_upper, is_lower, is_alphanumeric, is_blank, not_blank, lower_byte, lower, same, is_word, is_empty, run, rest}
use Rattle.text.specs.Number.{worth, take_number}
use Rattle.text.proofs.Laws.{clash}
use Rattle.text.specs.Characters.{prepend, trim_end, trim}
use Rattle.er7.specs.Path.{not_zero, take_index, take_occurrence, take_step, then, complete, read_subcomponent, read_component, read_repetition, read_field, is_join, read_segment, read_path}
use Rattle.er7_redact.specs.Action.{name, argument, verb_with_argument, verb, bare, read_replace, read_mask, without_plus, whole, read_count, read_argument, read_action}
use Rattle.er7_redact.specs.Policy.{Posture, accept, reject}
use Rattle.refusal.specs.Refusal.{too_long, is_plain, no_foreign, is_allowed}
use Rattle.refusal.specs.Limits.{INPUT_MAX, RULES_MAX}
use Rattle.policy_model.specs.Policy.{Policy, start, line_kind, with_action, read_reject, read_unrecognised, with_path, read_rule, read_directive, judged, read_words, not_cr, not_hash, read_line, push, policy_lines, PolicyRead, read, refused, with_rules, after_line, read_lines, read_policy, stricter, merged, print_policy}
use Rattle.policy_model.specs.Builtin.{builtin_text}
use Rattle.policy_model.proofs.Texts.{every_append}
use Rattle.policy_model.proofs.LineReads.{GoodPosture}
use Rattle.policy_model.proofs.PrintedPolicies.{GoodPolicy, good_fits, good_back}
use Rattle.policy_model.proofs.ReadPolicies.{GoodRead, read_good}

-- ---- a policy that was read

policy_good : (s : Text) (p : Policy) → read_policy s ≡ read p → GoodPolicy p
policy_good s p e = subst GoodRead e (read_good s)

pub few_rules : (s : Text) (p : Policy) → read_policy s ≡ read p → length p.rules ≤ RULES_MAX
few_rules s p e = (policy_good s p e).few

pub policy_fits : (s : Text) (p : Policy) → read_policy s ≡ read p → length (print_policy p) ≤ INPUT_MAX
policy_fits s p e = good_fits p (policy_good s p e)

pub policy_read_back : (s : Text) (p : Policy) → read_policy s ≡ read p → read_policy (print_policy p) ≡ read p
policy_read_back s p e = good_back p (policy_good s p e)

-- ---- two policies merged

stricter_good : (p q : Posture) → GoodPosture p → GoodPosture q → GoodPosture (stricter p q)
unfolding stricter
stricter_good p accept g h = g
stricter_good p (reject a) g h = h

merged_good : (p q : Policy) → GoodPolicy p → GoodPolicy q → length p.rules + length q.rules ≤ RULES_MAX → GoodPolicy (merged p q)
unfolding merged
merged_good p q g h l = record {
  rules_good = every_append p.rules q.rules g.rules_good h.rules_good;
  few = rw length-append l;
  posture_good = stricter_good p.posture q.posture g.posture_good h.posture_good;
  unrecognised_good = h.unrecognised_good;
}

pub merged_fits : (s t : Text) (p q : Policy) → read_policy s ≡ read p → read_policy t ≡ read q → length p.rules + length q.rules ≤ RULES_MAX
    → length (print_policy (merged p q)) ≤ INPUT_MAX
merged_fits s t p q e f l = good_fits (merged p q) (merged_good p q (policy_good s p e) (policy_good t q f) l)

pub merged_read_back : (s t : Text) (p q : Policy) → read_policy s ≡ read p → read_policy t ≡ read q → length p.rules + length q.rules ≤ RULES_MAX
    → read_policy (print_policy (merged p q)) ≡ read (merged p q)
merged_read_back s t p q e f l = good_back (merged p q) (merged_good p q (policy_good s p e) (policy_good t q f) l)

-- ---- the built-in policies

unfoldable is_read : PolicyRead → Bool
is_read (read p) = true
is_read (refused e n) = false

what_was_read : (r : PolicyRead) → is_read r ≡ true → (p : Policy) × (r ≡ read p)
unfolding is_read
what_was_read (read p) e = (p, refl)
what_was_read (refused x n) e = clash (sym e)

builtin_is_read : (n : ℕ) → n ≤ 3 → is_read (read_policy (builtin_text n)) ≡ true
unfolding bytes is_digit is_upper is_lower is_alphanumeric is_blank not_blank lower_byte lower same is_word is_empty run rest worth take_number not_zero take_index take_occurrence take_step then complete read_subcomponent read_component read_repetition read_field is_join read_segment read_path name argument verb_with_argument verb bare read_replace read_mask without_plus whole read_count read_argument read_action too_long is_plain start line_kind with_action read_reject read_unrecognised with_path read_rule read_directive judged read_words prepend trim_end trim not_cr not_hash read_line push policy_lines with_rules after_line read_lines no_foreign is_allowed read_policy builtin_text is_read
builtin_is_read zero h = refl
builtin_is_read (suc zero) h = refl
builtin_is_read (suc (suc zero)) h = refl
builtin_is_read (suc (suc (suc zero))) h = refl
builtin_is_read (suc (suc (suc (suc n)))) h = absurd (omega arith)

pub builtin_reads : (n : ℕ) → n ≤ 3 → (p : Policy) × (read_policy (builtin_text n) ≡ read p)
builtin_reads n h = what_was_read (read_policy (builtin_text n)) (builtin_is_read n h)

pub builtin_read_back : (n : ℕ) → n ≤ 3 → (p : Policy) × (read_policy (builtin_text n) ≡ read p) × (read_policy (print_policy p) ≡ read p)
builtin_read_back n h = let b = builtin_reads n h in (b.0, b.1, policy_read_back (builtin_text n) b.0 b.1)
