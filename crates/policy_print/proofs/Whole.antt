-- Laws of a whole policy printed. Assumes nothing.
use Rattle.std.proofs.Common.{◌≡◌, refl, sym, ap, ◌∙◌, Bool, ◌||◌, List, [], ◌∷◌, ◌++◌, append_assoc, ℕ, suc, ◌+◌, ◌≤◌, ◌<◌, max, zero-add, arith, lt-ltb, le-ltb, ne_eqb, length, length-append, Result, Ok, Err, IsErrAnd}
use Rattle.text.specs.Text.{Text, Wrote}
use Rattle.text.proofs.Writes.{wrote_then}
use Rattle.er7_redact.specs.declared.action.Action.{Action as HeldAction}
use Rattle.er7_redact.specs.declared.policy.Posture.{Posture as HeldPosture}
use Rattle.er7_redact.specs.declared.policy.Posture.TheVariants as Postures
use Rattle.er7_redact.specs.Policy.{Rule, Posture, as_posture}
use Rattle.refusal.specs.declared.Refusal.{Refusal}
use Rattle.refusal.specs.declared.Refused.{Refused}
use Rattle.refusal.specs.Refusal.{without_line}
use Rattle.refusal.specs.declared.Refusal.TheVariants.{TooMany, NoSuchBuiltin}
use Rattle.refusal.specs.Limits.{INPUT_MAX, RULES_MAX}
use Rattle.std.proofs.lemmas.Result.{err_from_is_err_and}
use Rattle.policy_model.specs.Policy.{Policy, PolicyRead, read, refused, read_policy, Unrecognised, width, posture_line, rule_block, default_lines, joined, stricter, merged, print_policy, rule_lines}
use Rattle.policy_model.specs.Builtin.{builtin_text}
use Rattle.policy_model.proofs.PolicyReadBack.{merged_fits}
use Rattle.policy.specs.declared.policy.Policy.{Policy as HeldPolicy}
use Rattle.policy.specs.Line.{as_unrecognised}
use Rattle.policy.specs.Policy.{as_rules, as_policy, as_read, PolicyHeld, PolicyIs}
use Rattle.policy.proofs.Reading.{rules_length}
use Rattle.policy_print.specs.Display.{with_lf, rules_text, blank_line, unrecognised_line, sweep_line, defaults_text}
use Rattle.policy_print.specs.Print.{merged_read, appended, builtin_read, printed_of, buffer_of, PrintedIs}
use Rattle.policy_print.proofs.Parts.{joined_append, rules_append, width_append}

-- ---- the parts of a printed policy

defaults_parts : (p : Policy) → joined (default_lines p) ≡ defaults_text p.posture p.unrecognised p.sweep
unfolding joined default_lines defaults_text with_lf unrecognised_line sweep_line
defaults_parts p = rw (append_assoc, append_assoc)

block_parts : (rs : List Rule) → joined (rule_block rs) ≡ rules_text (width rs) rs ++ blank_line (length rs)
unfolding rule_block
block_parts [] = unfold joined rules_text rule_lines blank_line in refl
block_parts (r ∷ rs) =
    joined_append (rule_lines (width (r ∷ rs)) (r ∷ rs)) ([] ∷ []) ∙ (unfold joined rules_text blank_line in rw (ne_eqb (suc (length rs)) 0 (omega arith)))

pub policy_parts : (p : Policy) → print_policy p ≡ rules_text (width p.rules) p.rules ++ (blank_line (length p.rules) ++ defaults_text p.posture p.unrecognised p.sweep)
unfolding print_policy
policy_parts p =
    joined_append (rule_block p.rules) (default_lines p)
    ∙ rw (block_parts p.rules, defaults_parts p) (append_assoc (rules_text (width p.rules) p.rules) (blank_line (length p.rules)) (defaults_text p.posture p.unrecognised p.sweep))

three_lengths : (a b c : Text) → length (a ++ (b ++ c)) ≡ length a + (length b + length c)
three_lengths a b c = length-append a (b ++ c) ∙ rw (length-append b c)

pub defaults_length : (p : Posture) (u : Unrecognised) (b : Bool)
    → length (defaults_text p u b) ≡ length (with_lf (posture_line p)) + (length (with_lf (unrecognised_line u)) + length (with_lf (sweep_line b)))
unfolding defaults_text
defaults_length p u b = three_lengths (with_lf (posture_line p)) (with_lf (unrecognised_line u)) (with_lf (sweep_line b))

pub defaults_wrote : (p : Posture) (u : Unrecognised) (b : Bool) {d d₁ d₂ d₃ : Text} {at k l r : ℕ} → Wrote d at (with_lf (posture_line p)) d₁ k
    → Wrote d₁ k (with_lf (unrecognised_line u)) d₂ l → Wrote d₂ l (with_lf (sweep_line b)) d₃ r → Wrote d at (defaults_text p u b) d₃ r
unfolding defaults_text
defaults_wrote p u b f g h = wrote_then f (wrote_then g h)

-- ---- one policy

module _ (t : Text) (p : HeldPolicy) (h : PolicyHeld t p) where
  rules_of : List Rule
  rules_of = as_rules t p.rules

  defaults_of : Text
  defaults_of = defaults_text (as_posture t p.posture) (as_unrecognised t p.unrecognised) p.sweep

  print_parts : print_policy (as_policy t p) ≡ rules_text (width rules_of) rules_of ++ (blank_line (length p.rules) ++ defaults_of)
  unfolding as_policy rules_of defaults_of
  print_parts =
      policy_parts (as_policy t p) ∙ rw (rules_length t p.rules)

  pub print_length : length (print_policy (as_policy t p))
      ≡ length (rules_text (width (as_rules t p.rules)) (as_rules t p.rules))
      + (length (blank_line (length p.rules)) + length (defaults_text (as_posture t p.posture) (as_unrecognised t p.unrecognised) p.sweep))
  unfolding rules_of defaults_of
  print_length = ap length print_parts ∙ three_lengths (rules_text (width rules_of) rules_of) (blank_line (length p.rules)) defaults_of

  pub print_wrote : {d d₁ d₂ d₃ : Text} {n at k l r : ℕ} → n ≡ width (as_rules t p.rules) → Wrote d at (rules_text n (as_rules t p.rules)) d₁ k
      → Wrote d₁ k (blank_line (length p.rules)) d₂ l → Wrote d₂ l (defaults_text (as_posture t p.posture) (as_unrecognised t p.unrecognised) p.sweep) d₃ r
      → Wrote d at (print_policy (as_policy t p)) d₃ r
  unfolding rules_of defaults_of
  print_wrote e f g k = rw print_parts (wrote_then (rw e at f) (wrote_then g k))

-- ---- two policies

-- the stricter posture
module _ (s t : Text) (p q : HeldPosture) where
  pub stricter_accept : q ≡ Postures.Accept → stricter (as_posture s p) (as_posture t q) ≡ as_posture s p
  unfolding stricter as_posture
  stricter_accept e = rw e

  pub stricter_reject : {a : HeldAction} → q ≡ Postures.Reject a → stricter (as_posture s p) (as_posture t q) ≡ as_posture t q
  unfolding stricter as_posture
  stricter_reject e = rw e

module _ (s t : Text) (p q : HeldPolicy) (g : PolicyHeld s p) (h : PolicyHeld t q) where
  first : List Rule
  first = as_rules s p.rules

  second : List Rule
  second = as_rules t q.rules

  merged_defaults : Text
  merged_defaults = defaults_text (stricter (as_posture s p.posture) (as_posture t q.posture)) (as_unrecognised t q.unrecognised) (p.sweep || q.sweep)

  merged_parts : print_policy (merged (as_policy s p) (as_policy t q))
      ≡ rules_text (max (width first) (width second)) first ++ (rules_text (max (width first) (width second)) second ++ (blank_line (length p.rules + length q.rules) ++ merged_defaults))
  unfolding as_policy merged first second merged_defaults
  merged_parts =
      policy_parts (merged (as_policy s p) (as_policy t q))
      ∙ rw (
        width_append first second,
        length-append first second,
        rules_length s p.rules,
        rules_length t q.rules,
        rules_append (max (width first) (width second)) first second,
        append_assoc,
      )

  pub merged_length : length (print_policy (merged (as_policy s p) (as_policy t q)))
      ≡ length (rules_text (max (width (as_rules s p.rules)) (width (as_rules t q.rules))) (as_rules s p.rules))
      + (length (rules_text (max (width (as_rules s p.rules)) (width (as_rules t q.rules))) (as_rules t q.rules))
      + (length (blank_line (length p.rules + length q.rules))
      + length (defaults_text (stricter (as_posture s p.posture) (as_posture t q.posture)) (as_unrecognised t q.unrecognised) (p.sweep || q.sweep))))
  unfolding first second merged_defaults
  merged_length =
      ap length merged_parts
      ∙ length-append (rules_text (max (width first) (width second)) first) (rules_text (max (width first) (width second)) second ++ (blank_line (length p.rules + length q.rules) ++ merged_defaults))
      ∙ rw (three_lengths (rules_text (max (width first) (width second)) second) (blank_line (length p.rules + length q.rules)) merged_defaults)

  pub merged_wrote : {d d₁ d₂ d₃ d₄ : Text} {n at k l m r : ℕ} → n ≡ max (width (as_rules s p.rules)) (width (as_rules t q.rules))
      → Wrote d at (rules_text n (as_rules s p.rules)) d₁ k → Wrote d₁ k (rules_text n (as_rules t q.rules)) d₂ l
      → Wrote d₂ l (blank_line (length p.rules + length q.rules)) d₃ m
      → Wrote d₃ m (defaults_text (stricter (as_posture s p.posture) (as_posture t q.posture)) (as_unrecognised t q.unrecognised) (p.sweep || q.sweep)) d₄ r
      → Wrote d at (print_policy (merged (as_policy s p) (as_policy t q))) d₄ r
  unfolding first second merged_defaults
  merged_wrote e f₁ f₂ f₃ f₄ = rw merged_parts (wrote_then (rw e at f₁) (wrote_then (rw e at f₂) (wrote_then f₃ f₄)))

-- ---- texts that are read and printed

-- what `?` hands on
pub refused_is : {o : PolicyRead} (e : Refused) (d : Text) {r : Result ℕ Refused} → o ≡ refused e.refusal e.line → IsErrAnd r (λ y. y ≡ e) → PrintedIs o d d r
unfolding printed_of buffer_of
refused_is e d {r} q h = let k = err_from_is_err_and r h in rw (k.1, k.2) (record { result = rw q; buffer = rw q })

pub without_line_is : {o : PolicyRead} (e : Refusal) (d : Text) → o ≡ refused e 0 → PrintedIs o d d (Err (without_line e))
unfolding printed_of buffer_of without_line
without_line_is e d q = record { result = rw q; buffer = rw q }

pub printed_is : {o : PolicyRead} {d d' : Text} {r : ℕ} (p : Policy) → o ≡ read p → Wrote d 0 (print_policy p) d' r → PrintedIs o d d' (Ok r)
unfolding printed_of buffer_of
printed_is p q w = record { result = rw q (ap Ok (w.end ∙ zero-add _)); buffer = rw q w.text }

-- what a text reads as
pub read_as : {t : Text} {p : HeldPolicy} → PolicyIs t (Ok p) → read_policy t ≡ read (as_policy t p)
unfolding as_read
read_as g = sym g.is

pub refused_as : {t : Text} {e : Refused} → PolicyIs t (Err e) → read_policy t ≡ refused e.refusal e.line
unfolding as_read
refused_as g = sym g.is

pub appended_first : (e : Refused) {o₁ : PolicyRead} (o₂ : PolicyRead) → o₁ ≡ refused e.refusal e.line → appended o₁ o₂ ≡ refused e.refusal e.line
unfolding appended
appended_first e o q = rw q

pub appended_second : (p : Policy) (e : Refused) {o₁ o₂ : PolicyRead} → o₁ ≡ read p → o₂ ≡ refused e.refusal e.line → appended o₁ o₂ ≡ refused e.refusal e.line
unfolding appended
appended_second p e q w = rw (q, w)

pub appended_both : (p q : Policy) {o₁ o₂ : PolicyRead} → o₁ ≡ read p → o₂ ≡ read q → appended o₁ o₂ ≡ merged_read p q
unfolding appended
appended_both p q e f = rw (e, f)

-- the merged count
module _ (s t : Text) (p q : HeldPolicy) (g : PolicyHeld s p) (h : PolicyHeld t q) where
  counts : length (as_policy s p).rules + length (as_policy t q).rules ≡ length p.rules + length q.rules
  unfolding as_policy
  counts = rw (rules_length s p.rules, rules_length t q.rules)

  pub many_merged : RULES_MAX < length p.rules + length q.rules → merged_read (as_policy s p) (as_policy t q) ≡ refused TooMany 0
  unfolding merged_read
  many_merged l = rw (counts, lt-ltb RULES_MAX (length p.rules + length q.rules) l)

  pub few_merged : length p.rules + length q.rules ≤ RULES_MAX → merged_read (as_policy s p) (as_policy t q) ≡ read (merged (as_policy s p) (as_policy t q))
  unfolding merged_read
  few_merged l = rw (counts, le-ltb RULES_MAX (length p.rules + length q.rules) l)

  pub merged_room : read_policy s ≡ read (as_policy s p) → read_policy t ≡ read (as_policy t q) → length p.rules + length q.rules ≤ RULES_MAX
      → length (print_policy (merged (as_policy s p) (as_policy t q))) ≤ INPUT_MAX
  merged_room e f l = merged_fits s t (as_policy s p) (as_policy t q) e f (omega (arith, counts))

pub both_widths : {n a b x y : ℕ} → n ≡ max a b → a ≡ x → b ≡ y → n ≡ max x y
both_widths e f g = e ∙ rw (f, g)

-- ---- the built-ins

pub no_builtin : (n : ℕ) → 3 < n → builtin_read n ≡ refused NoSuchBuiltin 0
unfolding builtin_read
no_builtin n h = rw (lt-ltb 3 n h)

pub builtin_is : (n m : ℕ) {d d' : Text} {r : Result ℕ Refused} → n ≡ m → m ≤ 3 → PrintedIs (read_policy (builtin_text m)) d d' r → PrintedIs (builtin_read n) d d' r
unfolding builtin_read
builtin_is n m e h g = rw (e, le-ltb 3 m h) g
