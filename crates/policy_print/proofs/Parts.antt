-- Laws of a printed policy's parts. Assumes nothing.
use Rattle.std.proofs.Common.{◌≡◌, refl, sym, ap, ◌∙◌, true, false, List, [], take, ◌∷◌, ◌++◌, append_assoc, ℕ, suc, ◌+◌, ◌-◌, ◌≤◌, ◌<◌, max, arith, ne_eqb, eq-eqb, length, get_or, replicate, length-append}
use Rattle.std.proofs.lemmas.List.{length-replicate}
use Rattle.text.specs.Text.{Text, bytes, Wrote}
use Rattle.text.proofs.Writes.{wrote_none, wrote_then, wrote_length}
use Rattle.er7.specs.Path.{print_path}
use Rattle.er7_redact.specs.Action.{Action, print_action, as_action}
use Rattle.er7_redact.specs.Policy.{Rule, reject, as_rule, as_posture}
use Rattle.er7_redact.specs.declared.action.Action.{Action as HeldAction}
use Rattle.er7_redact.specs.declared.policy.Rule.{Rule as HeldRule}
use Rattle.er7_redact.specs.declared.policy.Posture.{Posture as HeldPosture}
use Rattle.er7_redact.specs.declared.policy.Posture.TheVariants as Postures
use Rattle.policy_model.specs.Policy.{Unrecognised, width, gap, column, rule_line, rule_lines, posture_line, unrecognised_text, sweep_text, joined}
use Rattle.policy.specs.declared.line.Unrecognised.{Unrecognised as HeldUnrecognised}
use Rattle.policy.specs.declared.line.Unrecognised.TheVariants as Held
use Rattle.policy.specs.Line.{as_unrecognised}
use Rattle.policy.specs.Policy.{as_rules}
use Rattle.policy.proofs.Rules.{behind, rules_step, rules_split}
use Rattle.policy_print.specs.Display.{with_lf, rule_text, rules_text, blank_line, unrecognised_line, sweep_line}

-- ---- a line that ends in what is printed

reject_line : (a : Action) → with_lf (posture_line (reject a)) ≡ bytes "reject        " ++ (print_action a ++ (0x0a ∷ []))
unfolding with_lf posture_line column gap bytes
reject_line a = refl

unrecognised_line_lem : (u : Unrecognised) → with_lf (unrecognised_line u) ≡ bytes "unrecognised  " ++ (unrecognised_text u ++ (0x0a ∷ []))
unfolding with_lf unrecognised_line column gap bytes
unrecognised_line_lem u = refl

ended_length : (w s : Text) → length (w ++ (s ++ (0x0a ∷ []))) ≡ length w + (length s + 1)
ended_length w s = length-append w (s ++ (0x0a ∷ [])) ∙ rw (length-append s (0x0a ∷ []))

-- a word, what is printed behind it, and LF
pub wrote_ended : {d d₁ d₂ d₃ w s : Text} {at k l r : ℕ} → Wrote d at w d₁ k → Wrote d₁ k s d₂ l → Wrote d₂ l (0x0a ∷ []) d₃ r
    → Wrote d at (w ++ (s ++ (0x0a ∷ []))) d₃ r
wrote_ended f g h = wrote_then f (wrote_then g h)

module _ (t : Text) (p : HeldPosture) {a : HeldAction} (e : p ≡ Postures.Reject a) where
  rejects : with_lf (posture_line (as_posture t p)) ≡ bytes "reject        " ++ (print_action (as_action t a) ++ (0x0a ∷ []))
  unfolding as_posture
  rejects = rw e (reject_line (as_action t a))

  pub reject_room : length (with_lf (posture_line (as_posture t p))) ≡ 14 + (length (print_action (as_action t a)) + 1)
  unfolding bytes
  reject_room = ap length rejects ∙ ended_length (bytes "reject        ") (print_action (as_action t a))

  pub reject_wrote : {d d₁ d₂ d₃ : Text} {at k l r : ℕ} → Wrote d at (bytes "reject        ") d₁ k → Wrote d₁ k (print_action (as_action t a)) d₂ l
      → Wrote d₂ l (0x0a ∷ []) d₃ r → Wrote d at (with_lf (posture_line (as_posture t p))) d₃ r
  reject_wrote f g h = rw rejects (wrote_ended f g h)

module _ (t : Text) (p : HeldPosture) (e : p ≡ Postures.Accept) where
  accepts : with_lf (posture_line (as_posture t p)) ≡ bytes "accept\n"
  unfolding as_posture posture_line with_lf bytes
  accepts = rw e

  pub accept_room : length (with_lf (posture_line (as_posture t p))) ≡ 7
  unfolding bytes
  accept_room = ap length accepts

  pub accept_wrote : {d d' : Text} {at r : ℕ} → Wrote d at (bytes "accept\n") d' r → Wrote d at (with_lf (posture_line (as_posture t p))) d' r
  accept_wrote f = rw accepts f

-- what a payload gets
module _ (t : Text) (u : HeldUnrecognised) where
  says_unrecognised : with_lf (unrecognised_line (as_unrecognised t u)) ≡ bytes "unrecognised  " ++ (unrecognised_text (as_unrecognised t u) ++ (0x0a ∷ []))
  says_unrecognised = unrecognised_line_lem (as_unrecognised t u)

  pub unrecognised_room : length (with_lf (unrecognised_line (as_unrecognised t u))) ≡ 14 + (length (unrecognised_text (as_unrecognised t u)) + 1)
  unfolding bytes
  unrecognised_room = ap length says_unrecognised ∙ ended_length (bytes "unrecognised  ") (unrecognised_text (as_unrecognised t u))

  pub unrecognised_wrote : {d d₁ d₂ : Text} {at k r : ℕ} (s : Text) → unrecognised_text (as_unrecognised t u) ++ (0x0a ∷ []) ≡ s
      → Wrote d at (bytes "unrecognised  ") d₁ k → Wrote d₁ k s d₂ r → Wrote d at (with_lf (unrecognised_line (as_unrecognised t u))) d₂ r
  unrecognised_wrote s e f g = rw says_unrecognised (wrote_then f (rw e g))

  pub pass_text : u ≡ Held.Pass → unrecognised_text (as_unrecognised t u) ++ (0x0a ∷ []) ≡ bytes "pass\n"
  unfolding as_unrecognised unrecognised_text bytes
  pass_text e = rw e

  pub refuse_text : u ≡ Held.Refuse → unrecognised_text (as_unrecognised t u) ++ (0x0a ∷ []) ≡ bytes "refuse\n"
  unfolding as_unrecognised unrecognised_text bytes
  refuse_text e = rw e

  pub apply_text : {a : HeldAction} → u ≡ Held.Apply a → unrecognised_text (as_unrecognised t u) ++ (0x0a ∷ []) ≡ print_action (as_action t a) ++ (0x0a ∷ [])
  unfolding as_unrecognised unrecognised_text
  apply_text e = rw e

  -- the room for that text
  pub text_room : (s : Text) → unrecognised_text (as_unrecognised t u) ++ (0x0a ∷ []) ≡ s → length (with_lf (unrecognised_line (as_unrecognised t u))) ≡ 14 + length s
  text_room s e = unrecognised_room ∙ rw (sym (length-append (unrecognised_text (as_unrecognised t u)) (0x0a ∷ [])) ∙ ap length e)

  pub apply_room : {a : HeldAction} → u ≡ Held.Apply a → length (with_lf (unrecognised_line (as_unrecognised t u))) ≡ 14 + (length (print_action (as_action t a)) + 1)
  apply_room {a} e = text_room (print_action (as_action t a) ++ (0x0a ∷ [])) (apply_text e) ∙ rw (length-append (print_action (as_action t a)) (0x0a ∷ []))

-- whether the sweep is on
pub on_line : with_lf (sweep_line true) ≡ bytes "known-values  on\n"
unfolding with_lf sweep_line column gap sweep_text bytes
on_line = refl

pub off_line : with_lf (sweep_line false) ≡ bytes "known-values  off\n"
unfolding with_lf sweep_line column gap sweep_text bytes
off_line = refl

-- the empty line
pub blank_none : (n : ℕ) → n ≡ 0 → blank_line n ≡ []
unfolding blank_line
blank_none n e = rw (eq-eqb n 0 e)

pub blank_some : (n : ℕ) → (n ≡ 0 → ⊥) → blank_line n ≡ 0x0a ∷ []
unfolding blank_line
blank_some n e = rw (ne_eqb n 0 e)

-- ---- a rule's line

module _ (n : ℕ) (r : Rule) where
  rule_parts : rule_text n r ≡ print_path r.path ++ (replicate (n - length (print_path r.path) + 2) 0x20 ++ (print_action r.action ++ (0x0a ∷ [])))
  unfolding rule_text with_lf rule_line column gap
  rule_parts = let e : n - length (print_path r.path) + 2 ≡ suc (suc (n - length (print_path r.path))) = omega arith in
      rw (e, append_assoc, append_assoc)

  pub rule_length : length (rule_text n r) ≡ length (print_path r.path) + (n - length (print_path r.path) + 2 + (length (print_action r.action) + 1))
  rule_length =
      let m = n - length (print_path r.path) + 2 in
      ap length rule_parts ∙ length-append (print_path r.path) (replicate m 0x20 ++ (print_action r.action ++ (0x0a ∷ [])))
      ∙ rw (ended_length (replicate m 0x20) (print_action r.action), length-replicate {A = ℕ} m 0x20)

  pub rule_wrote : {d d₁ d₂ d₃ d₄ : Text} (at k l e m : ℕ) → Wrote d at (print_path r.path) d₁ k → Wrote d₁ k (replicate (n - (k - at) + 2) 0x20) d₂ l
      → Wrote d₂ l (print_action r.action) d₃ e → Wrote d₃ e (0x0a ∷ []) d₄ m → Wrote d at (rule_text n r) d₄ m
  rule_wrote at k l e m f g h i =
      let q : k - at ≡ length (print_path r.path) = omega (arith, f.end) in
      rw rule_parts (wrote_then f (wrote_ended (rw q at g) h i))

-- ---- the rules' lines

pub joined_append : (xs ys : List Text) → joined (xs ++ ys) ≡ joined xs ++ joined ys
unfolding joined
joined_append [] ys = refl
joined_append (x ∷ xs) ys = rw (joined_append xs ys, append_assoc)

lines_append : (n : ℕ) (xs ys : List Rule) → rule_lines n (xs ++ ys) ≡ rule_lines n xs ++ rule_lines n ys
unfolding rule_lines
lines_append n [] ys = refl
lines_append n (x ∷ xs) ys = ap (λ (l : List Text). rule_line n x ∷ l) (lines_append n xs ys)

pub rules_append : (n : ℕ) (xs ys : List Rule) → rules_text n (xs ++ ys) ≡ rules_text n xs ++ rules_text n ys
unfolding rules_text
rules_append n xs ys = ap joined (lines_append n xs ys) ∙ joined_append (rule_lines n xs) (rule_lines n ys)

rules_one : (n : ℕ) (r : Rule) → rules_text n (r ∷ []) ≡ rule_text n r
unfolding rules_text rule_lines joined rule_text with_lf
rules_one n r = refl

pub width_append : (xs ys : List Rule) → width (xs ++ ys) ≡ max (width xs) (width ys)
unfolding width
width_append [] ys = omega arith
width_append (x ∷ xs) ys = omega (arith, width_append xs ys)

-- a column that is wide enough for all is wide enough for one
narrow : (r : Rule) (a n b c d : ℕ) → a ≡ max b c → b ≡ max d (width (r ∷ [])) → a ≤ n → length (print_path r.path) ≤ n
unfolding width
narrow r a n b c d e f h = omega arith

-- the widest of the first i rules
pub record WidthTo (t : Text) (rs : List HeldRule) (i w : ℕ) : Type 0 where
  pub is : w ≡ width (as_rules t (take i rs))

pub width_start : (t : Text) (rs : List HeldRule) → WidthTo t rs 0 0
width_start t rs = record { is = unfold as_rules width in refl }

pub width_more : (t : Text) (rs : List HeldRule) (i w : ℕ) (z : HeldRule) {l : ℕ} → WidthTo t rs i w → i < length rs
    → l ≡ length (print_path (as_rule t (get_or rs i z)).path) → WidthTo t rs (i + 1) (max w l)
width_more t rs i w z g h e = record {
  is = rw (rules_step t rs i z h, width_append (as_rules t (take i rs)) (as_rule t (get_or rs i z) ∷ [])) (unfold width in omega (arith, g.is, e));
}

-- the first i rules are written
pub record RulesTo (t : Text) (rs : List HeldRule) (n at i : ℕ) (d d' : Text) (k : ℕ) : Type 0 where
  pub wrote : Wrote d at (rules_text n (as_rules t (take i rs))) d' k

pub rules_start : (t : Text) (rs : List HeldRule) (n at : ℕ) (d : Text) → at ≤ length d → RulesTo t rs n at 0 d d at
rules_start t rs n at d h = record { wrote = unfold rules_text as_rules rule_lines joined in wrote_none d at h }

module _ (t : Text) (rs : List HeldRule) (n i : ℕ) (z : HeldRule) (h : i < length rs) where
  text_step : rules_text n (as_rules t (take (i + 1) rs)) ≡ rules_text n (as_rules t (take i rs)) ++ rule_text n (as_rule t (get_or rs i z))
  text_step = rw (rules_step t rs i z h) (rules_append n (as_rules t (take i rs)) (as_rule t (get_or rs i z) ∷ []) ∙ rw (rules_one n (as_rule t (get_or rs i z))))

  -- the next rule's path fits in the column, and its line in the room
  pub rule_narrow : width (as_rules t rs) ≤ n → length (print_path (as_rule t (get_or rs i z)).path) ≤ n
  rule_narrow w =
      let a = ap width (rules_split t rs i) ∙ width_append (as_rules t (take (i + 1) rs)) (behind t rs i) in
      let b = ap width (rules_step t rs i z h) ∙ width_append (as_rules t (take i rs)) (as_rule t (get_or rs i z) ∷ []) in
      narrow (as_rule t (get_or rs i z)) (width (as_rules t rs)) n (width (as_rules t (take (i + 1) rs))) (width (behind t rs i)) (width (as_rules t (take i rs))) a b w

  pub rule_fits : {d d' : Text} {at k : ℕ} → RulesTo t rs n at i d d' k → at + length (rules_text n (as_rules t rs)) ≤ length d
      → k + length (rule_text n (as_rule t (get_or rs i z))) ≤ length d'
  rule_fits {d} {d'} {at} {k} g r =
      let a = ap (λ xs. length (rules_text n xs)) (rules_split t rs i) ∙ ap length (rules_append n (as_rules t (take (i + 1) rs)) (behind t rs i))
      ∙ length-append (rules_text n (as_rules t (take (i + 1) rs))) (rules_text n (behind t rs i)) in
      let b = ap length text_step ∙ length-append (rules_text n (as_rules t (take i rs))) (rule_text n (as_rule t (get_or rs i z))) in
      omega (arith, g.wrote.end, wrote_length g.wrote)

  pub rules_more : {d d₁ d₂ : Text} {at k r : ℕ} → RulesTo t rs n at i d d₁ k → Wrote d₁ k (rule_text n (as_rule t (get_or rs i z))) d₂ r
      → RulesTo t rs n at (i + 1) d d₂ r
  rules_more g f = record { wrote = rw text_step (wrote_then g.wrote f) }
