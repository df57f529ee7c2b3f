-- Laws of what a call hands back, and of what every entry judges first. Assumes nothing.
use Rattle.std.proofs.Common.{◌≡◌, refl, sym, ap, ◌∙◌, Bool, true, false, ◌||◌, [], ℕ, ◌≤◌, arith, ltb-false, ltb, length, take, length-take}
use Rattle.text.specs.Text.{Text, zeroed}
use Rattle.refusal.specs.declared.Refusal.{Refusal}
use Rattle.refusal.specs.declared.Refusal.TheVariants.{ShortBuffer}
use Rattle.refusal.specs.Refusal.{number}
use Rattle.refusal.specs.Limits.{TEXT_MAX}
use Rattle.policy_model.specs.Policy as Q
use Rattle.policy_model.specs.Policy.{Policy, PolicyRead, read}
use Rattle.run_model.specs.Redact.{print_rows}
use Rattle.run_model.specs.Entries.{Answer, done, refused, Redaction, Lent, Outcome, filled, outcome, outcome_with_report, is_short, with_buffers, with_policy}
use Rattle.entries.specs.declared.returned.Returned.{Returned}
use Rattle.entries.specs.declared.returned.ReturnedReport.{ReturnedReport}
use Rattle.entries.specs.Returned.{lent, lent_report, as_outcome, as_redact_outcome}
use Rattle.entries.specs.Inner.{with_report}

-- a buffer keeps the text at its front
zeroed_filled : (d t : Text) (n : ℕ) → take n d ≡ t → n ≤ length d → (length t ≡ n) × (zeroed d n ≡ filled t (length d))
unfolding zeroed filled
zeroed_filled d t n e h =
    let l : length t ≡ n = ap length (sym e) ∙ simp length-take (omega arith) in
    (l, rw (e, l))

-- .. or nothing
zeroed_whole : (d : Text) → zeroed d 0 ≡ filled [] (length d)
zeroed_whole d = (zeroed_filled d [] 0 refl (omega arith)).1

module _ (o s : Text) {o' s' : Text} where
  pub all_refused : (e : Refusal) (n : ℕ) {k : ℕ} → o' ≡ zeroed o 0 → s' ≡ zeroed s 0 → k ≡ number e
      → as_outcome (record { number = k; line = n; text_len = 0 }) o' s' ≡ outcome (lent (length o) (length s)) (refused e n)
  unfolding as_outcome outcome lent
  all_refused e n a c f = rw (a, c, f, zeroed_whole o, zeroed_whole s)

  pub all_done : (t : Text) {n : ℕ} → o' ≡ zeroed o n → s' ≡ zeroed s 0 → n ≤ length o → take n o ≡ t
      → as_outcome (record { number = 0; line = 0; text_len = n }) o' s' ≡ outcome (lent (length o) (length s)) (done t)
  unfolding as_outcome outcome lent
  all_done t {n} a c h f = let x = zeroed_filled o t n f h in rw (a, c, x.0, x.1, zeroed_whole s)

-- .. with a report beside them
module _ (ρ o' s' : Text) {ρ' : Text} (r : Returned) {q : ReturnedReport} (a b : ℕ) where
  pub report_refused : (e : Refusal) (n : ℕ) → q ≡ with_report r 0 0 → as_outcome r o' s' ≡ outcome (lent a b) (refused e n) → ρ' ≡ zeroed ρ 0
      → as_redact_outcome q o' ρ' s' ≡ outcome_with_report (lent_report a (length ρ) b) (refused e n)
  unfolding as_outcome as_redact_outcome outcome outcome_with_report lent_report with_report print_rows
  report_refused x n g e h =
      rw (g, h, zeroed_whole ρ, ap (λ (z : Outcome). z.number) e, ap (λ (z : Outcome). z.line) e, ap (λ (z : Outcome). z.text_length) e, ap (λ (z : Outcome). z.output) e, ap (λ (z : Outcome). z.scratch) e)

  pub report_done : (d : Redaction) {m k : ℕ} → q ≡ with_report r m k → as_outcome r o' s' ≡ outcome (lent a b) (done d.text) → ρ' ≡ zeroed ρ m → m ≤ length ρ
      → take m ρ ≡ print_rows d.rows → k ≡ length d.rows → as_redact_outcome q o' ρ' s' ≡ outcome_with_report (lent_report a (length ρ) b) (done d)
  unfolding as_outcome as_redact_outcome outcome outcome_with_report lent_report with_report
  report_done d {m} g e h l f c =
      let z = zeroed_filled ρ (print_rows d.rows) m f l in
      rw (g, h, c, z.0, z.1, ap (λ (z : Outcome). z.number) e, ap (λ (z : Outcome). z.line) e, ap (λ (z : Outcome). z.text_length) e, ap (λ (z : Outcome). z.output) e, ap (λ (z : Outcome). z.scratch) e)

-- a buffer keeps its length
pub same_lent : {a' a : ℕ} (b : ℕ) (x : Answer Text) → a' ≡ a → outcome (lent a' b) x ≡ outcome (lent a b) x
same_lent b x e = rw e

-- ---- short buffers

or_left : (a b : Bool) → a || b ≡ false → a ≡ false
or_left true b e = e
or_left false b e = refl

or_right : (a b : Bool) → a || b ≡ false → b ≡ false
or_right true true e = e
or_right true false e = refl
or_right false b e = e

module _ (a b : ℕ) (e : is_short (lent a b) ≡ false) where
  pub wide_output : TEXT_MAX ≤ a
  unfolding is_short lent
  wide_output = ltb-false a TEXT_MAX (or_left (ltb a TEXT_MAX) (ltb b TEXT_MAX) e)

  pub wide_scratch : TEXT_MAX ≤ b
  unfolding is_short lent
  wide_scratch = ltb-false b TEXT_MAX (or_right (ltb a TEXT_MAX) (ltb b TEXT_MAX) e)

-- an entry answers 1, or what it has to answer
module _ {X : Type 0} (b : Lent) (x : Answer X) where
  pub short_answer : is_short b ≡ true → refused ShortBuffer 0 ≡ with_buffers b x
  unfolding with_buffers
  short_answer e = rw e

  pub wide_answer : {y : Answer X} → is_short b ≡ false → y ≡ x → y ≡ with_buffers b x
  unfolding with_buffers
  wide_answer e f = rw (e, f)

pub with_short : (b : Lent) (x : Answer Text) → is_short b ≡ true → outcome b (refused ShortBuffer 0) ≡ outcome b (with_buffers b x)
with_short b x e = ap (outcome b) (short_answer b x e)

pub with_wide : (b : Lent) {y : Answer Text} (x : Answer Text) → is_short b ≡ false → y ≡ x → outcome b y ≡ outcome b (with_buffers b x)
with_wide b x e f = ap (outcome b) (wide_answer b x e f)

-- ---- a policy that is refused or read

pub refuses_policy : {X : Type 0} (o : PolicyRead) (f : Policy → Answer X) {x : Refusal} {n : ℕ} → o ≡ Q.refused x n → refused x n ≡ with_policy o f
unfolding with_policy
refuses_policy o f q = rw q

pub policy_read : {X : Type 0} (o : PolicyRead) (f : Policy → Answer X) (p : Policy) → o ≡ read p → f p ≡ with_policy o f
unfolding with_policy
policy_read o f p q = rw q
