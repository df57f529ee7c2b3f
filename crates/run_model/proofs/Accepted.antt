-- What a call of redact has done if its number is 0. Assumes nothing.
use mathlib.Core.Path.{◌≡◌, refl, ◌∙◌}
use mathlib.Core.Bool.{Bool, true, false, cond}
use mathlib.Core.List.{List}
use mathlib.Core.Option.{Option, none, some}
use Prim.Native.Nat.{ℕ}
use native.Mathlib.Omega.{arith}
use lib.Dec.{ltb}
use lib.ListN.{length}
use Rattle.text.specs.Text.{Text}
use Rattle.refusal.specs.declared.Refusal.{Refusal}
use Rattle.refusal.specs.declared.Refusal.TheVariants.{ShortBuffer, TooLong, ForeignByte, BadHeader, BadSegment, TooMany, BadAction, BadPath, BadDirective, TooMuchLearnt, MessageTooLong, ReportTooLong, Withheld, NoSuchBuiltin, BadDayCount}
use Rattle.refusal.specs.Refusal.{number}
use Rattle.message_model.specs.Message.{message_of, message_fault}
use Rattle.policy_model.specs.Policy.{Policy, read, read_policy}
use Rattle.run_model.specs.Redact as R
use Rattle.run_model.specs.Redact.{Row, Redacted, redact, print_rows}
use Rattle.run_model.specs.Entries.{Answer, done, refused, Redaction, LentReport, number_of, outcome_with_report, is_short, with_buffers, with_policy, without_fault, reported, redact_answer, redact_outcome}

-- no refusal has the number 0
pub number_positive : (e : Refusal) → number e ≡ 0 → ⊥
unfolding number
number_positive ShortBuffer h = omega arith
number_positive TooLong h = omega arith
number_positive ForeignByte h = omega arith
number_positive BadHeader h = omega arith
number_positive BadSegment h = omega arith
number_positive TooMany h = omega arith
number_positive BadAction h = omega arith
number_positive BadPath h = omega arith
number_positive BadDirective h = omega arith
number_positive TooMuchLearnt h = omega arith
number_positive MessageTooLong h = omega arith
number_positive ReportTooLong h = omega arith
number_positive Withheld h = omega arith
number_positive NoSuchBuiltin h = omega arith
number_positive BadDayCount h = omega arith

abbrev pub Succeeds : {X : Type 0} → Answer X → Type 0
Succeeds a = number_of a ≡ 0

-- the message has no fault, and the run gave a text and rows that the report has room for
pub record Done (b : LentReport) (message policy : Text) (key : ℕ) (P : Policy) : Type 0 where
  pub no_fault : message_fault message ≡ none
  pub text : Text
  pub rows : List Row
  pub run : redact key P (message_of message) ≡ R.done text rows
  pub answer : redact_answer b message policy key ≡ done (record { text = text; rows = rows })

module _ (b : LentReport) (message policy : Text) (key : ℕ) (P : Policy) where
  abbrev rest : Answer Redaction
  rest = without_fault (message_fault message) (reported b.report (redact key P (message_of message)))

  reported_done : (d : Redacted) → Succeeds (reported b.report d) → (t : Text) × (ρs : List Row) × (d ≡ R.done t ρs) × (reported b.report d ≡ done (record { text = t; rows = ρs }))
  unfolding reported
  reported_done (R.done t ρs) h = go (ltb b.report (length (print_rows ρs))) h
    where
      go : (c : Bool) → Succeeds {X = Redaction} (cond c (refused ReportTooLong 0) (done (record { text = t; rows = ρs })))
          → (u : Text) × (σs : List Row) × (R.done t ρs ≡ R.done u σs) × (cond {A = Answer Redaction} c (refused ReportTooLong 0) (done (record { text = t; rows = ρs })) ≡ done (record { text = u; rows = σs }))
      go true k = absurd (number_positive ReportTooLong k)
      go false k = (t, ρs, refl, refl)
  reported_done (R.refused e) h = absurd (number_positive e h)

  from_fault : (o : Option Refusal) → message_fault message ≡ o → Succeeds (without_fault o (reported b.report (redact key P (message_of message))))
      → redact_answer b message policy key ≡ without_fault o (reported b.report (redact key P (message_of message))) → Done b message policy key P
  unfolding without_fault
  from_fault none e h a =
      let d = reported_done (redact key P (message_of message)) h in
      record { no_fault = e; text = d.0; rows = d.1; run = d.2; answer = a ∙ d.3 }
  from_fault (some x) e h a = absurd (number_positive x h)

  from_buffers : (c : Bool) → is_short b.buffers ≡ c → read_policy policy ≡ read P → Succeeds (cond c (refused ShortBuffer 0) rest) → Done b message policy key P
  unfolding redact_answer with_buffers with_policy
  from_buffers true e q h = absurd (number_positive ShortBuffer h)
  from_buffers false e q h = from_fault (message_fault message) refl h (rw (e, q))

  pub is_done : read_policy policy ≡ read P → (redact_outcome b message policy key).number ≡ 0 → Done b message policy key P
  unfolding redact_outcome outcome_with_report redact_answer with_buffers with_policy
  is_done q h = from_buffers (is_short b.buffers) refl q (rw q at h)
