-- What each of the five entries hands back: number, line, lengths, rows and every byte of every lent buffer, from the bytes handed in
-- and the lengths of the buffers. Assumes nothing: these are definitions.
use Rattle.std.specs.Prelude.{Bool, not, cond, ◌||◌, List, [], ◌++◌, ℕ, ◌+◌, ◌-◌, length, take, replicate, ltb}
use Rattle.std.proofs.Math.Option.{Option, none, some}
use Rattle.text.specs.Text.{Text}
use Rattle.er7_redact.specs.Action as A
use Rattle.refusal.specs.declared.Refusal.{Refusal}
use Rattle.refusal.specs.declared.Refusal.TheVariants.{ShortBuffer, TooLong, ForeignByte, TooMany, ReportTooLong, Withheld, NoSuchBuiltin}
use Rattle.refusal.specs.Refusal.{number, too_long, no_foreign}
use Rattle.refusal.specs.declared.input.Input.TheVariants as Inputs
use Rattle.refusal.specs.Limits.{RULES_MAX, TEXT_MAX}
use Rattle.message_model.specs.Message.{message_of, message_fault}
use Rattle.policy_model.specs.Policy as Q
use Rattle.policy_model.specs.Policy.{Policy, PolicyRead, read, read_policy, Unrecognised, pass, refuse, apply, merged, print_policy}
use Rattle.policy_model.specs.Builtin.{builtin_text}
use Rattle.run_model.specs.Redact as R
use Rattle.run_model.specs.Redact.{Row, Redacted, redact, print_rows}

-- ---- answers and outcomes

-- what a call has to give, or a refusal with its line
pub data Answer (X : Type 0) : Type 0 where
  done : X → Answer X
  refused : Refusal → ℕ → Answer X

-- a redacted text and its rows
pub record Redaction : Type 0 where
  pub text : Text
  pub rows : List Row

-- the lengths of the lent output and scratch; redact is lent a report too
pub record Lent : Type 0 where
  pub output : ℕ
  pub scratch : ℕ

pub record LentReport : Type 0 where
  pub buffers : Lent
  pub report : ℕ

-- what a call of print, append, built-in or payload hands back
pub record Outcome : Type 0 where
  pub number : ℕ
  pub line : ℕ
  pub text_length : ℕ
  pub output : Text
  pub scratch : Text

-- .. and one of redact
pub record RedactOutcome : Type 0 where
  pub number : ℕ
  pub line : ℕ
  pub text_length : ℕ
  pub report_length : ℕ
  pub rows : ℕ
  pub output : Text
  pub report : Text
  pub scratch : Text

-- a buffer of n bytes with the text t at its front and zeros behind
unfoldable pub filled : Text → ℕ → Text
filled t n = t ++ replicate (n - length t) 0

-- the number and the line of an answer; "Success is 0"
abbrev pub number_of : {X : Type 0} → Answer X → ℕ
number_of (done x) = 0
number_of (refused e n) = number e

abbrev pub line_of : {X : Type 0} → Answer X → ℕ
line_of (done x) = 0
line_of (refused e n) = n

-- a refusal gives no text and no rows
abbrev pub text_of : Answer Text → Text
text_of (done t) = t
text_of (refused e n) = []

abbrev pub redaction_of : Answer Redaction → Redaction
redaction_of (done d) = d
redaction_of (refused e n) = record { text = []; rows = [] }

-- "Success zeroes the scratch and the bytes behind text and report"; "Any refusal zeroes output, report and scratch whole, with
-- lengths and rows 0"
unfoldable pub outcome : Lent → Answer Text → Outcome
outcome b a =
    record { number = number_of a; line = line_of a; text_length = length (text_of a); output = filled (text_of a) b.output; scratch = filled [] b.scratch }

unfoldable pub outcome_with_report : LentReport → Answer Redaction → RedactOutcome
outcome_with_report b a =
    let d = redaction_of a in
    record {
      number = number_of a;
      line = line_of a;
      text_length = length d.text;
      report_length = length (print_rows d.rows);
      rows = length d.rows;
      output = filled d.text b.buffers.output;
      report = filled (print_rows d.rows) b.report;
      scratch = filled [] b.buffers.scratch;
    }

-- "Text and report are what output and report hold up to their lengths"
abbrev pub text_left : Outcome → Text
text_left o = take o.text_length o.output

-- ---- what every entry judges first, and the parts of an order

-- "output or scratch below 49,152 bytes"
unfoldable pub is_short : Lent → Bool
is_short b = ltb b.output TEXT_MAX || ltb b.scratch TEXT_MAX

unfoldable pub with_buffers : {X : Type 0} → Lent → Answer X → Answer X
with_buffers b a = cond (is_short b) (refused ShortBuffer 0) a

-- a policy's refusal comes with its line
unfoldable pub with_policy : {X : Type 0} → PolicyRead → (Policy → Answer X) → Answer X
with_policy (read P) f = f P
with_policy (Q.refused e n) f = refused e n

unfoldable pub without_fault : {X : Type 0} → Option Refusal → Answer X → Answer X
without_fault none a = a
without_fault (some e) a = refused e 0

-- ---- redact

-- "report longer than its buffer": "12 last"
unfoldable pub reported : ℕ → Redacted → Answer Redaction
reported n (R.done t ρs) = cond (ltb n (length (print_rows ρs))) (refused ReportTooLong 0) (done (record { text = t; rows = ρs }))
reported n (R.refused e) = refused e 0

unfoldable pub redact_answer : LentReport → Text → Text → ℕ → Answer Redaction
redact_answer b message policy key =
    with_buffers b.buffers
    (with_policy (read_policy policy) λ P. without_fault (message_fault message) (reported b.report (redact key P (message_of message))))

-- ---- print, append and built-in: "write the printed form of the policy read, merged or named"

unfoldable pub printed_policy : Policy → Answer Text
printed_policy P = done (print_policy P)

unfoldable pub print_answer : Lent → Text → Answer Text
print_answer b policy = with_buffers b (with_policy (read_policy policy) printed_policy)

-- "each policy whole ..; the merged rule count"
unfoldable pub merged_answer : Policy → Policy → Answer Text
merged_answer P Q = cond (ltb RULES_MAX (length P.rules + length Q.rules)) (refused TooMany 0) (printed_policy (merged P Q))

unfoldable pub append_answer : Lent → Text → Text → Answer Text
append_answer b first second =
    with_buffers b (with_policy (read_policy first) λ P. with_policy (read_policy second) λ Q. merged_answer P Q)

-- "number above 3"
unfoldable pub builtin_answer : Lent → ℕ → Answer Text
builtin_answer b n = with_buffers b (cond (ltb 3 n) (refused NoSuchBuiltin 0) (with_policy (read_policy (builtin_text n)) printed_policy))

-- ---- payload: "the payload (2, 3, 13)"

unfoldable pub payload_fault : Text → Option Refusal
payload_fault t = cond (too_long t) (some TooLong) (cond (not (no_foreign Inputs.Payload t)) (some ForeignByte) none)

-- the text that an action writes, or the payload where it writes none
unfoldable pub written_or : Text → Option Text → Text
written_or t none = t
written_or t (some w) = w

-- "payload under refuse"
unfoldable pub unrecognised : ℕ → Unrecognised → Text → Answer Text
unrecognised key pass t = done t
unrecognised key refuse t = refused Withheld 0
unrecognised key (apply a) t = done (written_or t (A.apply key a t))

unfoldable pub payload_answer : Lent → Text → Text → ℕ → Answer Text
payload_answer b payload policy key =
    with_buffers b
    (with_policy (read_policy policy) λ P. without_fault (payload_fault payload) (unrecognised key P.unrecognised payload))

-- ---- the outcomes of the five entries

unfoldable pub redact_outcome : LentReport → Text → Text → ℕ → RedactOutcome
redact_outcome b message policy key = outcome_with_report b (redact_answer b message policy key)

unfoldable pub print_outcome : Lent → Text → Outcome
print_outcome b policy = outcome b (print_answer b policy)

unfoldable pub append_outcome : Lent → Text → Text → Outcome
append_outcome b first second = outcome b (append_answer b first second)

unfoldable pub builtin_outcome : Lent → ℕ → Outcome
builtin_outcome b n = outcome b (builtin_answer b n)

unfoldable pub payload_outcome : Lent → Text → Text → ℕ → Outcome
payload_outcome b payload policy key = outcome b (payload_answer b payload policy key)
