-- What the contracts of private functions cite; no public contract rests on it. Assumes nothing: these are definitions.
use Rattle.std.specs.Prelude.{◌≡◌, ℕ, ◌≤◌, length, take, Result, Ok, Err, IfOk}
use Rattle.std.proofs.Math.Option.{Option, none, some}
use Rattle.text.specs.Text.{Text}
use Rattle.er7_redact.specs.Action as A
use Rattle.er7_redact.specs.Action.{Action, room}
use Rattle.policy_model.specs.Policy.{Unrecognised, pass, refuse, apply}
use Rattle.refusal.specs.declared.Refusal.{Refusal}
use Rattle.refusal.specs.declared.Refused.{Refused}
use Rattle.run_model.specs.Entries.{Answer, done, refused}
use Rattle.entries.specs.declared.returned.Returned.{Returned}
use Rattle.entries.specs.declared.returned.ReturnedReport.{ReturnedReport}
use Rattle.refusal.specs.Limits.{TEXT_MAX}

-- what a call returned, with a report of k bytes and m rows
unfoldable pub with_report : Returned → ℕ → ℕ → ReturnedReport
with_report r k m = record { number = r.number; line = r.line; text_len = r.text_len; report_len = k; rows = m }

-- the first n bytes of the buffer d were written, or nothing and a refusal is handed on
unfoldable pub answer_of : Text → Result ℕ Refused → Answer Text
answer_of d (Ok n) = done (take n d)
answer_of d (Err e) = refused e.refusal e.line

-- r gives the answer x, whose text stands at the front of the buffer d
pub record Answers (x : Answer Text) (d : Text) (r : Result ℕ Refused) : Type 0 where
  pub is : answer_of d r ≡ x
  pub inside : IfOk r (λ n. n ≤ length d)

-- what a test of an input found
unfoldable pub fault_of : Result (Unit {0}) Refusal → Option Refusal
fault_of (Ok u) = none
fault_of (Err e) = some e

-- what an action writes in the place of a text is no longer than a message may be, if the text is none longer; no payload is refused for
-- it, since it has at most 32,768 bytes and an action's argument at most 80
abbrev pub NeverLong : ℕ → Action → Type 0
NeverLong key a = (v : Text) → length v ≤ TEXT_MAX → room (A.apply key a v) ≤ TEXT_MAX

abbrev pub UnrecognisedShort : ℕ → Unrecognised → Type 0
UnrecognisedShort key pass = Unit {0}
UnrecognisedShort key refuse = Unit {0}
UnrecognisedShort key (apply a) = NeverLong key a
