-- What the contracts of private functions cite; no public contract rests on it. Assumes nothing: these are definitions.
use Rattle.std.specs.Prelude.{◌≡◌, ℕ, ◌≤◌, length, take, Ok, Err}
use Rattle.std.specs.declared.result.Result.{Result}
use Rattle.text.specs.Text.{Text}
use Rattle.run_model.specs.Redact.{print_rows}
use Rattle.run_model.specs.Entries as Model
use Rattle.redact_1_run.specs.declared.from_tables.Redacted.{Redacted}
use Rattle.refusal.specs.declared.Refused.{Refused}

-- the text stands at the front of the output, and the rows at that of the report
pub record Written (a : Model.Answer Model.Redaction) (n k m : ℕ) (output report : Text) : Type 0 where
  pub gives : Model.Redaction
  pub is : a ≡ Model.done gives
  pub text_fits : n ≤ length output
  pub text_is : take n output ≡ gives.text
  pub report_fits : k ≤ length report
  pub report_is : take k report ≡ print_rows gives.rows
  pub count : m ≡ length gives.rows

-- .. or there is a refusal
abbrev pub AnsweredOr : Model.Answer Model.Redaction → Text → Text → Result Redacted Refused → Type 0
AnsweredOr a output report (Ok q) = Written a q.text_len q.report_len q.rows output report
AnsweredOr a output report (Err e) = a ≡ Model.refused e.refusal e.line

pub record AnsweredAs (a : Model.Answer Model.Redaction) (output report : Text) (r : Result Redacted Refused) : Type 0 where
  pub out : AnsweredOr a output report r
