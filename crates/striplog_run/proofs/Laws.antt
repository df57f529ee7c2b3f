-- Laws of what is printed, by the files that are there, and of what the entry hands back. Assumes nothing.
use Rattle.std.proofs.Common.{◌≡◌, sym, ap, ◌∙◌, ℕ, ◌^◌, ◌≤◌, ◌<◌, arith, length, take, length-append, length-take}
use Rattle.std.proofs.lemmas.List.{length-replicate}
use Rattle.text.specs.Text.{Text}
use Rattle.run_model.specs.Redact.{print_rows}
use Rattle.run_model.specs.Entries.{LentReport, Answer, Redaction, RedactOutcome, redaction_of, filled, outcome_with_report, redact_answer, redact_outcome}
use Rattle.striplog_text.specs.Striplog.{printed, printed_outcome, lent_buffers}
use Rattle.striplog_text.proofs.Lines.{printed_most}
use Rattle.entries.specs.Returned.{as_redact_outcome, lent, lent_report}
use Rattle.entries.specs.declared.returned.ReturnedReport.{ReturnedReport}
use Rattle.refusal.specs.Limits.{TEXT_MAX}

-- ---- what the entry hands back

-- a text that is held with zeros behind it is no longer than its buffer
filled_most : (t : Text) (n : ℕ) → length (filled t n) ≡ n → length t ≤ n
unfolding filled
filled_most t n e = omega (arith, simp (length-append, length-replicate) at e)

module _ (b : LentReport) (a : Answer Redaction) where
  text_most : length (outcome_with_report b a).output ≡ b.buffers.output → (outcome_with_report b a).text_length ≤ b.buffers.output
  unfolding outcome_with_report
  text_most e = filled_most (redaction_of a).text b.buffers.output e

  report_most : length (outcome_with_report b a).report ≡ b.report → (outcome_with_report b a).report_length ≤ b.report
  unfolding outcome_with_report
  report_most e = filled_most (print_rows (redaction_of a).rows) b.report e

module _ (h : ReturnedReport) (o r s m p : Text) (k : ℕ) (e : as_redact_outcome h o r s ≡ redact_outcome (lent_report TEXT_MAX 65536 TEXT_MAX) m p k) where
  pub text_end : length o ≡ TEXT_MAX → h.text_len ≤ TEXT_MAX
  unfolding as_redact_outcome redact_outcome lent_report lent
  text_end l = rw (ap (λ (x : RedactOutcome). x.text_length) e) (text_most (lent_report TEXT_MAX 65536 TEXT_MAX) (redact_answer (lent_report TEXT_MAX 65536 TEXT_MAX) m p k) (sym (ap (λ (x : RedactOutcome). length x.output) e) ∙ l))

  pub report_end : length r ≡ 65536 → h.report_len ≤ 65536
  unfolding as_redact_outcome redact_outcome lent_report lent
  report_end l = rw (ap (λ (x : RedactOutcome). x.report_length) e) (report_most (lent_report TEXT_MAX 65536 TEXT_MAX) (redact_answer (lent_report TEXT_MAX 65536 TEXT_MAX) m p k) (sym (ap (λ (x : RedactOutcome). length x.report) e) ∙ l))

  pub returned_prints : printed h.number h.line (take h.text_len o) (take h.report_len r) h.rows ≡ printed_outcome (redact_outcome lent_buffers m p k)
  unfolding as_redact_outcome lent_report lent lent_buffers printed_outcome
  returned_prints = ap printed_outcome e

-- and there is room for what is printed of it
pub returned_room : (h : ReturnedReport) (o r : Text) (n : ℕ) → h.number < 2 ^ 64 → h.line < 2 ^ 64 → h.rows < 2 ^ 64 → length o ≡ TEXT_MAX → length r ≡ 65536 → 114714 ≤ n
    → length (printed h.number h.line (take h.text_len o) (take h.report_len r) h.rows) ≤ n
returned_room h o r n hn hl hr lo lr k =
    let a : length (take h.text_len o) ≤ TEXT_MAX = simp length-take (omega arith) in
    let b : length (take h.report_len r) ≤ 65536 = simp length-take (omega arith) in
    omega (arith, printed_most h.number h.line h.rows (take h.text_len o) (take h.report_len r) hn hl hr a b)
