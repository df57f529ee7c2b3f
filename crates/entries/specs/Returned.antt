-- What the structs that calls hand back stand for, beside the buffers. Assumes nothing: these are definitions.
use Rattle.std.specs.Prelude.{ℕ}
use Rattle.text.specs.Text.{Text}
use Rattle.run_model.specs.Entries.{Lent, LentReport, Outcome, RedactOutcome}
use Rattle.entries.specs.declared.returned.Returned.{Returned}
use Rattle.entries.specs.declared.returned.ReturnedReport.{ReturnedReport}

-- the lengths of the lent output and scratch; of the lent output, report and scratch
unfoldable pub lent : ℕ → ℕ → Lent
lent o s = record { output = o; scratch = s }

unfoldable pub lent_report : ℕ → ℕ → ℕ → LentReport
lent_report o ρ s = record { buffers = lent o s; report = ρ }

-- what a call hands back, with the output o and the scratch s as it leaves them; the same of redact, with the report ρ
unfoldable pub as_outcome : Returned → Text → Text → Outcome
as_outcome r o s = record { number = r.number; line = r.line; text_length = r.text_len; output = o; scratch = s }

unfoldable pub as_redact_outcome : ReturnedReport → Text → Text → Text → RedactOutcome
as_redact_outcome r o ρ s =
    record {
      number = r.number;
      line = r.line;
      text_length = r.text_len;
      report_length = r.report_len;
      rows = r.rows;
      output = o;
      report = ρ;
      scratch = s;
    }
