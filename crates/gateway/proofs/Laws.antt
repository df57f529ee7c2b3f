-- Laws of what an entry for C hands back: it is what the call's struct stands for. Assumes nothing.
use mathlib.Core.Path.{◌≡◌}
use Rattle.text.specs.Text.{Text}
use Rattle.run_model.specs.Entries.{Outcome, RedactOutcome}
use Rattle.entries.specs.declared.returned.Returned.{Returned}
use Rattle.entries.specs.declared.returned.ReturnedReport.{ReturnedReport}
use Rattle.entries.specs.Returned.{as_outcome, as_redact_outcome}
use Rattle.gateway.specs.Gateway.{outcome_of, redact_outcome_of}

pub returned_text : (r : Returned) (o s : Text) {x : Outcome} → as_outcome r o s ≡ x → outcome_of r.number r.line r.text_len o s ≡ x
unfolding as_outcome outcome_of
returned_text r o s e = e

pub returned_report : (r : ReturnedReport) (o ρ s : Text) {x : RedactOutcome} → as_redact_outcome r o ρ s ≡ x
    → redact_outcome_of r.number r.line r.text_len r.report_len r.rows o ρ s ≡ x
unfolding as_redact_outcome redact_outcome_of
returned_report r o ρ s e = e
