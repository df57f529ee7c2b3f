-- What an entry for C hands back. Assumes nothing: these are definitions.
use Rattle.std.specs.Prelude.{ℕ}
use Rattle.text.specs.Text.{Text}
use Rattle.run_model.specs.Entries.{Outcome, RedactOutcome}

-- "The gym's gateway is a C program and calls the five entries .. with numbers and byte slices": the result, then what the call leaves
-- behind its pointers: line and length of the text; output, scratch
unfoldable pub outcome_of : ℕ → ℕ → ℕ → Text → Text → Outcome
outcome_of r l t o s = record { number = r; line = l; text_length = t; output = o; scratch = s }

-- .. and of redact: line, length of the text, length of the report, rows; output, report, scratch
unfoldable pub redact_outcome_of : ℕ → ℕ → ℕ → ℕ → ℕ → Text → Text → Text → RedactOutcome
redact_outcome_of r l t p n o ρ s =
    record {
      number = r;
      line = l;
      text_length = t;
      report_length = p;
      rows = n;
      output = o;
      report = ρ;
      scratch = s;
    }
