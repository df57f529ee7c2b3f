use Rattle.std.proofs.Common.{arith}
use Rattle.redact.proofs.Laws.{no_fault, parsed_loaded, any_loaded, message_refused, run_refused, report_full, run_done, hands_on}
use Rattle.redact.proofs.redact.redact_in.Goals as goal

pub returns-in_err-layout : goal.returns-in_err-layout
returns-in_err-layout c = hands_on _ c.from_residual.ensures.1 (message_refused c.in_err-layout.ensures _)

pub redact_from-requires : goal.redact_from-requires
redact_from-requires c = (c.requires.0, any_loaded c.in_ok-layout.ensures c.requires.1)

pub returns-in_err-redacted : goal.returns-in_err-redacted
returns-in_err-redacted c = hands_on _ c.from_residual-in_err-redacted.ensures.1 (run_refused _ _ _ (no_fault c.in_ok-layout.ensures) _ (c.in_err-redacted.ensures _ (parsed_loaded c.in_ok-layout.ensures c.requires.1)))

pub returns-then-report-redacted : goal.returns-then-report-redacted
returns-then-report-redacted c = rw c.into.ensures (report_full _ _ _ (no_fault c.in_ok-layout.ensures) (c.in_ok-redacted.ensures _ (parsed_loaded c.in_ok-layout.ensures c.requires.1)) _ (omega (arith, c.if-report-redacted.true, c.redact_from.auto.report)))

pub returns : goal.returns
returns c = run_done _ _ _ (no_fault c.in_ok-layout.ensures) (c.in_ok-redacted.ensures _ (parsed_loaded c.in_ok-layout.ensures c.requires.1)) _ c.requires.3 (omega (arith, c.redact_from.auto.report)) (omega arith)
