use Rattle.std.proofs.Common.{sym, ap, ◌∙◌, arith}
use Rattle.run_model.specs.Entries.{outcome_with_report, redact_outcome, redact_answer}
use Rattle.refusal.specs.Refusal.{without_line}
use Rattle.entries.specs.Returned.{lent_report}
use Rattle.entries.proofs.Outcomes.{short_answer, wide_output}
use Rattle.redact.proofs.Laws.{returned_done, returned_refused}
use Rattle.redact.proofs.redact.redact.Goals as goal

pub returns-then-is_short : goal.returns-then-is_short
unfolding redact_outcome redact_answer lent_report without_line
returns-then-is_short c = (rw c.into.ensures at c.refuse_report.ensures) ∙ ap (outcome_with_report _) (short_answer _ _ (sym c.is_short.ensures ∙ c.if-is_short.true))

pub redact_by-requires : goal.redact_by-requires
redact_by-requires c = omega (arith, wide_output _ _ (sym c.is_short.ensures ∙ c.if-is_short.false))

pub finish_report-requires : goal.finish_report-requires
finish_report-requires c = (c.in-Ok.ensures.out.text_fits, c.in-Ok.ensures.out.report_fits)

pub returns-in-Ok : goal.returns-in-Ok
unfolding redact_outcome redact_answer lent_report
returns-in-Ok c = returned_done _ _ _ (sym c.is_short.ensures ∙ c.if-is_short.false) (omega (arith, c.redact_by.auto.output)) (omega (arith, c.redact_by.auto.report)) c.in-Ok.ensures c.finish_report.ensures

pub returns-in-Err : goal.returns-in-Err
unfolding redact_outcome redact_answer lent_report
returns-in-Err c = returned_refused _ _ _ (sym c.is_short.ensures ∙ c.if-is_short.false) (omega (arith, c.redact_by.auto.output)) (omega (arith, c.redact_by.auto.report)) c.in-Err.ensures c.refuse_report-in-Err.ensures
