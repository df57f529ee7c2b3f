use Rattle.entries.proofs.Outcomes.{report_refused}
use Rattle.entries.proofs.returned.refuse_report.Goals as goal

pub returns : goal.returns
returns c = report_refused _ _ _ _ _ _ _ _ c.with_report.ensures c.refuse.ensures c.zero_from.ensures
