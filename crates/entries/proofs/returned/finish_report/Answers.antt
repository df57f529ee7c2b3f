use Rattle.entries.proofs.Outcomes.{report_done}
use Rattle.entries.proofs.returned.finish_report.Goals as goal

pub returns : goal.returns
returns c = λ d f g e. report_done _ _ _ _ _ _ d c.with_report.ensures (c.finish.ensures _ f) c.zero_from.ensures c.requires.1 g e
