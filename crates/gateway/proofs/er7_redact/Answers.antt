use Rattle.gateway.proofs.Laws.{returned_report}
use Rattle.gateway.proofs.er7_redact.Goals as goal

pub returns : goal.returns
returns c = returned_report _ _ _ _ c.redact-redacted.ensures
