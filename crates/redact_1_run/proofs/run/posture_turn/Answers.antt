use Rattle.redact_1_run.proofs.Steps.{accept_turn, reject_turn}
use Rattle.redact_1_run.proofs.run.posture_turn.Goals as goal

pub returns-in-Accept : goal.returns-in-Accept
returns-in-Accept c = accept_turn c.in-Accept.is

pub returns-in-Reject : goal.returns-in-Reject
returns-in-Reject c = reject_turn c.in-Reject.is
