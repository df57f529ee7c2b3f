use Rattle.er7_redact.proofs.Actions.{action_read}
use Rattle.er7_redact.proofs.action.parse.Goals as goal

pub returns : goal.returns
returns c = action_read c.run_end-end.ensures c.run_end-start.ensures _ c.verb_of-v.ensures c.read_argument.ensures
