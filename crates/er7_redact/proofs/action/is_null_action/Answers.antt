use Rattle.er7_redact.specs.Action.{is_null_action}
use Rattle.er7_redact.proofs.action.is_null_action.Goals as goal

pub returns : goal.returns
unfolding is_null_action
returns c = λ t. rw (c.kind.ensures t)
