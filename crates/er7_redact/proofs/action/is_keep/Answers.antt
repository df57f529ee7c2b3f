use Rattle.er7_redact.specs.Action.{is_keep}
use Rattle.er7_redact.proofs.action.is_keep.Goals as goal

pub returns : goal.returns
unfolding is_keep
returns c = λ t. rw (c.kind.ensures t)
