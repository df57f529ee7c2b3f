use Rattle.redact_6_row.specs.Reach.{starts_at, as_reach}
use Rattle.run_model.specs.Redact.{starts}
use Rattle.redact_6_row.proofs.reach.starts.Goals as goal

pub returns-in-EachLeaf : goal.returns-in-EachLeaf
unfolding starts_at as_reach starts
returns-in-EachLeaf c = rw c.in-EachLeaf.is

pub returns-in-EachField : goal.returns-in-EachField
unfolding starts_at as_reach starts
returns-in-EachField c = rw c.in-EachField.is

pub returns-in-EachRepetition : goal.returns-in-EachRepetition
unfolding starts_at as_reach starts
returns-in-EachRepetition c = rw c.in-EachRepetition.is

pub returns-in-EachComponent : goal.returns-in-EachComponent
unfolding starts_at as_reach starts
returns-in-EachComponent c = rw c.in-EachComponent.is
