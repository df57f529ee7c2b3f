use Rattle.policy.proofs.Reading.{starts}
use Rattle.policy.proofs.policy.Policy.start.Goals as goal

pub returns : goal.returns
returns c = rw c.none.ensures starts
