use Rattle.entries.proofs.Outcomes.{all_refused}
use Rattle.entries.proofs.returned.refuse.Goals as goal

pub returns : goal.returns
returns c = all_refused _ _ _ _ c.zero_behind.ensures.0 c.zero_behind.ensures.1 c.number.ensures
