use Rattle.entries.proofs.Outcomes.{all_done}
use Rattle.entries.proofs.returned.finish.Goals as goal

pub returns : goal.returns
returns c = λ t f. all_done _ _ t c.zero_behind.ensures.0 c.zero_behind.ensures.1 c.requires f
