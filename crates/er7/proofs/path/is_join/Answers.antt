use Rattle.er7.specs.Path.{is_join}
use Rattle.er7.proofs.path.is_join.Goals as goal

pub returns : goal.returns
unfolding is_join
returns c = search
