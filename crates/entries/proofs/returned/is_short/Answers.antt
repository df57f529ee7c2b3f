use Rattle.entries.specs.Returned.{lent}
use Rattle.run_model.specs.Entries.{is_short}
use Rattle.std.proofs.Common.{refl}
use Rattle.entries.proofs.returned.is_short.Goals as goal

pub returns : goal.returns
unfolding is_short lent
returns c = refl
