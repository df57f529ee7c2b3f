use Rattle.std.proofs.Common.{refl}
use Rattle.entries.specs.Inner.{with_report}
use Rattle.entries.proofs.returned.with_report.Goals as goal

pub returns : goal.returns
unfolding with_report
returns c = refl
