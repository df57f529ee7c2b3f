use mathlib.Core.Path.{refl}
use Rattle.redact_6_row.specs.Inner.{leaf_path}
use Rattle.redact_6_row.proofs.report.path_of.Goals as goal

pub returns : goal.returns
unfolding leaf_path
returns c = refl
