use Rattle.std.proofs.Common.{refl}
use Rattle.calendar.proofs.YearLaws.{years_in}
use Rattle.calendar.proofs.years.whole_years.Goals as goal

pub returns : goal.returns
returns c = years_in _ _ _ _ c.requires c.min-hundreds.ensures refl c.min-ones.ensures
