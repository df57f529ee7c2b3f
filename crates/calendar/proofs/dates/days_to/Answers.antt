use Rattle.std.proofs.Common.{arith}
use Rattle.calendar.proofs.DateLaws.{bounds_of}
use Rattle.calendar.proofs.dates.days_to.Goals as goal

pub overflow_sub-date : goal.overflow_sub-date
overflow_sub-date c = let b = bounds_of _ c.requires in b.year_low

pub years_days-requires : goal.years_days-requires
years_days-requires c = let b = bounds_of _ c.requires in omega (arith, b.year_high)
