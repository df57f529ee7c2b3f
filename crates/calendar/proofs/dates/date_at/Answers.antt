use Rattle.calendar.proofs.DateLaws.{date_made}
use Rattle.calendar.proofs.dates.date_at.Goals as goal

pub returns : goal.returns
returns c = date_made c.requires.0 c.whole_years-years.ensures c.years_days.ensures c.whole_months-months.ensures c.months_days.ensures
