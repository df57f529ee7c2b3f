use Rattle.std.proofs.Common.{◌∙◌, ap}
use Rattle.calendar.specs.Calendar.{is_date}
use Rattle.calendar.proofs.TextLaws.{dated_of}
use Rattle.calendar.proofs.texts.day_of.Goals as goal

pub front_date-requires : goal.front_date-requires
front_date-requires c = let d = dated_of _ c.requires in (d.low, d.digits)

pub day_number-requires : goal.day_number-requires
day_number-requires c = ap is_date c.front_date.ensures ∙ (dated_of _ c.requires).date
