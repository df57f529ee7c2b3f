use Rattle.text.proofs.Runs.{drop_slice}
use Rattle.calendar.proofs.SignedLaws.{back}
use Rattle.calendar.proofs.TextLaws.{day_written, rest_room}
use Rattle.calendar.proofs.texts.put_day.Goals as goal

pub copy_at-requires : goal.copy_at-requires
copy_at-requires c = rest_room _ _ _ _ c.requires (drop_slice c.args.value.now 8) (back _ c.ranges.day.sfits) c.date_of.result c.put_date-behind.ensures

pub returns : goal.returns
returns c = day_written _ _ _ _ c.requires (drop_slice c.args.value.now 8) (back _ c.ranges.day.sfits) _ c.date_of.ensures c.put_date-behind.ensures c.copy_at.ensures
