use Rattle.std.proofs.Common.{arith}
use Rattle.calendar.proofs.SignedLaws.{back}
use Rattle.calendar.proofs.TextLaws.{moved_told, cleared_written, day_room, shift_written}
use Rattle.calendar.proofs.texts.shift_at.Goals as goal

pub put_day-requires : goal.put_day-requires
put_day-requires c =
    let n = back _ c.ranges.n.sfits in
    day_room _ _ (moved_told _ n c.is_moved.ensures c.if-is_moved.true) n
    (back _ c.moved_day.type_inv) c.moved_day.ensures _ _ c.requires

pub returns-then-is_moved : goal.returns-then-is_moved
returns-then-is_moved c =
    let n = back _ c.ranges.n.sfits in
    shift_written _ _ (moved_told _ n c.is_moved.ensures c.if-is_moved.true) n
    (back _ c.moved_day.type_inv) c.moved_day.ensures c.put_day.ensures

pub returns-else-is_moved : goal.returns-else-is_moved
returns-else-is_moved c = cleared_written _ _ _ _ (moved_told _ (back _ c.ranges.n.sfits) c.is_moved.ensures c.if-is_moved.false) (omega arith)
