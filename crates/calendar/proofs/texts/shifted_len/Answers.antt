use Rattle.std.proofs.Common.{sym, ap, length}
use Rattle.calendar.proofs.SignedLaws.{back}
use Rattle.calendar.proofs.TextLaws.{moved_told, cleared_is, shifted_long}
use Rattle.calendar.proofs.texts.shifted_len.Goals as goal

pub returns-then-is_moved : goal.returns-then-is_moved
returns-then-is_moved c = sym (shifted_long _ _ (moved_told _ (back _ c.ranges.n.sfits) c.is_moved.ensures c.if-is_moved.true))

pub returns-else-is_moved : goal.returns-else-is_moved
returns-else-is_moved c = sym (ap length (cleared_is _ _ (moved_told _ (back _ c.ranges.n.sfits) c.is_moved.ensures c.if-is_moved.false)))
