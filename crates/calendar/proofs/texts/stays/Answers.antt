use Rattle.std.proofs.Common.{arith}
use Rattle.calendar.proofs.SignedLaws.{back, side, stays_is}
use Rattle.calendar.proofs.texts.stays.Goals as goal

pub overflow_sub-result : goal.overflow_sub-result
overflow_sub-result c = side c.args.day c.args.n c.requires (back _ c.ranges.day.sfits) (back _ c.ranges.n.sfits) _ (omega arith)

pub overflow_sub-result-2 : goal.overflow_sub-result-2
overflow_sub-result-2 c = side c.args.day c.args.n c.requires (back _ c.ranges.day.sfits) (back _ c.ranges.n.sfits) _ (omega arith)

pub returns : goal.returns
returns c = stays_is c.args.day c.args.n c.requires (back _ c.ranges.day.sfits) (back _ c.ranges.n.sfits)
