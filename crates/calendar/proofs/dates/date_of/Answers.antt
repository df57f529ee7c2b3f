use Rattle.std.proofs.Common.{arith}
use Rattle.calendar.proofs.SignedLaws.{back}
use Rattle.calendar.proofs.Moves.{in_years_lem}
use Rattle.calendar.proofs.dates.date_of.Goals as goal

pub overflow_cast-n : goal.overflow_cast-n
overflow_cast-n c = let z = in_years_lem _ c.requires in rw (back _ c.ranges.n.sfits) (z.sign, record { fits = omega arith })

pub date_at-requires : goal.date_at-requires
date_at-requires c = let z = in_years_lem _ c.requires in rw (back _ c.ranges.n.sfits) (z.low, z.high)

pub returns : goal.returns
returns c = rw (back _ c.ranges.n.sfits) at c.date_at.ensures
