use Rattle.std.proofs.Common.{arith}
use Rattle.calendar.proofs.DateLaws.{bounds_of, day_short}
use Rattle.calendar.proofs.texts.stamp_of.Goals as goal

pub overflow_mul-result : goal.overflow_mul-result
overflow_mul-result c = omega (arith, bounds_of _ c.requires)

pub overflow_mul-result-2 : goal.overflow_mul-result-2
overflow_mul-result-2 c = omega (arith, bounds_of _ c.requires)

pub overflow_add-result : goal.overflow_add-result
overflow_add-result c = omega (arith, bounds_of _ c.requires)

pub overflow_add-result-2 : goal.overflow_add-result-2
overflow_add-result-2 c = omega (arith, bounds_of _ c.requires, day_short _ (bounds_of _ c.requires))
