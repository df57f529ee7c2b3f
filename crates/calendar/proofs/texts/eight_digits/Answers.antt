use Rattle.std.proofs.Common.{arith}
use Rattle.calendar.proofs.Digits.{reading_start, reading_low, reading_fits, reading_more, reading_end}
use Rattle.calendar.proofs.texts.eight_digits.Goals as goal

pub loop-b-init : goal.loop-b-init
loop-b-init c = reading_start _ c.requires.1

pub overflow_mul-n : goal.overflow_mul-n
overflow_mul-n c = omega (arith, reading_fits c.loop-b.invariant c.loop-b-test.true)

pub overflow_sub-b : goal.overflow_sub-b
overflow_sub-b c = reading_low c.loop-b.invariant c.loop-b-test.true

pub overflow_add-n : goal.overflow_add-n
overflow_add-n c = omega (arith, reading_fits c.loop-b.invariant c.loop-b-test.true)

pub loop-b-preserved : goal.loop-b-preserved
loop-b-preserved c = reading_more c.loop-b.invariant c.loop-b-test.true c.from.ensures

pub returns : goal.returns
returns c = reading_end c.loop-b.invariant c.loop-b-test.false
