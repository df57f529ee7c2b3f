use Rattle.std.proofs.Common.{arith}
use Rattle.pseudonym.proofs.Products.{halves_fit, low_product}
use Rattle.pseudonym.proofs.wrapping_mul.Goals as goal

pub overflow_mul-middle : goal.overflow_mul-middle
overflow_mul-middle c = record { fits = halves_fit _ _ (omega arith) (omega arith) }

pub overflow_mul-middle-2 : goal.overflow_mul-middle-2
overflow_mul-middle-2 c = record { fits = halves_fit _ _ (omega arith) (omega arith) }

pub overflow_mul-result : goal.overflow_mul-result
overflow_mul-result c = record { fits = halves_fit _ _ (omega arith) (omega arith) }

pub returns : goal.returns
returns c = low_product c.args.a c.args.b
