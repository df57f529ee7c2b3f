use Rattle.std.proofs.Common.{arith, rules}
use Rattle.text.proofs.Decimals.{length_small, length_more, wrote_digit, wrote_digits}
use Rattle.text.proofs.decimal.+decimal_at.Goals as goal

pub bounds-buf-at : goal.bounds-buf-at
bounds-buf-at t c = omega (arith, length_small c.args.n (omega arith))

pub returns-then-n-lt10 : goal.returns-then-n-lt10
returns-then-n-lt10 t c = wrote_digit _ _ _ _ (omega arith) c.digit.ensures c.requires

pub decimal_at-k-requires : goal.decimal_at-k-requires
decimal_at-k-requires t c = (search rules, omega (arith, length_more c.args.n (omega arith)))

pub bounds-buf-k : goal.bounds-buf-k
bounds-buf-k t c = omega (arith, length_more c.args.n (omega arith), c.decimal_at-k.ensures.end, c.decimal_at-k.auto.buf)

pub returns : goal.returns
returns t c = wrote_digits _ _ _ _ (omega arith) c.digit-2.ensures c.requires c.decimal_at-k.ensures
