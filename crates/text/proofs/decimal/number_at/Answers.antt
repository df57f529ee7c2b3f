use Rattle.std.proofs.Common.{arith}
use Rattle.text.proofs.Decimals.{number_large, number_high, no_digits, number_found}
use Rattle.text.proofs.decimal.number_at.Goals as goal

pub returns-in_err-n : goal.returns-in_err-n
returns-in_err-n c = rw c.from_residual.ensures (number_large _ _ c.in_err-n.ensures)

pub returns-then-len-eq0 : goal.returns-then-len-eq0
returns-then-len-eq0 c = no_digits _ _ c.in_ok-n.ensures c.if-len-eq0.true

pub overflow_add-result : goal.overflow_add-result
overflow_add-result c = omega (arith, number_high _ _ c.in_ok-n.ensures c.requires)

pub returns : goal.returns
returns c = number_found _ _ c.in_ok-n.ensures c.requires c.if-len-eq0.false
