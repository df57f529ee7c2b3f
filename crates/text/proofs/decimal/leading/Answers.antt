use Rattle.std.proofs.Common.{arith, sym, ◌∙◌, subst}
use Rattle.text.proofs.Decimals.{Reading, reading_start, reading_more, reading_over, reading_stop, reading_end, digit_yes, digit_no, digit_low}
use Rattle.text.proofs.decimal.leading.Goals as goal

pub loop-j-init : goal.loop-j-init
loop-j-init c = reading_start _

pub returns-then-not-is_in : goal.returns-then-not-is_in
returns-then-not-is_in c = reading_stop c.loop-j.invariant (omega arith) (digit_no _ c.is_in.ensures c.if-not-is_in.true)

pub overflow_sub-b : goal.overflow_sub-b
overflow_sub-b c = omega (arith, digit_low _ (digit_yes _ c.is_in.ensures c.if-not-is_in.false))

pub returns-in_err-checked_mul : goal.returns-in_err-checked_mul
returns-in_err-checked_mul c = c.from_residual.ensures ∙ sym (reading_over c.loop-j.invariant (omega arith) (digit_yes _ c.is_in.ensures c.if-not-is_in.false) (omega (arith, c.in_err-checked_mul.ensures)))

pub returns-in_err-n : goal.returns-in_err-n
returns-in_err-n c = c.from_residual-in_err-n.ensures ∙ sym (reading_over c.loop-j.invariant (omega arith) (digit_yes _ c.is_in.ensures c.if-not-is_in.false) (omega (arith, c.in_err-n.ensures, c.in_ok-checked_mul.ensures)))

pub loop-j-preserved : goal.loop-j-preserved
loop-j-preserved c = subst (Reading _ _) (omega (arith, c.in_ok-n.ensures, c.in_ok-checked_mul.ensures)) (reading_more c.loop-j.invariant (omega arith) (digit_yes _ c.is_in.ensures c.if-not-is_in.false) (omega (arith, c.in_ok-n.ensures, c.in_ok-checked_mul.ensures)))

pub returns : goal.returns
returns c = reading_end c.loop-j.invariant (omega arith)
