use Rattle.std.proofs.Common.{arith}
use Rattle.text.specs.Text.{bytes}
use Rattle.policy_print.proofs.Whole.{without_line_is, no_builtin, builtin_is}
use Rattle.policy_model.specs.Builtin.{builtin_text}
use Rattle.policy_print.proofs.builtin.builtin.Goals as goal

pub returns-in-0 : goal.returns-in-0
unfolding bytes builtin_text
returns-in-0 c = builtin_is _ 0 c.in-0.is (omega arith) c.print_text.ensures

pub returns-in-1 : goal.returns-in-1
unfolding bytes builtin_text
returns-in-1 c = builtin_is _ 1 (omega arith) (omega arith) c.print_text-in-1.ensures

pub returns-in-2 : goal.returns-in-2
unfolding bytes builtin_text
returns-in-2 c = builtin_is _ 2 (omega arith) (omega arith) c.print_text-in-2.ensures

pub returns-in-3 : goal.returns-in-3
unfolding bytes builtin_text
returns-in-3 c = builtin_is _ 3 (omega arith) (omega arith) c.print_text-in-3.ensures

pub returns-in_default : goal.returns-in_default
returns-in_default c = rw c.into.ensures (without_line_is _ _ (no_builtin _ (omega arith)))
