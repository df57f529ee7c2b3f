use Rattle.std.proofs.Common.{arith}
use Rattle.policy.proofs.Lines.{judged_long, judged_short}
use Rattle.text.specs.Text.{between}
use Rattle.policy.proofs.line.judged.Goals as goal

pub returns-then-m-i : goal.returns-then-m-i
returns-then-m-i c = judged_long _ _ _ _ _ (omega arith) (omega arith) c.if-m-i.true

pub returns : goal.returns
unfolding between
returns c = judged_short c.args.text.now c.args.i c.args.m c.args.k c.args.e (omega arith) (omega arith) _ c.if-m-i.false c.line_kind.ensures c.read_directive.ensures
