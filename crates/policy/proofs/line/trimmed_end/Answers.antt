use Rattle.std.proofs.Common.{sym, ◌∙◌, arith}
use Rattle.text.specs.Text.{is_in}
use Rattle.policy.proofs.Lines.{trimming_more, trimming_stop, trimming_end}
use Rattle.policy.proofs.line.trimmed_end.Goals as goal

pub returns-then-not-is_in : goal.returns-then-not-is_in
unfolding is_in
returns-then-not-is_in c = trimming_stop (omega arith) c.loop-j.invariant (omega arith) (sym c.is_in.ensures ∙ c.if-not-is_in.true)

pub loop-j-preserved : goal.loop-j-preserved
unfolding is_in
loop-j-preserved c = trimming_more (omega arith) c.loop-j.invariant (omega arith) (sym c.is_in.ensures ∙ c.if-not-is_in.false)

pub returns : goal.returns
returns c = trimming_end (omega arith) c.loop-j.invariant (omega arith)
