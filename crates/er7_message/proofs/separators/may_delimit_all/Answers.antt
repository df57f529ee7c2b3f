use Rattle.std.proofs.Common.{arith, sym, ◌∙◌}
use Rattle.std.proofs.lemmas.List.{take_rest}
use Rattle.er7_message.proofs.Headers.{delimits_not, delimits_more, delimits_end}
use Rattle.er7_message.proofs.separators.may_delimit_all.Goals as goal

pub returns-then-not-fine : goal.returns-then-not-fine
returns-then-not-fine c = sym (c.loop-i.invariant ∙ delimits_not c.args.bytes.now c.loop-i.i (omega arith) (rw (c.may_delimit.ensures, rw take_rest at c.contains.ensures.value)) c.if-not-fine.true)

pub loop-i-preserved : goal.loop-i-preserved
loop-i-preserved c = c.loop-i.invariant ∙ delimits_more c.args.bytes.now c.loop-i.i (omega arith) (rw (c.may_delimit.ensures, rw take_rest at c.contains.ensures.value)) c.if-not-fine.false

pub returns : goal.returns
returns c = sym (c.loop-i.invariant ∙ delimits_end c.args.bytes.now c.loop-i.i (omega arith))
