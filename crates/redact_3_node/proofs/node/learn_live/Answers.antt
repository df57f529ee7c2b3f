use Rattle.redact_3_node.proofs.Lessons.{one_gone, one_live, one_readable}
use Rattle.redact_3_node.proofs.node.learn_live.Goals as goal

pub returns-then-leaves-i : goal.returns-then-leaves-i
returns-then-leaves-i c = λ text q k. one_gone _ _ _ _ _ _ c.if-leaves-i.true k

pub learn_at-requires : goal.learn_at-requires
learn_at-requires c = one_readable c.requires c.if-leaves-i.false

pub returns : goal.returns
returns c = λ text q k. rw (← one_live c.args.leaves.now c.args.store.now c.args.i c.if-leaves-i.false) (c.learn_at.ensures text q k)
