use Rattle.std.proofs.Common.{arith, ap}
use Rattle.std.proofs.lemmas.Result.{err_from_is_err_and}
use Rattle.redact_3_node.proofs.Lessons.{before_start, before_good, before_more, before_stop, before_end, all_learnable}
use Rattle.redact_5_act.specs.State.{after_step}
use Rattle.redact_3_node.proofs.node.learn_all.Goals as goal

pub loop-i-init : goal.loop-i-init
loop-i-init c = before_start c.requires.0.order

pub learn_live-requires : goal.learn_live-requires
learn_live-requires c = all_learnable c.requires.0 (omega (arith, c.loop-i.invariant.low)) (omega (arith, c.loop-i.invariant.low)) (before_good c.loop-i.invariant c.requires.1)

pub returns-in_err-learn_live : goal.returns-in_err-learn_live
returns-in_err-learn_live c =
    let p = err_from_is_err_and c.from_residual.result c.from_residual.ensures.1 in
    rw (p.1, p.2) (before_stop c.loop-i.invariant (omega arith) c.learn_live.ensures (ap (after_step _) c.in_err-learn_live.was))

pub loop-i-preserved : goal.loop-i-preserved
loop-i-preserved c = before_more c.loop-i.invariant (omega arith) c.learn_live.ensures (ap (after_step _) c.in_ok-learn_live.was)

pub returns : goal.returns
returns c = before_end c.loop-i.invariant (omega arith)
