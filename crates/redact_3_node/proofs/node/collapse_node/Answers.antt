use Rattle.std.proofs.Common.{refl, ap}
use Rattle.std.proofs.lemmas.Result.{err_from_is_err_and}
use Rattle.er7_redact.specs.Policy.{as_rule}
use Rattle.redact_3_node.proofs.Collapses.{ready_node, ready_learnable, ready_learnt}
use Rattle.redact_3_node.proofs.NodeVisits.{node_full, node_done}
use Rattle.redact_5_act.specs.State.{after_step}
use Rattle.redact_3_node.proofs.node.collapse_node.Goals as goal

pub learn_all-requires : goal.learn_all-requires
learn_all-requires c = (ready_learnable (ready_node _ c.requires.4 c.node_end-end.ensures), c.requires.5.good)

pub null_node-requires : goal.null_node-requires
null_node-requires c = (c.requires.0, ready_learnt (ready_node _ c.requires.4 c.node_end-end.ensures) (c.learn_all.ensures _ c.requires.0 c.requires.5) (ap (after_step _) c.in_ok-learn_all.was), c.requires.6)

pub returns : goal.returns
unfolding as_rule
returns c = λ named. node_done _ _ _ _ named _ _ _ _ _ _ c.requires.4 c.requires.7 c.requires.2 _ refl c.requires.1 c.requires.3 (rw (c.reach_of.ensures c.args.text.now) at c.node_end-end.ensures) (c.learn_all.ensures _ c.requires.0 c.requires.5) (ap (after_step _) c.in_ok-learn_all.was) _ c.null_node.ensures

pub returns-in_err-learn_all : goal.returns-in_err-learn_all
unfolding as_rule
returns-in_err-learn_all c = λ named.
    let p = err_from_is_err_and c.from_residual.result c.from_residual.ensures.1 in
    rw (p.1, p.2) (node_full _ _ _ _ named _ _ _ _ _ _ c.requires.4 c.requires.7 c.requires.2 _ refl c.requires.1 c.requires.3 (rw (c.reach_of.ensures c.args.text.now) at c.node_end-end.ensures) (c.learn_all.ensures _ c.requires.0 c.requires.5) (ap (after_step _) c.in_err-learn_all.was))
