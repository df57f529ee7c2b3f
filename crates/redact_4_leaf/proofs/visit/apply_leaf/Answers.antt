use Rattle.std.proofs.Common.{sym, ap, ◌∙◌}
use Rattle.std.proofs.lemmas.Result.{err_from_is_err_and}
use Rattle.er7_redact.specs.Policy.{as_rule}
use Rattle.redact_5_act.specs.State.{after_step}
use Rattle.redact_4_leaf.proofs.Rules.{ready_readable, learnt_ready, learnt_going, rule_kept, rule_acted, rule_full}
use Rattle.redact_4_leaf.proofs.visit.apply_leaf.Goals as goal

pub returns-then-is_keep : goal.returns-then-is_keep
unfolding as_rule
returns-then-is_keep c = λ named named' mk. rule_kept _ _ _ _ named _ _ _ _ _ c.requires.3 c.requires.1 c.requires.2 c.requires.6 mk c.requires.4 (sym (c.is_keep.ensures _) ∙ c.if-is_keep.true)

pub learn_at-requires : goal.learn_at-requires
learn_at-requires c = ready_readable c.requires.3 c.requires.4.good

pub act_on-requires : goal.act_on-requires
unfolding as_rule
act_on-requires c = (c.requires.0, learnt_ready c.requires.3 (learnt_going (c.learn_at.ensures _ c.requires.0 c.requires.4) (ap (after_step _) c.in_ok-learn_at.was)), c.requires.5)

pub returns-in_err-learn_at : goal.returns-in_err-learn_at
unfolding as_rule
returns-in_err-learn_at c = λ named named' mk.
    let p = err_from_is_err_and c.from_residual.result c.from_residual.ensures.1 in
    rw (p.1, p.2) (rule_full _ _ _ _ named _ _ _ _ _ c.requires.3 c.requires.1 c.requires.2 (c.learn_at.ensures _ c.requires.0 c.requires.4) (ap (after_step _) c.in_err-learn_at.was))

pub returns : goal.returns
unfolding as_rule
returns c = λ named named' mk. rule_acted _ _ _ _ named _ _ _ _ _ c.requires.3 c.requires.1 c.requires.2 c.requires.6 mk (c.learn_at.ensures _ c.requires.0 c.requires.4) (ap (after_step _) c.in_ok-learn_at.was) _ c.act_on.ensures
