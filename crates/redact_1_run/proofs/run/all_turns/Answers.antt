use Rattle.std.proofs.Common.{ap}
use Rattle.std.proofs.lemmas.Result.{err_from_is_err_and}
use Rattle.redact_5_act.specs.State.{after_step}
use Rattle.redact_1_run.proofs.Course.{none_taken, rule_asks, rule_made, rule_refused, posture_asks, posture_made, posture_refused, sweep_asks, sweep_ends}
use Rattle.redact_1_run.proofs.run.all_turns.Goals as goal

pub loop-rule-init : goal.loop-rule-init
loop-rule-init c = none_taken _ _ _ _ _ _

pub next_turn-requires : goal.next_turn-requires
next_turn-requires c = rule_asks _ _ _ _ _ _ c.requires.1 c.requires.2 c.requires.0 c.loop-rule.invariant c.as_slice-rules.ensures.value c.loop-rule-test.true _ c.rule_turn-turn.ensures c.requires.3

pub returns-in_err-next_turn : goal.returns-in_err-next_turn
returns-in_err-next_turn c =
    let p = err_from_is_err_and c.from_residual.result c.from_residual.ensures.1 in
    rw (p.1, p.2) (rule_refused _ _ _ _ _ _ c.requires.1 c.requires.2 c.requires.0 c.loop-rule.invariant c.as_slice-rules.ensures.value c.loop-rule-test.true _ c.rule_turn-turn.ensures c.next_turn.ensures (ap (after_step _) c.in_err-next_turn.was))

pub loop-rule-preserved : goal.loop-rule-preserved
loop-rule-preserved c = rule_made _ _ _ _ _ _ c.requires.1 c.requires.2 c.requires.0 c.loop-rule.invariant c.as_slice-rules.ensures.value c.loop-rule-test.true _ c.rule_turn-turn.ensures c.next_turn.ensures (ap (after_step _) c.in_ok-next_turn.was)

pub next_turn-requires-2 : goal.next_turn-requires-2
next_turn-requires-2 c = posture_asks _ _ _ _ _ _ c.requires.1 c.requires.2 c.requires.0 c.loop-rule.invariant c.as_slice-rules.ensures.value c.loop-rule.auto.rule-index-end c.loop-rule-test.false c.posture_turn-judging.ensures c.requires.3

pub returns-in_err-next_turn-2 : goal.returns-in_err-next_turn-2
returns-in_err-next_turn-2 c =
    let p = err_from_is_err_and c.from_residual-in_err-next_turn-2.result c.from_residual-in_err-next_turn-2.ensures.1 in
    rw (p.1, p.2) (posture_refused _ _ _ _ _ _ c.requires.1 c.requires.2 c.requires.0 c.loop-rule.invariant c.as_slice-rules.ensures.value c.loop-rule.auto.rule-index-end c.loop-rule-test.false c.posture_turn-judging.ensures c.next_turn-2.ensures (ap (after_step _) c.in_err-next_turn-2.was))

pub next_turn-requires-3 : goal.next_turn-requires-3
next_turn-requires-3 c =
    let w = posture_made _ _ _ _ _ _ c.requires.1 c.requires.2 c.requires.0 c.loop-rule.invariant c.as_slice-rules.ensures.value c.loop-rule.auto.rule-index-end c.loop-rule-test.false c.posture_turn-judging.ensures c.next_turn-2.ensures (ap (after_step _) c.in_ok-next_turn-2.was) in
    sweep_asks _ _ _ _ _ _ c.requires.1 c.requires.2 c.requires.0 w c.sweep_turn-sweeping.ensures c.requires.3

pub returns : goal.returns
returns c =
    let w = posture_made _ _ _ _ _ _ c.requires.1 c.requires.2 c.requires.0 c.loop-rule.invariant c.as_slice-rules.ensures.value c.loop-rule.auto.rule-index-end c.loop-rule-test.false c.posture_turn-judging.ensures c.next_turn-2.ensures (ap (after_step _) c.in_ok-next_turn-2.was) in
    sweep_ends _ _ _ _ _ _ c.requires.1 c.requires.2 c.requires.0 w c.sweep_turn-sweeping.ensures _ c.next_turn-3.ensures
