use Rattle.std.proofs.Common.{◌≡◌, max, rules}
use Rattle.er7_redact.specs.Policy.{as_rule}
use Rattle.policy_print.proofs.Parts.{width_start, width_more}
use Rattle.policy_print.proofs.display.width.Goals as goal

pub loop-rule-init : goal.loop-rule-init
loop-rule-init c = width_start _ _

pub loop-rule-preserved : goal.loop-rule-preserved
unfolding as_rule
loop-rule-preserved c =
    let e : c.max-w.result ≡ max c.loop-rule.w c.printed_len-len.result = search rules in
    rw e (width_more _ _ _ _ _ c.loop-rule.invariant c.loop-rule-test.true c.printed_len-len.ensures)
