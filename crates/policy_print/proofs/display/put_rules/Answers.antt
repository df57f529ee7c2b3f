use Rattle.std.proofs.Common.{arith}
use Rattle.policy_print.proofs.Parts.{rules_start, rules_more}
use Rattle.policy_print.proofs.display.put_rules.Goals as goal

pub loop-rule-init : goal.loop-rule-init
loop-rule-init c = rules_start _ _ _ _ _ (omega arith)

pub loop-rule-preserved : goal.loop-rule-preserved
loop-rule-preserved c = rules_more _ _ _ _ _ c.loop-rule-test.true c.loop-rule.invariant c.put_rule-k.ensures
