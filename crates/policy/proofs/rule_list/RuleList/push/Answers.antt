use Rattle.std.proofs.Common.{arith, length-set}
use Rattle.refusal.specs.Limits.{RULES_MAX}
use Rattle.policy.proofs.Rules.{free_behind}
use Rattle.policy.proofs.rule_list.RuleList.push.Goals as goal

pub invariant_of-self : goal.invariant_of-self
invariant_of-self c = (omega arith, rw length-set c.self.invariant.1, free_behind _ RULES_MAX _ _ _ _ (omega arith) c.self.invariant.2)
