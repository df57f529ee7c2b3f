use Rattle.policy_print.proofs.Parts.{RulesTo}
use Rattle.policy_print.proofs.display.put_rules.Given as goal

abbrev pub invariant-loop-rule : goal.invariant-loop-rule
invariant-loop-rule l = RulesTo l.text l.rule-items l.n l.at l.rule-index l.initial.out l.out l.k
