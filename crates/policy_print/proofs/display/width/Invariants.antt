use Rattle.policy_print.proofs.Parts.{WidthTo}
use Rattle.policy_print.proofs.display.width.Given as goal

abbrev pub invariant-loop-rule : goal.invariant-loop-rule
invariant-loop-rule l = WidthTo l.text l.rule-items l.rule-index l.w
