use Rattle.std.proofs.Common.{sym, ◌∙◌}
use Rattle.policy.proofs.Lines.{hands_on, rule_right, rule_no_action, rule_no_path}
use Rattle.policy.proofs.line.read_rule.Goals as goal

pub returns-in_err-action : goal.returns-in_err-action
returns-in_err-action c = hands_on _ c.from_residual.ensures.1 (rule_no_action _ _ _ c.in_err-action.ensures)

pub returns-in_err-path : goal.returns-in_err-path
returns-in_err-path c = hands_on _ c.from_residual-in_err-path.ensures.1 (rule_no_path _ _ _ c.in_ok-action.ensures _ c.path_at.ensures (sym c.ok_or.ensures.value ∙ c.in_err-path.was))

pub returns : goal.returns
returns c = rule_right _ _ _ c.in_ok-action.ensures _ c.path_at.ensures (sym c.ok_or.ensures.value ∙ c.in_ok-path.was)
