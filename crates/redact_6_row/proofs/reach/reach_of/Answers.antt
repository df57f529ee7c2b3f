use Rattle.redact_6_row.specs.Reach.{as_reach}
use mathlib.Core.Path.{◌∙◌}
use Rattle.redact_6_row.proofs.Reaches.{reach_node, reach_leaf}
use Rattle.redact_6_row.proofs.reach.reach_of.Goals as goal

pub returns-then-is_null_action-path : goal.returns-then-is_null_action-path
returns-then-is_null_action-path c = λ t. c.node_of.ensures t ∙ reach_node t c.args.rule (c.is_null_action.ensures t) c.if-is_null_action-path.true

pub returns : goal.returns
unfolding as_reach
returns c = λ t. reach_leaf t c.args.rule (c.is_null_action.ensures t) c.if-is_null_action-path.false
