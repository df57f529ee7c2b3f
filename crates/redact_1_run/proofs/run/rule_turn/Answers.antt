use mathlib.Core.Path.{refl}
use Rattle.redact_6_row.specs.Reach.{as_reach}
use Rattle.run_model.specs.Redact.{is_node}
use Rattle.redact_1_run.proofs.Steps.{leaf_turn, node_turn}
use Rattle.redact_1_run.proofs.run.rule_turn.Goals as goal

pub returns-in-EachLeaf : goal.returns-in-EachLeaf
returns-in-EachLeaf c = leaf_turn _ c.reach_of.ensures c.in-EachLeaf.is

pub returns-in-EachField : goal.returns-in-EachField
unfolding as_reach is_node
returns-in-EachField c = node_turn _ c.reach_of.ensures c.in-EachField.is refl

pub returns-in-EachRepetition : goal.returns-in-EachRepetition
unfolding as_reach is_node
returns-in-EachRepetition c = node_turn _ c.reach_of.ensures c.in-EachRepetition.is refl

pub returns-in-EachComponent : goal.returns-in-EachComponent
unfolding as_reach is_node
returns-in-EachComponent c = node_turn _ c.reach_of.ensures c.in-EachComponent.is refl
