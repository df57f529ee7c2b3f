use Rattle.redact_2_turn.proofs.Visiting.{apply_asks, collapse_asks, reject_asks, sweep_asks, sweep_unnamed, rejected, never_idle, applied, collapsed, swept}
use Rattle.redact_2_turn.proofs.turn.visit.Goals as goal

pub apply_leaf-requires : goal.apply_leaf-requires
apply_leaf-requires c = apply_asks c.requires.0 c.requires.1 c.in-Apply.is

pub collapse_leaf-requires : goal.collapse_leaf-requires
collapse_leaf-requires c = collapse_asks c.requires.0 c.requires.1 c.in-Collapse.is

pub act_on-requires : goal.act_on-requires
act_on-requires c = reject_asks c.requires.0 c.requires.1 c.in-Reject.is

pub sweep_leaf-requires : goal.sweep_leaf-requires
sweep_leaf-requires c = sweep_asks c.requires.0 c.requires.1 c.in-Sweep.is

pub returns-in-Apply : goal.returns-in-Apply
returns-in-Apply c = applied _ c.in-Apply.is (c.apply_leaf.ensures _ _ c.mark.ensures)

pub returns-in-Collapse : goal.returns-in-Collapse
returns-in-Collapse c = collapsed _ c.in-Collapse.is (c.collapse_leaf.ensures _)

pub returns-in-Reject : goal.returns-in-Reject
returns-in-Reject c = rejected c.requires.0 c.requires.1 c.in-Reject.is _ c.act_on.ensures

pub returns-in-Sweep : goal.returns-in-Sweep
returns-in-Sweep c = swept _ c.in-Sweep.is (c.sweep_leaf.ensures _ (sweep_unnamed c.requires.0 c.requires.1 c.in-Sweep.is))

pub returns-in-Idle : goal.returns-in-Idle
returns-in-Idle c = never_idle c.requires.0 c.requires.1 c.in-Idle.is
