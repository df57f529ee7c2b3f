use Rattle.redact_2_turn.proofs.Idle.{later_is, other_is}
use Rattle.redact_2_turn.proofs.turn.is_behind.Goals as goal

pub returns-then-field-leaf : goal.returns-then-field-leaf
returns-then-field-leaf c = later_is _ _ c.if-field-leaf.true

pub returns-else-field-leaf : goal.returns-else-field-leaf
returns-else-field-leaf c = other_is _ _ c.if-field-leaf.false
