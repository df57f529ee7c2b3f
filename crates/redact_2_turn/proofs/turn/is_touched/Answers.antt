use Rattle.redact_2_turn.specs.Turn.{is_touched}
use Rattle.redact_2_turn.proofs.turn.is_touched.Goals as goal

pub returns : goal.returns
unfolding is_touched
returns c = rw c.touchable.ensures
