use Rattle.redact_2_turn.proofs.Aims.{enters_is}
use Rattle.redact_2_turn.proofs.turn.enters.Goals as goal

pub returns-in-Some : goal.returns-in-Some
returns-in-Some c = rw (c.in-Reached.is, c.in-Some.is) (enters_is _ _ _ c.index_fits.ensures)
