use Rattle.redact_1_run.proofs.Course.{run_goes, run_stays}
use Rattle.redact_1_run.proofs.run.run_turns.Goals as goal

pub all_turns-made-requires : goal.all_turns-made-requires
all_turns-made-requires c = (c.requires.0, c.requires.1, c.requires.2, rw c.in-Ok.is at c.requires.3)

pub returns-in_default : goal.returns-in_default
returns-in_default c = run_stays _ _ _ _ _ c.in_default.not-Ok

pub returns : goal.returns
returns c = rw c.and-run.ensures (run_goes _ _ _ _ _ c.all_turns-made.result c.in-Ok.is c.all_turns-made.ensures)
