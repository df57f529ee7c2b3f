use Rattle.text.specs.Text.{is_in}
use Rattle.text.proofs.Runs.{run_found, run_whole}
use Rattle.text.proofs.bytes.run_end.Goals as goal

pub returns-in-Some : goal.returns-in-Some
returns-in-Some c = run_found (is_in c.args.class) c.requires c.in-Some.ensures

pub returns-in-None : goal.returns-in-None
returns-in-None c = run_whole (is_in c.args.class) c.requires c.in-None.ensures
