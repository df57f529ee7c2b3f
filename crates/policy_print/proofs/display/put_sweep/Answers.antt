use Rattle.text.specs.Text.{bytes}
use Rattle.policy_print.proofs.Parts.{on_line, off_line}
use Rattle.policy_print.proofs.display.put_sweep.Goals as goal

pub returns-then-sweep : goal.returns-then-sweep
unfolding bytes
returns-then-sweep c = rw (c.if-sweep.true, on_line) c.copy_at.ensures

pub returns : goal.returns
unfolding bytes
returns c = rw (c.if-sweep.false, off_line) c.copy_at-2.ensures
