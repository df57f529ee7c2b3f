use Rattle.er7_redact.proofs.Actions.{whole_found, whole_left, whole_none}
use Rattle.er7_redact.proofs.action.read_whole.Goals as goal

pub returns-in_err-n : goal.returns-in_err-n
returns-in_err-n c = rw c.from_residual.ensures (whole_none c.in_err-n.ensures)

pub returns-then-r-s : goal.returns-then-r-s
returns-then-r-s c = whole_left c.in_ok-n.ensures c.if-r-s.true

pub returns : goal.returns
returns c = whole_found c.in_ok-n.ensures c.if-r-s.false
