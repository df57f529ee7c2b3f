use Rattle.er7.proofs.Paths.{path_nameless, path_bad, path_then}
use Rattle.er7.proofs.path.parse.Goals as goal

pub returns-then-n-eq0 : goal.returns-then-n-eq0
returns-then-n-eq0 c = path_nameless c.run_end-n.ensures _ c.if-n-eq0.true

pub returns-in_err-occurrence : goal.returns-in_err-occurrence
returns-in_err-occurrence c = rw c.from_residual.ensures (path_bad c.run_end-n.ensures _ c.if-n-eq0.false c.in_err-occurrence.ensures)

pub returns : goal.returns
returns c = path_then c.run_end-n.ensures c.if-n-eq0.false c.in_ok-occurrence.ensures c.read_segment.ensures
