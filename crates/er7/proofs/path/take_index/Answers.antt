use Rattle.er7.proofs.Paths.{index_found, index_zero, index_none}
use Rattle.er7.proofs.path.take_index.Goals as goal

pub returns-in_err-index : goal.returns-in_err-index
returns-in_err-index c = rw c.from_residual.ensures (index_none c.in_err-index.ensures)

pub returns-then-index-eq0 : goal.returns-then-index-eq0
returns-then-index-eq0 c = index_zero c.in_ok-index.ensures c.if-index-eq0.true

pub returns : goal.returns
returns c = index_found c.in_ok-index.ensures c.if-index-eq0.false
