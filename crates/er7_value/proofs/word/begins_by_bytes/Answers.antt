use Rattle.std.proofs.Common.{arith}
use Rattle.er7_value.proofs.Hits.{fits_more, fits_not, fits_all}
use Rattle.er7_value.proofs.word.begins_by_bytes.Goals as goal

pub returns-then-b-t : goal.returns-then-b-t
returns-then-b-t c = fits_not _ _ _ _ c.requires c.loop-j.invariant (omega arith) c.if-b-t.true

pub loop-j-preserved : goal.loop-j-preserved
loop-j-preserved c = fits_more _ _ _ _ c.requires c.loop-j.invariant (omega arith) c.if-b-t.false

pub returns : goal.returns
returns c = fits_all _ _ _ _ c.requires c.loop-j.invariant (omega arith)
