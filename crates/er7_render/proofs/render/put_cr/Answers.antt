use Rattle.std.proofs.Common.{arith}
use Rattle.er7_render.proofs.Laws.{ending_cr, ending_none, ending_length}
use Rattle.er7_render.proofs.render.put_cr.Goals as goal

pub byte_at-requires : goal.byte_at-requires
byte_at-requires c = omega (arith, ending_length c.if-wanted.true)

pub returns-then-wanted : goal.returns-then-wanted
returns-then-wanted c = ending_cr c.if-wanted.true c.byte_at.ensures

pub returns : goal.returns
returns c = ending_none c.if-wanted.false _ _ (omega arith)
