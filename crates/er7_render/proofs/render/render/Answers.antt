use Rattle.std.proofs.Common.{arith}
use Rattle.er7_render.proofs.Laws.{joining_start, joining_more, in_tables, render_room, render_end}
use Rattle.er7_render.proofs.render.render.Goals as goal

pub loop-k-init : goal.loop-k-init
loop-k-init c = joining_start _ _ _ _ _ (omega arith) (omega arith)

pub print_segment-at-requires : goal.print_segment-at-requires
print_segment-at-requires c = (in_tables c.requires.segmented _ c.loop-k-test.true, render_room _ _ _ _ c.loop-k.invariant c.loop-k-test.true c.requires.out_in_bounds)

pub loop-k-preserved : goal.loop-k-preserved
loop-k-preserved c = joining_more c.loop-k.invariant c.loop-k-test.true c.print_segment-at.ensures

pub returns : goal.returns
returns c = render_end _ _ _ _ c.loop-k.invariant (omega arith)
