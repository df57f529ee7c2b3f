use Rattle.std.proofs.Common.{arith, length, ◌-◌, ◌≡◌}
use Rattle.er7_render.specs.Inner.{leaves_text}
use Rattle.er7_render.proofs.Laws.{joining_start, joining_room, joining_more, joining_whole, leaf_in_store}
use Rattle.er7_render.proofs.render.put_leaves.Goals as goal

pub loop-leaf-init : goal.loop-leaf-init
loop-leaf-init c = joining_start _ _ _ _ _ (omega arith) (omega arith)

pub print_leaf-k-requires : goal.print_leaf-k-requires
unfolding leaves_text
print_leaf-k-requires c =
    let z : length c.args.leaves.now - 0 ≡ length c.args.leaves.now = omega arith in
    (leaf_in_store c.requires.0 c.loop-leaf.leaf-index (omega arith), joining_room c.loop-leaf.invariant (omega arith) (rw z c.requires.1))

pub loop-leaf-preserved : goal.loop-leaf-preserved
loop-leaf-preserved c = joining_more c.loop-leaf.invariant (omega arith) c.print_leaf-k.ensures

pub returns : goal.returns
unfolding leaves_text
returns c = joining_whole c.loop-leaf.invariant (omega arith)
