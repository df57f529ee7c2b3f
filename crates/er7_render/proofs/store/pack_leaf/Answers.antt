use Rattle.er7_render.specs.Stored.{live_len}
use Rattle.er7_render.proofs.Packing.{copy_room, leaf_packed}
use Rattle.er7_render.proofs.store.pack_leaf.Goals as goal

pub copy_at-r-requires : goal.copy_at-r-requires
unfolding live_len
copy_at-r-requires c = copy_room c.args.leaves.now c.args.store.now c.args.i c.requires.1 _ c.live_len-n.ensures c.text.ensures _ c.requires.2

pub returns : goal.returns
unfolding live_len
returns c = leaf_packed c.args.leaves.now c.args.store.now c.args.i c.requires.1 _ c.live_len-n.ensures c.text.ensures c.copy_at-r.ensures c.set_text.ensures
