use Rattle.std.proofs.Common.{arith}
use Rattle.er7_render.proofs.Slots.{good_more}
use Rattle.er7_render.proofs.Packing.{pack_back}
use Rattle.er7_render.proofs.store.compact.Goals as goal

pub pack-r-requires : goal.pack-r-requires
pack-r-requires c = (good_more c.requires.0 c.requires.0.room (omega arith), c.requires.2)

pub returns : goal.returns
returns c = pack_back c.pack-r.ensures c.copy_at.ensures
