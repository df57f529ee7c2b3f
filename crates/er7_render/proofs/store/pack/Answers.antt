use Rattle.std.proofs.Common.{arith, rules, refl}
use Rattle.er7_render.proofs.Packing.{pack_start, pack_row, pack_in_store, pack_room, pack_next, pack_all}
use Rattle.er7_render.proofs.store.pack.Goals as goal

pub loop-i-init : goal.loop-i-init
loop-i-init c = (pack_start _ _ _ _ c.requires.1, refl)

pub pack_leaf-at-requires : goal.pack_leaf-at-requires
pack_leaf-at-requires c = (pack_row c.requires.0 c.loop-i.invariant.0 (omega arith), pack_in_store c.requires.0 c.loop-i.invariant.0 (omega arith), pack_room c.requires.0 c.loop-i.invariant.0 (omega arith))

pub loop-i-preserved : goal.loop-i-preserved
loop-i-preserved c = (pack_next c.requires.0 c.loop-i.invariant.0 (omega arith) c.pack_leaf-at.ensures, search rules)

pub returns : goal.returns
returns c = pack_all c.requires.0 c.loop-i.invariant.0 (omega arith)
