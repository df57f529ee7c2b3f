use Rattle.std.proofs.Common.{arith, rules}
use Rattle.er7_render.proofs.Room.{room_there, room_packed}
use Rattle.er7_render.proofs.store.make_room.Goals as goal

pub returns-then-used-le-TEXT_MAX : goal.returns-then-used-le-TEXT_MAX
returns-then-used-le-TEXT_MAX c = room_there c.requires.0 (omega arith) _ _

pub compact_behind-requires : goal.compact_behind-requires
compact_behind-requires c = (c.requires.0, search rules, search rules)

pub returns : goal.returns
returns c = room_packed c.requires.0 c.requires.1 c.compact_behind.ensures
