use Rattle.std.proofs.Common.{arith, length-take, length-drop}
use Rattle.er7_render.proofs.Room.{same_part}
use Rattle.er7_render.proofs.store.compact_behind.Goals as goal

pub compact-requires : goal.compact-requires
compact-requires c = (c.requires.0, c.requires.1, simp (length-take, length-drop) (omega (arith, c.requires.2)))

pub returns : goal.returns
returns c = (c.compact.ensures, same_part _ _ c.compact.new.spare (omega arith) c.compact.auto.spare)
