use Rattle.std.proofs.Common.{arith}
use Rattle.er7_render.proofs.Laws.{leaf_gone, lead_room, text_room, leaf_wrote}
use Rattle.er7_render.proofs.render.print_leaf.Goals as goal

pub returns-then-leaf : goal.returns-then-leaf
returns-then-leaf c = leaf_gone _ _ _ _ c.if-leaf.true _ _ (omega arith)

pub put_lead-k-requires : goal.put_lead-k-requires
put_lead-k-requires c = lead_room _ _ _ _ c.if-leaf.false c.requires.0 _ c.requires.1

pub copy_at-requires : goal.copy_at-requires
copy_at-requires c = text_room _ _ _ _ c.if-leaf.false c.put_lead-k.ensures c.text.ensures c.requires.0 c.requires.1

pub returns : goal.returns
returns c = leaf_wrote _ _ _ _ c.if-leaf.false c.put_lead-k.ensures c.text.ensures c.copy_at.ensures
