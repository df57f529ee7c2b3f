use Rattle.std.proofs.Common.{rules}
use Rattle.er7_table.specs.Table.{first_leaf, name_at}
use Rattle.er7_render.proofs.Laws.{name_room, inside_good, inside_room, ending_room, segment_wrote}
use Rattle.er7_render.proofs.render.print_segment.Goals as goal

pub offset_bounds-leaves-segment : goal.offset_bounds-leaves-segment
unfolding first_leaf
offset_bounds-leaves-segment c = search (rules, c.requires.0.order, c.requires.0.leaves.rows)

pub slice_bounds-own-count : goal.slice_bounds-own-count
unfolding first_leaf
slice_bounds-own-count c = c.requires.0.order

pub slice_bounds-own-start : goal.slice_bounds-own-start
unfolding first_leaf
slice_bounds-own-start c = search (rules, c.requires.0.order)

pub slice_bounds-own-end : goal.slice_bounds-own-end
unfolding first_leaf
slice_bounds-own-end c = search (rules, c.requires.0.leaves.rows)

pub put_name-named-requires : goal.put_name-named-requires
put_name-named-requires c = name_room _ _ _ _ _ _ _ _ c.requires.1

pub put_leaves-printed-requires : goal.put_leaves-printed-requires
unfolding first_leaf name_at
put_leaves-printed-requires c = (inside_good c.args.layout.separators c.args.layout.last_cr _ _ _ c.args.layout.segments _ c.requires.0, inside_room _ _ _ _ _ _ _ c.requires.0 c.is_header_name-header.ensures c.put_name-named.ensures c.requires.1)

pub put_cr-requires : goal.put_cr-requires
unfolding first_leaf name_at
put_cr-requires c = ending_room _ _ _ _ _ _ _ c.requires.0 c.is_header_name-header.ensures c.put_name-named.ensures c.put_leaves-printed.ensures c.requires.1

pub returns : goal.returns
unfolding first_leaf name_at
returns c = segment_wrote _ _ _ _ _ _ _ c.requires.0 c.is_header_name-header.ensures c.put_name-named.ensures c.put_leaves-printed.ensures c.put_cr.ensures
