-- What the tables print as. Assumes nothing: these are definitions.
use Rattle.std.specs.Prelude.{false, List}
use Rattle.text.specs.Text.{Text}
use Rattle.message_model.specs.Message.{print_segments}
use Rattle.er7_table.specs.declared.table.Leaf.{Leaf as HeldLeaf}
use Rattle.er7_table.specs.declared.table.Segment.{Segment as HeldSegment}
use Rattle.er7_table.specs.Table.{segments_from}
use Rattle.er7_message.specs.declared.message.Layout.{Layout}

-- the bytes of the message in the tables; which leaves are named does not matter
unfoldable pub rendered : Layout → List HeldSegment → List HeldLeaf → Text → Text
rendered c segs held store = print_segments c.separators c.last_cr (segments_from (λ i. false) segs held store 0 c.segments)
