-- A message that was read into the tables prints as it came. Assumes nothing.
use Rattle.std.proofs.Common.{◌≡◌, sym, ap, ◌∙◌, false, List, ℕ, length, take, Ok}
use Rattle.std.proofs.Math.Option.{none}
use Rattle.text.specs.Text.{Text, Wrote}
use Rattle.message_model.specs.Message.{Message, message_fault, message_of, print_segments, print_message}
use Rattle.message_model.proofs.PrintBack.{message_prints}
use Rattle.er7_table.specs.declared.table.Leaf.{Leaf as HeldLeaf}
use Rattle.er7_table.specs.declared.table.Segment.{Segment as HeldSegment}
use Rattle.er7_table.proofs.Laws.{segments_in_store}
use Rattle.er7_message.specs.declared.message.Layout.{Layout}
use Rattle.er7_message.specs.Parsed.{fault_of, Standing, ParsedAs}
use Rattle.er7_render.specs.Rendered.{rendered}

-- tables that stand for a message print it
pub standing_prints : {t : Text} {m : Message} {segs : List HeldSegment} {held : List HeldLeaf} {c : Layout} → Standing t m segs held c → rendered c segs held t ≡ print_message m
unfolding rendered print_message
standing_prints w = rw (w.separators, w.last, w.segments)

module _ {t : Text} {segs : List HeldSegment} {held : List HeldLeaf} {c : Layout} (p : ParsedAs t (message_fault t) (message_of t) segs held (Ok c)) where
  no_fault : message_fault t ≡ none
  unfolding fault_of
  no_fault = sym p.is

  -- the tables print as the message came
  pub parsed_prints : rendered c segs held t ≡ t
  parsed_prints = standing_prints p.tables ∙ message_prints t no_fault

  -- so they do over a store that begins with the message
  pub parsed_prints_store : (store : Text) → take (length t) store ≡ t → rendered c segs held store ≡ t
  unfolding rendered
  parsed_prints_store store q =
      ap (print_segments c.separators c.last_cr) (segments_in_store (λ i. false) segs held t store c.segments c.leaves p.tables.good p.tables.segmented q)
      ∙ parsed_prints

  -- what `render` then writes is the message
  pub parsed_rendered : (store : Text) → take (length t) store ≡ t → {d d' : Text} {r : ℕ} → Wrote d 0 (rendered c segs held store) d' r → Wrote d 0 t d' r
  parsed_rendered store q w = rw (← parsed_prints_store store q) w
