-- What the answer of `parse` says. Assumes nothing: these are definitions.
use Rattle.std.specs.Prelude.{◌≡◌, false, List, ◌≤◌, length, Ok, Err}
use Rattle.std.specs.declared.result.Result.{Result}
use Rattle.std.proofs.Math.Option.{Option, none, some}
use Rattle.text.specs.Text.{Text}
use Rattle.refusal.specs.declared.Refusal.{Refusal}
use Rattle.refusal.specs.Limits.{LEAVES_MAX, SEGMENTS_MAX}
use Rattle.message_model.specs.Message.{Message}
use Rattle.er7_table.specs.declared.table.Leaf.{Leaf as HeldLeaf}
use Rattle.er7_table.specs.declared.table.Segment.{Segment as HeldSegment}
use Rattle.er7_table.specs.Table.{Good, Placed, Segmented, segments_from}
use Rattle.er7_message.specs.declared.message.Layout.{Layout}

unfoldable pub fault_of : Result Layout Refusal → Option Refusal
fault_of (Ok c) = none
fault_of (Err e) = some e

-- the tables stand for the message m over the store t; no leaf is named
pub record Standing (t : Text) (m : Message) (segs : List HeldSegment) (held : List HeldLeaf) (c : Layout) : Type 0 where
  pub separators : c.separators ≡ m.separators
  pub last : c.last_cr ≡ m.last_cr
  pub segments : segments_from (λ i. false) segs held t 0 c.segments ≡ m.segments
  pub good : Good held t c.leaves (length t)
  pub placed : Placed held c.leaves (length t)
  pub segmented : Segmented segs c.segments c.leaves
  pub segments_most : c.segments ≤ SEGMENTS_MAX
  pub leaves_most : c.leaves ≤ LEAVES_MAX

abbrev pub StandingOr : Text → Message → List HeldSegment → List HeldLeaf → Result Layout Refusal → Type 0
StandingOr t m segs held (Ok c) = Standing t m segs held c
StandingOr t m segs held (Err e) = Unit {0}

-- the answer a names the fault f; where there is none the tables stand for the message m
pub record ParsedAs (t : Text) (f : Option Refusal) (m : Message) (segs : List HeldSegment) (held : List HeldLeaf) (a : Result Layout Refusal) : Type 0 where
  pub is : fault_of a ≡ f
  pub tables : StandingOr t m segs held a
