-- What redacting one message leaves. Assumes nothing: these are definitions.
use Rattle.std.specs.Prelude.{◌≡◌, List, ℕ, ◌≤◌, ◌<◌, length, Result, Ok, Err}
use Rattle.text.specs.Text.{Text, Wrote}
use Rattle.message_model.specs.Message.{Message, print_message}
use Rattle.message_model.specs.Chain.{Chained}
use Rattle.run_model.specs.Order.{FieldsFirst}
use Rattle.run_model.specs.Redact as R
use Rattle.run_model.specs.Redact.{Row}
use Rattle.er7_table.specs.declared.table.Leaf.{Leaf as HeldLeaf}
use Rattle.er7_table.specs.declared.table.Segment.{Segment as HeldSegment}
use Rattle.er7_table.specs.Table.{Good, Segmented}
use Rattle.er7_message.specs.Parsed.{Standing}
use Rattle.er7_message.specs.declared.message.Layout.{Layout}
use Rattle.er7_render.specs.Rendered.{rendered}
use Rattle.redact_6_row.specs.Report.{Reported}
use Rattle.redact_5_act.specs.declared.state.Counters.{Counters}
use Rattle.redact_1_run.specs.declared.from_tables.Redacted.{Redacted}
use Rattle.refusal.specs.declared.Refusal.{Refusal}
use Rattle.refusal.specs.Limits.{INPUT_MAX, TEXT_MAX}

-- a message that was read stands in the tables, over its bytes t; `size` bytes are there when its turn begins: its own, and those beside it
-- in its file
pub record Loaded (t : Text) (m : Message) (policy : Text) (size : ℕ) (layout : Layout) (segs : List HeldSegment) (held : List HeldLeaf) : Type 0 where
  pub standing : Standing t m segs held layout
  pub prints : print_message m ≡ t
  pub chained : Chained m.segments
  pub first : FieldsFirst m.segments
  pub policy_short : length policy ≤ INPUT_MAX
  pub within : length t ≤ size
  pub most : size ≤ TEXT_MAX

-- some message was read
pub record AnyLoaded (t policy : Text) (size : ℕ) (layout : Layout) (segs : List HeldSegment) (held : List HeldLeaf) : Type 0 where
  pub message : Message
  pub loaded : Loaded t message policy size layout segs held

-- the tables print as a text of len bytes
pub record Printable (layout : Layout) (segs : List HeldSegment) (held : List HeldLeaf) (store : Text) (len : ℕ) : Type 0 where
  pub segmented : Segmented segs layout.segments layout.leaves
  pub good : Good held store layout.leaves (length store)
  pub long : len ≡ length (rendered layout segs held store)

-- the run is over: the tables print as the text, and the report holds the rows
pub record Ran (d : R.Redacted) (layout : Layout) (segs : List HeldSegment) (held : List HeldLeaf) (store report : Text) (c : Counters) : Type 0 where
  pub rows : List Row
  pub is : d ≡ R.done (rendered layout segs held store) rows
  pub count : c.rows ≡ length rows
  pub reported : Reported report c.report_len rows

-- the text stands at the front of the output, if there is room for it, and the rows at that of the report; after a refusal the output is as it was
pub record Left (d : R.Redacted) (n k m : ℕ) (output output' report' : Text) : Type 0 where
  pub text : Text
  pub rows : List Row
  pub is : d ≡ R.done text rows
  pub long : n ≡ length text
  pub count : m ≡ length rows
  pub reported : Reported report' k rows
  pub fits : length text ≤ length output → Wrote output 0 text output' n
  pub full : length output < length text → output' ≡ output

abbrev pub LeftOr : R.Redacted → Text → Text → Text → Result Redacted Refusal → Type 0
LeftOr d output output' report' (Ok r) = Left d r.text_len r.report_len r.rows output output' report'
LeftOr d output output' report' (Err e) = (d ≡ R.refused e) × (output' ≡ output)

pub record RedactedIs (d : R.Redacted) (output output' report' : Text) (r : Result Redacted Refusal) : Type 0 where
  pub out : LeftOr d output output' report' r
