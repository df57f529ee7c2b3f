-- A run from a message's tables to its redacted text. Assumes nothing.
use Rattle.std.proofs.Common.{Result, Ok, Err}
use mathlib.Core.Path.{◌≡◌, refl, sym, ap, ◌∙◌}
use mathlib.Core.Bool.{Bool, false}
use mathlib.Core.List.{List, []}
use Prim.Native.Nat.{ℕ, zero, suc, ◌+◌, ◌-◌, ◌≤◌}
use native.Mathlib.Numerals.{add-one}
use native.Mathlib.Omega.{arith}
use lib.ListN.{length, replicate, get_or, take}
use Rattle.text.specs.Text.{Text, part, Wrote}
use Rattle.text.proofs.Writes.{wrote_length}
use Rattle.refusal.specs.declared.Refusal.{Refusal}
use Rattle.refusal.specs.Limits.{LEAVES_MAX, TEXT_MAX}
use Rattle.message_model.specs.Message.{Segment, Message, print_segments, print_message}
use Rattle.policy_model.specs.Policy.{Policy}
use Rattle.run_model.specs.Redact as R
use Rattle.run_model.specs.Redact.{Progress, running, redacted_as, redact_from}
use Rattle.er7_table.specs.declared.table.Leaf.{Leaf as HeldLeaf}
use Rattle.er7_table.specs.declared.table.Segment.{Segment as HeldSegment}
use Rattle.er7_table.specs.Table.{first_leaf, label_at, segment_at, segments_from, leaves_from, Good}
use Rattle.er7_table.proofs.Laws.{list_ext, segments_named}
use Rattle.er7_message.specs.Parsed.{Standing}
use Rattle.er7_message.specs.declared.message.Layout.{Layout}
use Rattle.er7_message.proofs.Parsing.{standing_over}
use Rattle.er7_render.specs.Rendered.{rendered}
use Rattle.er7_render.proofs.Laws.{rendered_named}
use Rattle.text.proofs.Kept.{wrote_part}
use Rattle.redact_6_row.proofs.Rows.{reported_none}
use Rattle.redact_5_act.specs.Known.{known_from, GoodKnown}
use Rattle.redact_5_act.specs.declared.state.Setting.{Setting}
use Rattle.redact_5_act.specs.declared.state.Counters.{Counters}
use Rattle.refusal.specs.declared.Refusal.{Refusal}
use Rattle.redact_4_leaf.specs.Walk.{segment_of}
use Rattle.redact_4_leaf.specs.State.{Buffers, buffers, leaves, marked, known_now}
use Rattle.redact_1_run.specs.Turns.{tasks_of, after_tasks, progress_tasks}
use Rattle.redact_1_run.specs.Stage.{segments_of, Stage, Stands, Begun, Inputs}
use Rattle.redact_1_run.specs.Ran.{Loaded, AnyLoaded, Printable, Ran, RedactedIs}
use Rattle.redact_1_run.proofs.Tasks.{tasks_redact}
use Rattle.redact_5_act.specs.declared.known.Known.{Known as HeldKnown}

-- ---- the segments that the buffers hold, as the tables' definitions have them

segment_as : (named : List Bool) (segs : List HeldSegment) (held : List HeldLeaf) (store report bytes : Text) (known : List HeldKnown) (k : ℕ)
    → segment_of (label_at segs) (first_leaf segs) (leaves (buffers named held store report bytes known)) k ≡ segment_at (marked named) segs held store k
unfolding segment_of segment_at leaves_from
segment_as named segs held store report bytes known k = rw add-one

segments_as : (named : List Bool) (segs : List HeldSegment) (held : List HeldLeaf) (store report bytes : Text) (known : List HeldKnown) (on : Setting)
    → segments_of segs on (buffers named held store report bytes known) ≡ segments_from (marked named) segs held store 0 on.segments
unfolding segments_of segments_from
segments_as named segs held store report bytes known on = list_ext _ _ 0 on.segments (λ k a b. segment_as named segs held store report bytes known k)

clear : (n i : ℕ) → get_or (replicate n false) i false ≡ false
clear zero i = refl
clear (suc n) zero = refl
clear (suc n) (suc i) = clear n i

marks_clear : (i : ℕ) → marked (replicate LEAVES_MAX false) i ≡ false
unfolding marked
marks_clear i = clear LEAVES_MAX i

-- ---- the start

-- the setting of a run, and its first counters, where `used` bytes of the store are the message
abbrev pub setting_of : ℕ → Bool → Layout → Setting
setting_of key sweep layout = record { key = key; separators = layout.separators; sweep = sweep; segments = layout.segments; leaves = layout.leaves }

abbrev pub started : ℕ → ℕ → Counters
started size used = record { rows = 0; report_len = 0; size = size; used = used; known = 0; known_used = 0 }

module _ (key : ℕ) (sweep : Bool) {message : Text} {m : Message} {policy : Text} {size : ℕ} {layout : Layout} {segs : List HeldSegment} {held : List HeldLeaf} (w : Loaded message m policy size layout segs held)
    {store store' : Text} {used : ℕ} (p : Wrote store 0 message store' used) (report bytes : Text) (known : List HeldKnown) where
  front : take (length message) store' ≡ message
  unfolding part
  front = wrote_part p

  over : Standing store' m segs held layout
  over = standing_over message store' m segs held (Ok layout) front (omega (arith, wrote_length p, p.high, p.end)) w.standing

  abbrev first_buffers : Buffers
  first_buffers = buffers (replicate LEAVES_MAX false) held store' report bytes known

  first_segments : segments_of segs (setting_of key sweep layout) first_buffers ≡ m.segments
  first_segments =
      segments_as (replicate LEAVES_MAX false) segs held store' report bytes known (setting_of key sweep layout)
      ∙ segments_named (λ i. false) (marked (replicate LEAVES_MAX false)) segs held store' layout.segments layout.leaves w.standing.segmented (λ k h. marks_clear k)
      ∙ over.segments

  first_print : length message ≡ length (print_segments layout.separators m.last_cr m.segments)
  unfolding print_message
  first_print = rw w.standing.separators (ap length (sym w.prints))

  first_known : GoodKnown bytes known 0 0
  unfolding known_from R.known_bytes
  first_known = record {
    few = omega arith;
    within = omega arith;
    slots = λ i h. absurd (omega arith);
    hashes = λ i h. absurd (omega arith);
    sum = refl;
  }

  pub first_stage : Stage (size - length message) m.last_cr policy segs (setting_of key sweep layout) 0 m.segments (running [] [] size) first_buffers (started size used)
  unfolding known_now known_from
  first_stage = record {
    segments = first_segments;
    recorded = record { rows = []; is = refl; count = refl; reported = reported_none report };
    size = omega (arith, first_print, w.within);
    most = w.most;
    chained = w.chained;
    first = w.first;
    held = record {
      good = record { rows = w.standing.good.rows; room = omega (arith, wrote_length p, p.high); ends = λ i h. omega (arith, w.standing.good.ends i h, p.end) };
      known = record { good = first_known; held = record { held = λ i h. absurd (omega arith) } };
      marks = w.standing.leaves_most;
    };
    rows = omega arith;
    report = omega arith;
  }

module _ {message policy : Text} {size : ℕ} {layout : Layout} {segs : List HeldSegment} {held : List HeldLeaf} (w : AnyLoaded message policy size layout segs held) where
  pub run_begun : (key : ℕ) (sweep : Bool) {store store' : Text} {used : ℕ} → Wrote store 0 message store' used → (report bytes : Text) (known : List HeldKnown)
      → Begun policy segs (setting_of key sweep layout) (buffers (replicate LEAVES_MAX false) held store' report bytes known) (Ok (started size used))
  run_begun key sweep p report bytes known = record {
    x = size - length message;
    cr = w.message.last_cr;
    ss = w.message.segments;
    progress = running [] [] size;
    stands = record { out = first_stage key sweep w.loaded p report bytes known };
  }

  pub run_lent : (key : ℕ) (sweep : Bool) → Inputs policy segs (setting_of key sweep layout)
  run_lent key sweep = record {
    policy = w.loaded.policy_short;
    segmented = w.loaded.standing.segmented;
    leaves = w.loaded.standing.leaves_most;
  }

  pub message_room : length message ≤ TEXT_MAX
  message_room = omega (arith, w.loaded.within, w.loaded.most)

-- ---- the end

module _ (key : ℕ) (sweep : Bool) {x : ℕ} {cr : Bool} {text : Text} {layout : Layout} {segs : List HeldSegment} {turns : ℕ} {ss : List Segment} {b : Progress} (named : List Bool) (held : List HeldLeaf) (store report bytes : Text) (known : List HeldKnown) {c : Counters}
    (g : Stage x cr text segs (setting_of key sweep layout) turns ss b (buffers named held store report bytes known) c) (e : layout.last_cr ≡ cr) where
  prints_as : print_segments layout.separators cr ss ≡ rendered layout segs held store
  prints_as =
      rw (← e) (ap (print_segments layout.separators layout.last_cr) (sym g.segments ∙ segments_as named segs held store report bytes known (setting_of key sweep layout))
      ∙ sym (rendered_named layout (marked named) segs held store))

  end_good : Good held store layout.leaves (length store)
  end_good = record { rows = g.held.good.rows; room = omega arith; ends = λ i h. omega (arith, g.held.good.ends i h, g.held.good.room) }

  end_long : c.size ≡ x + length (rendered layout segs held store)
  end_long = g.size ∙ ap (λ t. x + length t) prints_as

-- what is left by all turns, f, from the first buffers
module _ (key : ℕ) (sweep : Bool) (P : Policy) {message : Text} {m : Message} {policy : Text} {size : ℕ} {layout : Layout} {segs : List HeldSegment} {held₀ : List HeldLeaf} (w : Loaded message m policy size layout segs held₀)
    {store₀ store₁ : Text} {used : ℕ} (p : Wrote store₀ 0 message store₁ used) (report₁ bytes₁ : Text) (known₁ : List HeldKnown) (named : List Bool) (held : List HeldLeaf) (store report bytes : Text) (known : List HeldKnown) (r : Result Counters Refusal)
    (f : (x : ℕ) (cr : Bool) (ss : List Segment) (b : Progress) → Stands x cr policy segs (setting_of key sweep layout) 0 ss b (buffers (replicate LEAVES_MAX false) held₀ store₁ report₁ bytes₁ known₁) (Ok (started size used))
    → Stands x cr policy segs (setting_of key sweep layout) 130 (after_tasks key layout.separators P (tasks_of P) ss b) (progress_tasks key layout.separators P (tasks_of P) ss b) (buffers named held store report bytes known) r) where
  abbrev ss' : List Segment
  ss' = after_tasks key layout.separators P (tasks_of P) m.segments (running [] [] size)

  abbrev b' : Progress
  b' = progress_tasks key layout.separators P (tasks_of P) m.segments (running [] [] size)

  last_stands : Stands (size - length message) m.last_cr policy segs (setting_of key sweep layout) 130 ss' b' (buffers named held store report bytes known) r
  last_stands = f (size - length message) m.last_cr m.segments (running [] [] size) (record { out = first_stage key sweep w p report₁ bytes₁ known₁ })

  run_is : redact_from size key P m ≡ redacted_as layout.separators m.last_cr b' ss'
  run_is = rw w.standing.separators (tasks_redact key size P m)

  module _ {c : Counters} (e : r ≡ Ok c) where
    last_stage : Stage (size - length message) m.last_cr policy segs (setting_of key sweep layout) 130 ss' b' (buffers named held store report bytes known) c
    last_stage = (rw e at last_stands).out

    pub end_most : c.size ≤ TEXT_MAX
    end_most = last_stage.most

    pub end_printable : {len : ℕ} → len ≡ c.size + used - size → Printable layout segs held store len
    end_printable q = record {
      segmented = w.standing.segmented;
      good = end_good key sweep named held store report bytes known last_stage w.standing.last;
      long = omega (arith, q, end_long key sweep named held store report bytes known last_stage w.standing.last, w.within, p.end);
    }

    pub end_ran : Ran (redact_from size key P m) layout segs held store report c
    unfolding redacted_as
    end_ran = record {
      rows = last_stage.recorded.rows;
      is = run_is ∙ rw last_stage.recorded.is (ap (λ u. R.done u last_stage.recorded.rows) (prints_as key sweep named held store report bytes known last_stage w.standing.last));
      count = last_stage.recorded.count;
      reported = last_stage.recorded.reported;
    }

  pub end_refused : {e : Refusal} → r ≡ Err e → (output report' : Text) → RedactedIs (redact_from size key P m) output output report' (Err e)
  unfolding redacted_as
  end_refused q output report' = let s = rw q at last_stands in record { out = (run_is ∙ rw s.out, refl) }
