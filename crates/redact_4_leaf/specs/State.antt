-- What a run's counters and buffers stand for. Assumes nothing: these are definitions.
use Rattle.std.specs.Prelude.{◌≡◌, Bool, true, false, List, ℕ, ◌+◌, ◌-◌, ◌*◌, ◌≤◌, ◌<◌, ◌^◌, length, get_or, set, Result, Ok, Err}
use Rattle.text.specs.Text.{Text, part, SameTo}
use Rattle.message_model.specs.Message.{Leaf}
use Rattle.run_model.specs.Redact.{Effect, after, Row, Event, changing, Known, Progress, running, stopped, after_events, print_row}
use Rattle.er7_table.specs.declared.table.Leaf.{Leaf as HeldLeaf}
use Rattle.er7_table.specs.Table.{leaf_row, place_at, stored_text, leaf_at, Good}
use Rattle.er7_render.specs.Stored.{TextSet, live_len, live_sum}
use Rattle.redact_6_row.specs.Report.{RowAt, Reported}
use Rattle.redact_5_act.specs.Act.{ActRoom}
use Rattle.redact_5_act.specs.Known.{known_from, GoodKnown, ActionsHeld}
use Rattle.redact_5_act.specs.declared.state.Counters.{Counters}
use Rattle.refusal.specs.declared.Refusal.{Refusal}
use Rattle.refusal.specs.Limits.{LEAVES_MAX, TEXT_MAX}
use Rattle.redact_5_act.specs.declared.known.Known.{Known as HeldKnown}

-- what the buffers of a run hold
pub record Buffers : Type 0 where
  pub named : List Bool
  pub held : List HeldLeaf
  pub store : Text
  pub report : Text
  pub bytes : Text
  pub known : List HeldKnown

abbrev pub buffers : List Bool → List HeldLeaf → Text → Text → Text → List HeldKnown → Buffers
buffers named held store report bytes known =
    record { named = named; held = held; store = store; report = report; bytes = bytes; known = known }

-- which leaves are named, by an array of marks
unfoldable pub marked : List Bool → ℕ → Bool
marked named i = get_or named i false

-- leaf i is named
pub record Marked (named : List Bool) (i : ℕ) (named' : List Bool) : Type 0 where
  pub inside : i < length named
  pub is : named' ≡ set named i true

-- the leaves that they hold
abbrev pub leaves : Buffers → ℕ → Leaf
leaves β i = leaf_at (marked β.named) β.held β.store i

-- the text of leaf i, if it has not vanished
unfoldable pub text_in : List HeldLeaf → Text → ℕ → Text
text_in held store i = part store (leaf_row held i).start (leaf_row held i).len

-- ---- the values that are known, and the progress

-- those that stand in `bytes`, by the rows of `known`
unfoldable pub known_now : Text → Text → List HeldKnown → Counters → List Known
known_now text bytes known c = known_from text bytes known 0 c.known

abbrev pub knowing : Text → Buffers → Counters → List Known
knowing text β c = known_now text β.bytes β.known c

pub record KnownHeld (text bytes : Text) (known : List HeldKnown) (c : Counters) : Type 0 where
  pub good : GoodKnown bytes known c.known c.known_used
  pub held : ActionsHeld text known c.known

-- the report, the counters and the values ks that are known stand for the progress b
pub record Recorded (ks : List Known) (report : Text) (c : Counters) (b : Progress) : Type 0 where
  pub rows : List Row
  pub is : b ≡ running ks rows c.size
  pub count : c.rows ≡ length rows
  pub reported : Reported report c.report_len rows

abbrev pub RecordedIn : Text → Buffers → Counters → Progress → Type 0
RecordedIn text β c b = Recorded (knowing text β c) β.report c b

-- the tables are good for n leaves, and so are the learnt values and the marks
pub record Held (text : Text) (n : ℕ) (β : Buffers) (c : Counters) : Type 0 where
  pub good : Good β.held β.store n c.used
  pub known : KnownHeld text β.bytes β.known c
  pub marks : n ≤ LEAVES_MAX

-- what no visit changes
pub record Kept (β β' : Buffers) : Type 0 where
  pub place : (j : ℕ) → place_at β'.held j ≡ place_at β.held j
  pub rows : length β'.held ≡ length β.held
  pub report : length β'.report ≡ length β.report

-- ---- learning

-- the events es, which learn values, are recorded
pub record LearntTo (es : List Event) (sweep : Bool) (text bytes : Text) (known : List HeldKnown) (c : Counters) (bytes' : Text) (known' : List HeldKnown) (c' : Counters) : Type 0 where
  pub rows : c'.rows ≡ c.rows
  pub report : c'.report_len ≡ c.report_len
  pub size : c'.size ≡ c.size
  pub used : c'.used ≡ c.used
  pub held : KnownHeld text bytes' known' c'
  pub progress : (report : Text) (b : Progress) → Recorded (known_now text bytes known c) report c b → Recorded (known_now text bytes' known' c') report c' (after_events sweep es b)

abbrev pub LearntOr : List Event → Bool → Text → Text → List HeldKnown → Counters → Text → List HeldKnown → Result Counters Refusal → Type 0
LearntOr es sweep text bytes known c bytes' known' (Ok c') = LearntTo es sweep text bytes known c bytes' known' c'
LearntOr es sweep text bytes known c bytes' known' (Err e) =
    (report : Text) (b : Progress) → Recorded (known_now text bytes known c) report c b → after_events sweep es b ≡ stopped e

pub record Learning (es : List Event) (sweep : Bool) (text bytes : Text) (known : List HeldKnown) (c : Counters) (bytes' : Text) (known' : List HeldKnown) (r : Result Counters Refusal) : Type 0 where
  pub out : LearntOr es sweep text bytes known c bytes' known' r

-- the text of leaf i, which has not vanished, may be learnt
pub record Readable (held : List HeldLeaf) (bytes : Text) (known : List HeldKnown) (i : ℕ) (c : Counters) : Type 0 where
  pub row : i < length held
  pub inside : (leaf_row held i).start + (leaf_row held i).len ≤ 98304
  pub short : (leaf_row held i).len ≤ TEXT_MAX
  pub good : GoodKnown bytes known c.known c.known_used

-- ---- a change of one leaf

-- leaf i of n has not vanished, and the store has room for a new text of it
pub record Ready (held : List HeldLeaf) (store : Text) (n i : ℕ) (c : Counters) : Type 0 where
  pub inside : i < n
  pub good : Good held store n c.used
  pub live : (leaf_row held i).gone ≡ false
  pub room : ActRoom (leaf_row held i).len c
  pub rows : c.rows ≤ 2 ^ 32
  pub report : c.report_len ≤ 2 ^ 48

-- a row, and a text of `came` bytes, can be counted
pub record Countable (came : ℕ) (c : Counters) : Type 0 where
  pub rows : c.rows ≤ 2 ^ 32
  pub report : c.report_len ≤ 2 ^ 48
  pub size : c.size ≤ TEXT_MAX
  pub used : c.used ≤ 98304
  pub text : came ≤ TEXT_MAX

-- leaf i, of which `went` bytes went and `came` bytes came, was entered in the table and in the report
pub record ChangePut (ρ : Row) (i went came : ℕ) (held : List HeldLeaf) (report : Text) (c : Counters) (held' : List HeldLeaf) (report' : Text) (c' : Counters) : Type 0 where
  pub set : TextSet held i c.used came held'
  pub row : RowAt report c.report_len (print_row ρ) report' c'.report_len
  pub row_most : c'.report_len ≤ c.report_len + 65536
  pub rows : c'.rows ≡ c.rows + 1
  pub size : c'.size ≡ c.size - went + came
  pub used : c'.used ≡ c.used + came
  pub known : c'.known ≡ c.known
  pub known_used : c'.known_used ≡ c.known_used

-- leaf i of n had the effect F, with the row ρ, where `went` bytes of the message went; `node` says whether a node collapsed there
pub record Changed (node : Bool) (F : Effect) (ρ : Row) (went n i : ℕ) (held : List HeldLeaf) (store report : Text) (c : Counters)
    (held' : List HeldLeaf) (store' report' : Text) (c' : Counters) : Type 0 where
  pub good : Good held' store' n c'.used
  pub here : stored_text held' store' i ≡ after F (text_in held store i)
  pub other : (j : ℕ) → j < n → (j ≡ i → ⊥) → stored_text held' store' j ≡ stored_text held store j
  pub place : (j : ℕ) → place_at held' j ≡ place_at held j
  pub lens : (j : ℕ) → (j ≡ i → ⊥) → live_len held' j ≡ live_len held j
  pub held_long : length held' ≡ length held
  pub report_long : length report' ≡ length report
  pub paid : node ≡ false → c'.used + c.size ≤ c.used + c'.size + (leaf_row held i).len
  pub flat : node ≡ true → c'.used ≤ c.used + 2
  pub grows : c.used ≤ c'.used
  pub known : c'.known ≡ c.known
  pub known_used : c'.known_used ≡ c.known_used
  pub rows : c'.rows ≤ c.rows + 1
  pub report_most : c'.report_len ≤ c.report_len + 65536
  pub size_most : c'.size ≤ TEXT_MAX
  pub progress : (sweep : Bool) (ks : List Known) (b : Progress) → Recorded ks report c b → Recorded ks report' c' (after_events sweep (changing ρ went F) b)

-- .. or the run was refused
abbrev pub ChangedOr : Bool → Effect → Row → ℕ → ℕ → ℕ → List HeldLeaf → Text → Text → Counters → List HeldLeaf → Text → Text → Result Counters Refusal → Type 0
ChangedOr node F ρ went n i held store report c held' store' report' (Ok c') = Changed node F ρ went n i held store report c held' store' report' c'
ChangedOr node F ρ went n i held store report c held' store' report' (Err e) =
    (sweep : Bool) (ks : List Known) (b : Progress) → Recorded ks report c b → after_events sweep (changing ρ went F) b ≡ stopped e

pub record Change (node : Bool) (F : Effect) (ρ : Row) (went n i : ℕ) (held : List HeldLeaf) (store report : Text) (c : Counters)
    (held' : List HeldLeaf) (store' report' : Text) (r : Result Counters Refusal) : Type 0 where
  pub out : ChangedOr node F ρ went n i held store report c held' store' report' r

-- an action on leaf i, with work behind the learnt values
pub record ActedOn (F : Effect) (ρ : Row) (n i : ℕ) (held : List HeldLeaf) (store report bytes : Text) (c : Counters)
    (held' : List HeldLeaf) (store' report' bytes' : Text) (r : Result Counters Refusal) : Type 0 where
  pub change : Change false F ρ (leaf_row held i).len n i held store report c held' store' report' r
  pub beside : SameTo c.known_used bytes bytes'

-- ---- before leaf i in a pass over n leaves

-- The store has room for all that the pass may still write, and rows and report have room to be counted. A pass that acts on leaves
-- may write a text for each, and all texts together are no longer than the message; one that collapses nodes writes two bytes for each.
pub record RoomLeft (node : Bool) (held : List HeldLeaf) (i n : ℕ) (c : Counters) : Type 0 where
  pub sum : node ≡ false → c.used + live_sum held i (n - i) ≤ TEXT_MAX + c.size
  pub flat : node ≡ true → c.used + 2 * (n - i) ≤ 98304
  pub within : node ≡ false → live_sum held i (n - i) ≤ c.size
  pub texts : live_sum held i (n - i) ≤ TEXT_MAX
  pub most : c.size ≤ TEXT_MAX
  pub few : c.rows + (n - i) ≤ 2 ^ 31
  pub report : c.report_len + (n - i) * 65536 ≤ 2 ^ 47

-- before leaf i, which has not vanished, where a pass may collapse the node that begins there and ends at or before index `end`
pub record NodeReady (held : List HeldLeaf) (store : Text) (n i end : ℕ) (c : Counters) : Type 0 where
  pub inside : i < end
  pub ends : end ≤ n
  pub good : Good held store n c.used
  pub live : (leaf_row held i).gone ≡ false
  pub texts : live_sum held i (end - i) ≤ TEXT_MAX
  pub most : c.size ≤ TEXT_MAX
  pub room : c.used + 2 ≤ 98304
  pub rows : c.rows ≤ 2 ^ 32
  pub report : c.report_len ≤ 2 ^ 48
