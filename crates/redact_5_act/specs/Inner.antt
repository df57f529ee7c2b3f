-- What the contracts of private functions cite; no public contract rests on it. Assumes nothing: these are definitions.
use Rattle.std.specs.Prelude.{◌≡◌, Bool, false, cond, ◌&&◌, List, ℕ, ◌+◌, ◌-◌, ◌≤◌, ◌<◌, leb, get_or, Some, None}
use Rattle.std.specs.Prelude.{Option as Maybe}
use Rattle.std.proofs.Math.Option.{Option, none, some}
use Rattle.text.specs.Text.{Text, between}
use Rattle.er7.specs.declared.separators.Separators.{Separators}
use Rattle.er7_redact.specs.Action.{Action, apply, room}
use Rattle.message_model.specs.Value.{NULL, is_null, value, is_whole_word}
use Rattle.run_model.specs.Redact.{Effect, stays, becomes, replaced, longest_found}
use Rattle.redact_5_act.specs.Known.{value_of, known_at, known_from}
use Rattle.redact_5_act.specs.declared.known.Known.{Known as HeldKnown}
use Rattle.redact_5_act.specs.declared.state.Counters.{Counters}
use Rattle.refusal.specs.Limits.{TEXT_MAX}

-- a leaf under the action null
unfoldable pub nulled : Text → Effect
nulled t = cond (is_null t) stays (becomes NULL)

-- a leaf that is neither empty nor null, under another action
unfoldable pub on_value : ℕ → Separators → Action → Text → Effect
on_value key s a t = replaced s (apply key a (value s t)) (value s t)

-- the value that stands in bytes from behind the learnt values to index `to`; that of a leaf of len bytes
unfoldable pub decoded_at : Text → ℕ → Counters → Text
decoded_at bytes to c = between bytes c.known_used to

pub record Decoded (bytes : Text) (to len : ℕ) (c : Counters) : Type 0 where
  pub low : c.known_used ≤ to
  pub high : to ≤ c.known_used + len
  pub room : to ≤ 65536

-- the text that is put in a value's place leaves the message short enough, as long as no byte of it is escaped
pub record Fits (o : Option Text) (len : ℕ) (c : Counters) : Type 0 where
  pub few : c.size - len + room o ≤ TEXT_MAX

-- the first byte of v is marked
unfoldable pub first_marked : List Bool → Text → Bool
first_marked starts v = get_or starts (get_or v 0 0) false

-- the value of the row r has `least` bytes at least and is found in v
unfoldable pub has_value : Text → Text → ℕ → HeldKnown → Bool
has_value v bytes least r = leb least r.len && is_whole_word (value_of bytes r) v

-- r is the row of the value that is picked for v of the rows from row i on, if one is
abbrev pub PickedOr : Text → Text → List HeldKnown → ℕ → ℕ → Maybe ℕ → Type 0
PickedOr v bytes known i n None = (text : Text) → longest_found (known_from text bytes known i (n - i)) v ≡ none
PickedOr v bytes known i n (Some r) = (r < n) × ((text : Text) → longest_found (known_from text bytes known i (n - i)) v ≡ some (known_at text bytes known r))

pub record RowFound (v bytes : Text) (known : List HeldKnown) (i n : ℕ) (r : Maybe ℕ) : Type 0 where
  pub out : PickedOr v bytes known i n r
