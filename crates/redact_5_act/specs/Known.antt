-- The learnt values: their bytes in one buffer, and a table with a row for each value: its hash, where its bytes start, how many they are,
-- and its action. Assumes nothing: these are definitions.
use Rattle.std.specs.Prelude.{◌≡◌, true, List, [], ◌∷◌, ℕ, zero, suc, ◌+◌, ◌≤◌, ◌<◌, length, get_or, Some, None, Result, Ok, Err, IfOk}
use Rattle.std.specs.Prelude.{Option as Maybe}
use Rattle.std.proofs.Math.Option.{Option, none, some}
use Rattle.text.specs.Text.{Text, part, SameTo}
use Rattle.er7.specs.declared.separators.Separators.{Separators}
use Rattle.pseudonym.specs.Pseudonym.{fold, OFFSET}
use Rattle.er7_redact.specs.declared.action.Action.{Action as HeldAction}
use Rattle.er7_redact.specs.declared.action.Action.TheVariants as Held
use Rattle.er7_redact.specs.Action.{Action, as_action, ActionHeld}
use Rattle.refusal.specs.declared.Refusal.{Refusal}
use Rattle.redact_5_act.specs.declared.known.Known.{Known as HeldKnown}
use Rattle.refusal.specs.Limits.{LEARNT_BYTES_MAX, LEARNT_MAX}
use Rattle.run_model.specs.Redact.{Known, known_bytes, Row, Event, learn, learning, Progress, running, stopped, after_events, for_sweep}

-- ---- the table

-- row i
abbrev pub row : List HeldKnown → ℕ → HeldKnown
row known i = get_or known i (record { hash = 0; start = 0; len = 0; action = Held.Keep })

-- the value of a row, and those of row i with its action
unfoldable pub value_of : Text → HeldKnown → Text
value_of bytes v = part bytes v.start v.len

abbrev pub value_at : Text → List HeldKnown → ℕ → Text
value_at bytes known i = value_of bytes (row known i)

abbrev pub action_at : List HeldKnown → ℕ → HeldAction
action_at known i = (row known i).action

-- what row i says, where the replacements stand in `text`
unfoldable pub known_at : Text → Text → List HeldKnown → ℕ → Known
known_at text bytes known i = record { value = value_at bytes known i; action = as_action text (action_at known i) }

-- n rows from row i on
unfoldable pub known_from : Text → Text → List HeldKnown → ℕ → ℕ → List Known
known_from text bytes known i zero = []
known_from text bytes known i (suc n) = known_at text bytes known i ∷ known_from text bytes known (i + 1) n

-- the hash of a value, by which most others are told from it at a look
unfoldable pub hash_of : Text → ℕ
hash_of v = fold OFFSET v

-- the value of a row, of three bytes at least, lies in the bytes; so do those of n rows
pub record Slot (bytes : Text) (v : HeldKnown) : Type 0 where
  pub inside : v.start + v.len ≤ LEARNT_BYTES_MAX
  pub long : 3 ≤ length (value_of bytes v)
  pub hash : v.hash ≡ hash_of (value_of bytes v)

pub record Slots (bytes : Text) (known : List HeldKnown) (n : ℕ) : Type 0 where
  pub few : n ≤ LEARNT_MAX
  pub slot : (i : ℕ) → i < n → Slot bytes (row known i)

-- n rows whose values, of three bytes at least, take the first `used` bytes
pub record GoodKnown (bytes : Text) (known : List HeldKnown) (n used : ℕ) : Type 0 where
  pub few : n ≤ LEARNT_MAX
  pub within : used ≤ LEARNT_BYTES_MAX
  pub slots : (i : ℕ) → i < n → ((row known i).start + (row known i).len ≤ used) × (3 ≤ length (value_at bytes known i))
  pub hashes : (i : ℕ) → i < n → (row known i).hash ≡ hash_of (value_at bytes known i)
  pub sum : used ≡ known_bytes (known_from [] bytes known 0 n)

-- the replacements of n rows lie in `text`
pub record ActionsHeld (text : Text) (known : List HeldKnown) (n : ℕ) : Type 0 where
  pub held : (i : ℕ) → i < n → ActionHeld text (action_at known i)

-- ---- learning

-- the progress after it: the values that are known then, or a stop
unfoldable pub progress_of : Text → Text → List HeldKnown → List Row → ℕ → Result (ℕ × ℕ) Refusal → Progress
progress_of text bytes known ρs z (Ok (n, used)) = running (known_from text bytes known 0 n) ρs z
progress_of text bytes known ρs z (Err e) = stopped e

-- the events of a value, and of a leaf with the text t, to be learnt with the action a
unfoldable pub learn_value : Text → HeldAction → Text → List Event
learn_value v a text = learn v (as_action text a) ∷ []

unfoldable pub learn_leaf : Separators → Text → HeldAction → Text → List Event
learn_leaf s t a text = learning s (as_action text a) (t ∷ [])

-- the events es, which learn values for the action a, are recorded, where the sweep is on; of the bytes the first `used` are kept
pub record Learns (es : Text → List Event) (a : HeldAction) (bytes : Text) (known : List HeldKnown) (n used : ℕ) (bytes' : Text) (known' : List HeldKnown) (r : Result (ℕ × ℕ) Refusal) : Type 0 where
  pub beside : SameTo used bytes bytes'
  pub progress : (text : Text) (ρs : List Row) (z : ℕ) → after_events true (es text) (running (known_from text bytes known 0 n) ρs z) ≡ progress_of text bytes' known' ρs z r
  pub good : IfOk r (λ now. GoodKnown bytes' known' now.0 now.1)
  pub held : (text : Text) → ActionHeld text a → ActionsHeld text known n → IfOk r (λ now. ActionsHeld text known' now.0)

-- ---- finding

-- the action that the sweep takes for a leaf with the text t, among n rows
unfoldable pub swept_in : Separators → Text → Text → List HeldKnown → ℕ → Text → Option Action
swept_in s t bytes known n text = for_sweep s (known_from text bytes known 0 n) t

-- r is the row whose action is found, if one is
abbrev pub FoundOr : (Text → Option Action) → List HeldKnown → ℕ → Maybe ℕ → Type 0
FoundOr o known n None = (text : Text) → o text ≡ none
FoundOr o known n (Some r) = (r < n) × ((text : Text) → o text ≡ some (as_action text (action_at known r)))

pub record FoundAt (o : Text → Option Action) (known : List HeldKnown) (n : ℕ) (r : Maybe ℕ) : Type 0 where
  pub out : FoundOr o known n r

-- .. for a leaf with the text t; of the bytes those of the values are kept
pub record Swept (s : Separators) (t bytes bytes' : Text) (known : List HeldKnown) (n used : ℕ) (r : Maybe ℕ) : Type 0 where
  pub beside : SameTo used bytes bytes'
  pub found : FoundAt (swept_in s t bytes known n) known n r
