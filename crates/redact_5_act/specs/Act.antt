-- What becomes of one leaf's text, which stands in a store of texts. Assumes nothing: these are definitions.
use Rattle.std.specs.Prelude.{◌≡◌, ℕ, ◌+◌, ◌-◌, ◌≤◌, ◌<◌, length, Option, Some, None, Result, Ok, Err}
use Rattle.text.specs.Text.{Text, SameTo, StandsAt}
use Rattle.run_model.specs.Redact.{Effect, stays, becomes}
use Rattle.refusal.specs.declared.Refusal.{Refusal}
use Rattle.refusal.specs.declared.Refusal.TheVariants.{MessageTooLong}
use Rattle.redact_5_act.specs.declared.state.Counters.{Counters}
use Rattle.refusal.specs.Limits.{LEARNT_BYTES_MAX, TEXT_MAX}

-- the effect f is a text of n bytes, which stands in the store d' behind the texts in use
pub record Became (f : Effect) (went : ℕ) (c : Counters) (d d' : Text) (n : ℕ) : Type 0 where
  pub text : Text
  pub is : f ≡ becomes text
  pub long : n ≡ length text
  pub few : c.size - went + n ≤ TEXT_MAX
  pub stands : StandsAt d c.used text d'

-- "a change leaves the message over 49,152 bytes"
pub record Overran (f : Effect) (went : ℕ) (c : Counters) : Type 0 where
  pub text : Text
  pub is : f ≡ becomes text
  pub over : TEXT_MAX < c.size - went + length text

-- the answer for the effect f, where `went` bytes of the message go: d is the store before it, d' the store after it. An action on one leaf
-- lets none vanish
abbrev pub ActedOr : Effect → ℕ → Counters → Text → Text → Result (Option ℕ) Refusal → Type 0
ActedOr f went c d d' (Ok None) = (f ≡ stays) × SameTo c.used d d'
ActedOr f went c d d' (Ok (Some n)) = Became f went c d d' n
ActedOr f went c d d' (Err e) = (e ≡ MessageTooLong) × Overran f went c

pub record Acted (f : Effect) (went : ℕ) (c : Counters) (d d' : Text) (r : Result (Option ℕ) Refusal) : Type 0 where
  pub out : ActedOr f went c d d' r

-- .. with work behind the learnt values, whose bytes are kept
pub record ActedBeside (f : Effect) (went : ℕ) (c : Counters) (d d' bytes bytes' : Text) (r : Result (Option ℕ) Refusal) : Type 0 where
  pub out : ActedOr f went c d d' r
  pub beside : SameTo c.known_used bytes bytes'

-- the store has room for a text in the place of a leaf of len bytes, and so have the bytes behind the learnt values
pub record ActRoom (len : ℕ) (c : Counters) : Type 0 where
  pub within : len ≤ c.size
  pub most : c.size ≤ TEXT_MAX
  pub room : c.used + len ≤ TEXT_MAX + c.size
  pub beside : c.known_used ≤ LEARNT_BYTES_MAX

-- .. and the leaf stands there from index `start` on
pub record LeafHeld (start len : ℕ) (c : Counters) : Type 0 where
  pub inside : start + len ≤ c.used
  pub room : ActRoom len c
