-- Laws of an action on one leaf. Assumes nothing.
use Rattle.std.proofs.Common.{◌≡◌, refl, sym, ap, ◌∙◌, Bool, true, false, ℕ, ◌+◌, ◌-◌, ◌≤◌, ◌<◌, ltb, ltb-true, ltb-false, length, length-take, arith, Some, None, Result, Ok, Err}
use Rattle.std.proofs.Common.{Option as Maybe}
use Rattle.std.proofs.Math.Option.{Option, some}
use Rattle.text.specs.Text.{Text, same, part, between, Wrote, SameTo, StandsAt}
use Rattle.text.proofs.Kept.{same_all, same_then, part_length, wrote_between, wrote_stands, stands_same}
use Rattle.text.proofs.Words.{same_eq}
use Rattle.er7.specs.declared.separators.Separators.{Separators}
use Rattle.er7_redact.specs.Action.{Action, is_null_action, apply, answer, written}
use Rattle.er7_redact.proofs.Actions.{room_written, answered_nothing, answered_text, answered_room, answered_length}
use Rattle.er7_value.proofs.Decoding.{value_length}
use Rattle.er7_value.proofs.Encoding.{encode_length, encode_same}
use Rattle.message_model.specs.Value.{is_null, is_empty_or_null, encode, NULL, value}
use Rattle.run_model.specs.Redact.{Effect, stays, becomes, replaced, act}
use Rattle.refusal.specs.declared.Refusal.{Refusal}
use Rattle.redact_5_act.specs.declared.state.Counters.{Counters}
use Rattle.redact_5_act.specs.Act.{Became, Overran, ActedOr, Acted, ActedBeside, ActRoom}
use Rattle.redact_5_act.specs.Inner.{nulled, on_value, decoded_at, Decoded, Fits}
use Rattle.refusal.specs.Limits.{TEXT_MAX}

-- ---- room

-- what leaves the message short enough has room behind the texts in the store
pub room_fits : {len : ℕ} {c : Counters} (n : ℕ) → ActRoom len c → c.size - len + n ≤ TEXT_MAX → c.used + n ≤ 98304
room_fits n h l = omega (arith, h.within, h.most, h.room)

-- ---- each answer

module _ {went : ℕ} {c : Counters} (w : Text) {n : ℕ} (e : n ≡ length w) where
  pub overran : ltb TEXT_MAX (c.size - went + n) ≡ true → Overran (becomes w) went c
  overran q = let h = ltb-true TEXT_MAX (c.size - went + n) q in record { text = w; is = refl; over = omega (arith, e) }

  pub became : {d d' : Text} → ltb TEXT_MAX (c.size - went + n) ≡ false → StandsAt d c.used w d' → Became (becomes w) went c d d' n
  became q g = record { text = w; is = refl; long = e; few = ltb-false TEXT_MAX (c.size - went + n) q; stands = g }

-- the same effect by another definition
pub acted_as : {f g : Effect} {went : ℕ} {c : Counters} {d d' : Text} {r : Result (Maybe ℕ) Refusal} → f ≡ g → Acted g went c d d' r → Acted f went c d d' r
acted_as e h = rw e h

-- .. where the store has changed behind what is kept of it
or_as : {f g : Effect} (went : ℕ) (c : Counters) {d e : Text} (d' : Text) → f ≡ g → SameTo c.used d e → (r : Result (Maybe ℕ) Refusal) → ActedOr g went c e d' r → ActedOr f went c d d' r
or_as went c d' p q (Ok None) h = (p ∙ h.0, same_then q h.1)
or_as went c d' p q (Ok (Some n)) h = record { text = h.text; is = p ∙ h.is; long = h.long; few = h.few; stands = stands_same q h.stands }
or_as went c d' p q (Err x) h = (h.0, record { text = h.1.text; is = p ∙ h.1.is; over = h.1.over })

-- .. and so have the bytes
pub beside_as : {f g : Effect} {went : ℕ} {c : Counters} {d e d' b b₁ b₂ : Text} {r : Result (Maybe ℕ) Refusal} → f ≡ g → SameTo c.used d e → SameTo c.known_used b b₁
    → ActedBeside g went c e d' b₁ b₂ r → ActedBeside f went c d d' b b₂ r
beside_as {r = r} p q s h = record { out = or_as _ _ _ p q r h.out; beside = same_then s h.beside }

-- where no bytes are for work
pub acted_beside : {f g : Effect} {went : ℕ} {c : Counters} {d d' b : Text} {r : Result (Maybe ℕ) Refusal} → f ≡ g → Acted g went c d d' r → ActedBeside f went c d d' b b r
acted_beside {r = r} e h = record { out = or_as _ _ _ e same_all r h.out; beside = same_all }

-- ---- a value whose delimiters are escaped: v, which was read as t, takes m bytes

long_as : (s : Separators) {t : Text} (v : Text) {m : ℕ} → t ≡ v → m ≡ length (encode s t) → m ≡ length (encode s v)
long_as s v e h = h ∙ ap (λ (x : Text). length (encode s x)) e

pub escaped_room : (s : Separators) {went : ℕ} {c : Counters} {t : Text} (u : Text) {m : ℕ} → u ≡ t → m ≡ length (encode s t) → ltb TEXT_MAX (c.size - went + m) ≡ false → ActRoom went c
    → c.used + length (encode s u) ≤ 98304
escaped_room s {went} {c} {t} u {m} i h q g = room_fits (length (encode s u)) g (rw i (rw (← h) (ltb-false TEXT_MAX (c.size - went + m) q)))

module _ (s : Separators) {went : ℕ} {c : Counters} {t : Text} (v : Text) {m : ℕ} (e : t ≡ v) (h : m ≡ length (encode s t)) where
  pub escaped_over : ltb TEXT_MAX (c.size - went + m) ≡ true → Overran (becomes (encode s v)) went c
  escaped_over q = overran (encode s v) (long_as s v e h) q

  module _ (q : ltb TEXT_MAX (c.size - went + m) ≡ false) where
    pub escaped_anew : {d d' u : Text} {r : ℕ} → u ≡ t → Wrote d c.used (encode s u) d' r → Became (becomes (encode s v)) went c d d' m
    escaped_anew i w = became (encode s v) (long_as s v e h) q (rw (← e, ← i) (wrote_stands w))

-- .. n bytes of the store, none of which is escaped
pub escaped_same : (s : Separators) {went : ℕ} {c : Counters} {t : Text} (d : Text) {n m : ℕ} → t ≡ part d c.used n → m ≡ length (encode s t) → ltb TEXT_MAX (c.size - went + m) ≡ false
    → c.used + n ≤ length d → m ≡ n → Became (becomes (encode s (part d c.used n))) went c d d n
escaped_same s {went} {c} {t} d {n} {m} e h q l i =
    let k = part_length d c.used n l in
    let x = encode_same s (part d c.used n) (sym (long_as s (part d c.used n) e h) ∙ i ∙ sym k) in
    rw x (became (part d c.used n) (sym k) (rw (← i) q) (record { before = same_all; room = omega (arith, k); here = rw k }))

-- ---- a value in the place of another

module _ (s : Separators) (w v : Text) where
  pub replaced_same : same w v ≡ true → replaced s (some w) v ≡ stays
  unfolding replaced
  replaced_same e = rw e

  pub replaced_other : same w v ≡ false → replaced s (some w) v ≡ becomes (encode s w)
  unfolding replaced
  replaced_other e = rw e

  -- one that is longer differs
  longer : length v < length w → same w v ≡ false
  longer h = by_same (same w v) refl
    where
      by_same : (b : Bool) → same w v ≡ b → b ≡ false
      by_same false q = refl
      by_same true q = absurd (omega (arith, h, ap length (same_eq w v q)))

  pub replaced_over : {went : ℕ} {c : Counters} → length v ≤ went → went ≤ c.size → c.size ≤ TEXT_MAX → TEXT_MAX < c.size - went + length w → Overran (replaced s (some w) v) went c
  replaced_over i j k h = record { text = encode s w; is = replaced_other (longer (omega arith)); over = omega (arith, encode_length s w) }

-- what an action writes, or that it writes nothing
module _ (s : Separators) (o : Option Text) (v : Text) where
  pub replaced_none : answer o ≡ None → replaced s o v ≡ stays
  unfolding replaced
  replaced_none e = rw (answered_nothing o e)

  module _ {n : ℕ} (e : answer o ≡ Some n) where
    pub replaced_some : replaced s o v ≡ replaced s (some (written o)) v
    replaced_some = ap (λ (x : Option Text). replaced s x v) (answered_text o e)

    pub applied_over : {went : ℕ} {c : Counters} → length v ≤ went → ActRoom went c → ltb TEXT_MAX (c.size - went + n) ≡ true → Overran (replaced s o v) went c
    applied_over {went} {c} l h q =
        let x = ltb-true TEXT_MAX (c.size - went + n) q in
        rw replaced_some (replaced_over s (written o) v l h.within h.most (omega (arith, answered_length o e)))

pub applied_fits : (o : Option Text) {n went : ℕ} {c : Counters} → answer o ≡ Some n → ltb TEXT_MAX (c.size - went + n) ≡ false → Fits o went c
applied_fits o {n} {went} {c} e q = let x = ltb-false TEXT_MAX (c.size - went + n) q in record { few = omega (arith, answered_room o e) }

-- what was written of it stands in the store d' up to index r, and is read from there
module _ (s : Separators) (o : Option Text) (v : Text) {d d' : Text} {used r : ℕ} (w : Wrote d used (written o) d' r) where
  pub read_same : same (between d' used r) v ≡ true → replaced s (some (written o)) v ≡ stays
  read_same e = replaced_same s (written o) v (rw (← wrote_between w) e)

  pub read_other : same (between d' used r) v ≡ false → replaced s (some (written o)) v ≡ becomes (encode s (part d' used (r - used)))
  unfolding part between
  read_other e = replaced_other s (written o) v (rw (← wrote_between w) e) ∙ ap (λ (x : Text). becomes (encode s x)) (sym (wrote_between w))

pub written_few : (o : Option Text) {d d' : Text} {used r went : ℕ} {c : Counters} → Wrote d used (written o) d' r → Fits o went c → r - used ≤ TEXT_MAX
written_few o w g = omega (arith, g.few, room_written o, w.end)

-- ---- a leaf's value

pub decoded_short : {b : Text} {to len : ℕ} {c : Counters} → Decoded b to len c → length (decoded_at b to c) ≤ len
unfolding decoded_at between
decoded_short g = simp length-take (omega (arith, g.high))

-- the value of t was written to the bytes behind the learnt values, which left b'
module _ (s : Separators) (t : Text) (c : Counters) {b b' : Text} {to : ℕ} (w : Wrote b c.known_used (value s t) b' to) where
  pub value_decoded : {len : ℕ} → length t ≤ len → ActRoom len c → Decoded b' to len c
  value_decoded l h = record { low = omega (arith, w.end); high = omega (arith, w.end, value_length s t); room = omega (arith, w.end, value_length s t, h.within, h.most, h.beside) }

  value_is : decoded_at b' to c ≡ value s t
  unfolding decoded_at
  value_is = wrote_between w

  pub value_replaced : (key : ℕ) (a : Action) (u : Text) → t ≡ u → on_value key s a u ≡ replaced s (apply key a (decoded_at b' to c)) (decoded_at b' to c)
  unfolding on_value
  value_replaced key a u h = rw (← h, value_is)

-- ---- an action

module _ (key : ℕ) (s : Separators) (a : Action) (t : Text) where
  pub act_null : is_null_action a ≡ true → act key s a t ≡ nulled t
  unfolding act nulled
  act_null e = rw e

  pub act_empty : is_null_action a ≡ false → is_empty_or_null t ≡ true → act key s a t ≡ stays
  unfolding act
  act_empty e f = rw (e, f)

  pub act_value : is_null_action a ≡ false → is_empty_or_null t ≡ false → act key s a t ≡ on_value key s a t
  unfolding act on_value
  act_value e f = rw (e, f)

pub nulled_null : (t : Text) → is_null t ≡ true → nulled t ≡ stays
unfolding nulled
nulled_null t e = rw e

pub nulled_other : (t : Text) → is_null t ≡ false → nulled t ≡ becomes NULL
unfolding nulled
nulled_other t e = rw e
