-- Laws of values that are learnt in a pass. Assumes nothing.
use Rattle.std.proofs.Common.{◌≡◌, refl, ◌∙◌, Bool, true, false, ◌||◌, List, [], ◌∷◌, ℕ, ◌≤◌, ltb, length, length-take, arith, Result, Ok, Err}
use Rattle.text.specs.Text.{Text, lower, part}
use Rattle.text.proofs.Laws.{by_cond}
use Rattle.er7.specs.declared.separators.Separators.{Separators}
use Rattle.er7_redact.specs.declared.action.Action.{Action as HeldAction}
use Rattle.er7_redact.specs.Action.{Action, is_keep, as_action, ActionHeld}
use Rattle.message_model.specs.Value.{is_empty_or_null, value}
use Rattle.run_model.specs.Redact.{Event, learning, Row, Progress, running, stopped, after_event, after_events}
use Rattle.redact_5_act.specs.Known.{known_from, learn_leaf, Learns, progress_of}
use Rattle.refusal.specs.declared.Refusal.{Refusal}
use Rattle.redact_5_act.specs.declared.state.Counters.{Counters}
use Rattle.redact_4_leaf.specs.State.{known_now, KnownHeld, LearntTo, Learning}
use Rattle.redact_5_act.specs.declared.known.Known.{Known as HeldKnown}
use Rattle.refusal.specs.Limits.{TEXT_MAX}

-- events that leave the progress teach nothing
pub learnt_none : (es : List Event) (sweep : Bool) {text bytes : Text} {known : List HeldKnown} {c : Counters} → ((b : Progress) → after_events sweep es b ≡ b)
    → KnownHeld text bytes known c → LearntTo es sweep text bytes known c bytes known c
learnt_none es sweep e h = record {
  rows = refl;
  report = refl;
  size = refl;
  used = refl;
  held = h;
  progress = λ report b k. rw (e b) k;
}

-- under keep nothing is learnt
pub learn_keep : (s : Separators) (a : Action) (t : Text) (sweep : Bool) → is_keep a ≡ true → (b : Progress) → after_events sweep (learning s a (t ∷ [])) b ≡ b
unfolding learning after_events
learn_keep s a t sweep e b = rw e

-- nor without a sweep
pub learn_off : (s : Separators) (a : Action) (ts : List Text) (b : Progress) → after_events false (learning s a ts) b ≡ b
unfolding learning after_events after_event
learn_off s a [] b = refl
learn_off s a (t ∷ ts) (stopped e) =
    by_cond (λ es. after_events false es (stopped e) ≡ stopped e) (is_keep a || is_empty_or_null t || ltb (length (lower (value s t))) 3) _ _
    (λ _. learn_off s a ts (stopped e)) (λ _. learn_off s a ts (stopped e))
learn_off s a (t ∷ ts) (running ks ρs z) =
    by_cond (λ es. after_events false es (running ks ρs z) ≡ running ks ρs z) (is_keep a || is_empty_or_null t || ltb (length (lower (value s t))) 3) _ _
    (λ _. learn_off s a ts (running ks ρs z)) (λ _. learn_off s a ts (running ks ρs z))

pub learning_off : (s : Separators) (a : Action) (ts : List Text) (sweep : Bool) {text bytes : Text} {known : List HeldKnown} {c : Counters} → sweep ≡ false
    → KnownHeld text bytes known c → Learning (learning s a ts) sweep text bytes known c bytes known (Ok c)
learning_off s a ts sweep e h = record { out = learnt_none (learning s a ts) sweep (λ b. rw e (learn_off s a ts b)) h }

-- a leaf's text, lent, is as short as the leaf says
pub lent_short : {lent : Text} (store : Text) (start len : ℕ) → lent ≡ part store start len → len ≤ TEXT_MAX → length lent ≤ TEXT_MAX
unfolding part
lent_short store start len e h = rw e (simp length-take (omega arith))

-- a leaf's text, lent
module _ (s : Separators) {lent t : Text} (same : lent ≡ t) {a : HeldAction} {bytes bytes' : Text} {known known' : List HeldKnown} (c : Counters) {r : Result (ℕ × ℕ) Refusal}
    (l : Learns (learn_leaf s lent a) a bytes known c.known c.known_used bytes' known' r) (sweep : Bool) (on : sweep ≡ true) (text : Text) where
  recorded : (k : List Row) (z : ℕ) → after_events sweep (learning s (as_action text a) (t ∷ [])) (running (known_from text bytes known 0 c.known) k z) ≡ progress_of text bytes' known' k z r
  unfolding learn_leaf
  recorded k z = rw (on, ← same) (l.progress text k z)

  -- with the counters as they are then
  pub learning_kept : {n used : ℕ} → r ≡ Ok (n, used) → ActionHeld text a → KnownHeld text bytes known c
      → Learning (learning s (as_action text a) (t ∷ [])) sweep text bytes known c bytes' known' (Ok (record { rows = c.rows; report_len = c.report_len; size = c.size; used = c.used; known = n; known_used = used }))
  unfolding known_now progress_of
  learning_kept e q h = record {
    out = record {
      rows = refl;
      report = refl;
      size = refl;
      used = refl;
      held = record { good = rw e at l.good; held = rw e at (l.held text q h.held) };
      progress = λ report b k. record {
        rows = k.rows;
        is = rw k.is (recorded k.rows c.size ∙ rw e);
        count = k.count;
        reported = k.reported;
      };
    };
  }

  pub learning_full : {x : Refusal} → r ≡ Err x → Learning (learning s (as_action text a) (t ∷ [])) sweep text bytes known c bytes' known' (Err x)
  unfolding known_now progress_of
  learning_full e = record { out = λ report b k. rw k.is (recorded k.rows c.size ∙ rw e) }
