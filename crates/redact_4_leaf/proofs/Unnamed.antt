-- Laws of a visit to an unnamed leaf, by a posture or by the sweep. Assumes nothing.
use Rattle.std.proofs.Common.{◌≡◌, refl, sym, ap, ◌∙◌, Bool, true, false, cond, List, [], ℕ, suc, ◌-◌, ◌≤◌, ◌<◌, length, Some, None, Result, Ok}
use Rattle.std.proofs.Common.{Option as Maybe}
use Rattle.std.proofs.Math.Option.{Option, none, some}
use Rattle.text.specs.Text.{Text, SameTo}
use Rattle.text.proofs.Kept.{same_all, same_then}
use Rattle.er7.specs.declared.message.Place.{Place}
use Rattle.er7.specs.declared.separators.Separators.{Separators}
use Rattle.er7_redact.specs.Action.{Action, keep, as_action}
use Rattle.message_model.specs.Message.{Leaf, leaf, Label}
use Rattle.run_model.specs.Redact.{after, for_sweep, act, act_or, row, changing, changing_or, is_unnamed, unnamed_leaf, unnamed_events, Known, after_events, stays}
use Rattle.er7_table.specs.declared.table.Leaf.{Leaf as HeldLeaf}
use Rattle.er7_table.specs.Table.{leaf_row, list_of, place_at, leaf_at, as_label}
use Rattle.redact_5_act.specs.Known.{action_at, swept_in, Swept}
use Rattle.redact_5_act.specs.declared.state.Setting.{Setting}
use Rattle.redact_5_act.specs.declared.state.Counters.{Counters}
use Rattle.refusal.specs.declared.Refusal.{Refusal}
use Rattle.redact_4_leaf.specs.Walk.{Pass}
use Rattle.redact_4_leaf.specs.State.{buffers, text_in, marked, known_now, KnownHeld, LearntTo, Ready, ActedOn}
use Rattle.redact_4_leaf.specs.Visit.{unnamed_pass, said_of, Visit}
use Rattle.redact_4_leaf.specs.declared.leaf.Spot.{Spot}
use Rattle.redact_4_leaf.proofs.Learnt.{learnt_none}
use Rattle.redact_4_leaf.proofs.Acting.{ready_live, live_text, text_length_lem, stayed}
use Rattle.redact_4_leaf.proofs.Visits.{known_same, Seen, seen_visit}
use Rattle.refusal.specs.Limits.{LEAVES_MAX}
use Rattle.redact_5_act.specs.declared.known.Known.{Known as HeldKnown}

module _ (key : ℕ) (s : Separators) (pick : Text → Option Action) (g : Label) (p : Place) (b : Bool) (t : Text) (xs : List Leaf) where
  -- a text for which there is no action stays
  pub pick_none : pick t ≡ none → (unnamed_leaf key s pick g (leaf p b (some t)) xs ≡ leaf p b (some t)) × (unnamed_events key s pick g (leaf p b (some t)) xs ≡ [])
  unfolding unnamed_leaf unnamed_events after act_or changing_or
  pick_none e = go (is_unnamed g p b)
    where
      go : (u : Bool)
          → (leaf p b (after (cond u (act_or key s (pick t) t) stays) t) ≡ leaf p b (some t)) × (cond u (changing_or key s (pick t) g p t) [] ≡ [])
      go true = (rw e, rw e)
      go false = (refl, refl)

  module _ (a : Action) (u : is_unnamed g p b ≡ true) (q : pick t ≡ some a) where
    act_leaf : unnamed_leaf key s pick g (leaf p b (some t)) xs ≡ leaf p b (after (act key s a t) t)
    unfolding unnamed_leaf act_or
    act_leaf = rw (u, q)

    act_says : unnamed_events key s pick g (leaf p b (some t)) xs ≡ changing (row g p a) (length t) (act key s a t)
    unfolding unnamed_events changing_or
    act_says = rw (u, q)

module _ (on : Setting) (at : Spot) (text : Text) (named : List Bool) (held : List HeldLeaf) (store report bytes : Text) (known : List HeldKnown) (c : Counters)
    (pick : List Known → Text → Option Action) (w : Ready held store on.leaves at.index c) (few : on.leaves ≤ LEAVES_MAX) (h : KnownHeld text bytes known c) where
  abbrev P : List Known → Pass
  P ks = unnamed_pass on.key on.separators (pick ks)

  abbrev here : Text
  here = text_in held store at.index

  abbrev behind : List Leaf
  behind = list_of (leaf_at (marked named) held store) (suc at.index) (at.end - suc at.index)

  nothing_learnt : LearntTo [] on.sweep text bytes known c bytes known c
  nothing_learnt = learnt_none [] on.sweep (λ b. unfold after_events in refl) h

  -- there is an action for it
  module _ (a : Action) (u : is_unnamed (as_label at.label) (place_at held at.index) (marked named at.index) ≡ true) (q : pick (known_now text bytes known c) here ≡ some a) where
    unnamed_said : said_of (P (known_now text bytes known c)) (as_label at.label) at.end (leaf_at (marked named) held store) at.index
        ≡ changing (row (as_label at.label) (place_at held at.index) a) (leaf_row held at.index).len (act on.key on.separators a here)
    unfolding said_of unnamed_pass leaf_at
    unnamed_said =
        rw (live_text held store at.index w.live, act_says on.key on.separators (pick (known_now text bytes known c)) (as_label at.label) (place_at held at.index) (marked named at.index) here behind a u q, text_length_lem w.good at.index w.inside)

    unnamed_leaf_lem : leaf (place_at held at.index) (marked named at.index) (after (act on.key on.separators a here) here)
        ≡ (P (known_now text bytes known c)).leaf (as_label at.label) (leaf_at (marked named) held store at.index) behind
    unfolding unnamed_pass leaf_at
    unnamed_leaf_lem =
        rw (live_text held store at.index w.live)
        (sym (act_leaf on.key on.separators (pick (known_now text bytes known c)) (as_label at.label) (place_at held at.index) (marked named at.index) here behind a u q))

    unnamed_seen : Seen P on at text named held store bytes known c named known c bytes [] (act on.key on.separators a here) (row (as_label at.label) (place_at held at.index) a) (leaf_row held at.index).len
    unnamed_seen = record { live = ready_live w; few = few; learnt = nothing_learnt; marks = λ j ne. refl; said = unnamed_said; leaf = unnamed_leaf_lem }

    -- with work behind what is known before it
    pub unnamed_acted : {bytes₁ : Text} → SameTo c.known_used bytes bytes₁ → {held' : List HeldLeaf} {store' report' bytes' : Text} (r : Result Counters Refusal)
        → ActedOn (act on.key on.separators a here) (row (as_label at.label) (place_at held at.index) a) on.leaves at.index held store report bytes₁ c held' store' report' bytes' r
        → Visit P false on at text (buffers named held store report bytes known) c (buffers named held' store' report' bytes' known) r
    unnamed_acted k r d = seen_visit unnamed_seen r d.change (same_then k d.beside) (λ c' x y. ap P (known_same h (same_then k d.beside) c' y))

  -- there is none
  pub unnamed_none : {bytes' : Text} → pick (known_now text bytes known c) here ≡ none → SameTo c.known_used bytes bytes'
      → Visit P false on at text (buffers named held store report bytes known) c (buffers named held store report bytes' known) (Ok c)
  unnamed_none q k = seen_visit still (Ok c) (record { out = stayed (ready_live w) false _ _ (refl, same_all) }) k (λ c' x y. ap P (known_same h k c' y))
    where
      silent : said_of (P (known_now text bytes known c)) (as_label at.label) at.end (leaf_at (marked named) held store) at.index ≡ []
      silent = unfold said_of unnamed_pass leaf_at in rw (live_text held store at.index w.live) (pick_none on.key on.separators (pick (known_now text bytes known c)) (as_label at.label) (place_at held at.index) (marked named at.index) here behind q).1

      still : Seen P on at text named held store bytes known c named known c bytes [] stays (row (as_label at.label) (place_at held at.index) keep) 0
      still = record {
        live = ready_live w;
        few = few;
        learnt = nothing_learnt;
        marks = λ j ne. refl;
        said = silent ∙ unfold changing in refl;
        leaf = unfold after unnamed_pass leaf_at in rw (live_text held store at.index w.live) (sym (pick_none on.key on.separators (pick (known_now text bytes known c)) (as_label at.label) (place_at held at.index) (marked named at.index) here behind q).0);
      }

-- what the sweep takes for a leaf, by the row that was found
module _ (s : Separators) {bytes bytes' : Text} {known : List HeldKnown} (c : Counters) {lent t : Text} (same : lent ≡ t) {r : Maybe ℕ}
    (f : Swept s lent bytes bytes' known c.known c.known_used r) (text : Text) where
  pub swept_none : r ≡ None → for_sweep s (known_now text bytes known c) t ≡ none
  unfolding known_now swept_in
  swept_none q = rw (← same) ((rw q at f).found.out text)

  pub swept_some : {k : ℕ} → r ≡ Some k → for_sweep s (known_now text bytes known c) t ≡ some (as_action text (action_at known k))
  unfolding known_now swept_in
  swept_some q = rw (← same) ((rw q at f).found.out.1 text)

pub swept_row : {s : Separators} {t bytes bytes' : Text} {known : List HeldKnown} {n used k : ℕ} {r : Maybe ℕ} → Swept s t bytes bytes' known n used r → r ≡ Some k → k < n
swept_row f q = (rw q at f).found.out.0
