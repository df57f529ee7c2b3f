-- Laws of an action on a leaf, its text in the store, its row and the progress. Assumes nothing.
use Rattle.std.proofs.Common.{◌≡◌, refl, sym, ap, ◌∙◌, Bool, true, false, List, [], ◌∷◌, ◌++◌, ℕ, ◌+◌, ◌-◌, ◌≤◌, ◌<◌, length, Some, None, Result, Ok, Err}
use Rattle.std.proofs.Common.{arith, lt-ltb, le-ltb, length-append}
use Rattle.std.proofs.Common.{Option as Maybe}
use Rattle.std.proofs.Math.Option.{some}
use Rattle.refusal.specs.declared.Refusal.{Refusal}
use Rattle.text.specs.Text.{Text, SameTo}
use Rattle.text.proofs.Laws.{clash}
use Rattle.text.proofs.Kept.{part_length}
use Rattle.refusal.specs.declared.Refusal.TheVariants.{MessageTooLong}
use Rattle.refusal.specs.Limits.{TEXT_MAX}
use Rattle.run_model.specs.Redact.{Effect, stays, after, Row, changing, Known, Progress, stopped, after_event, after_events}
use Rattle.er7_table.specs.declared.table.Leaf.{Leaf as HeldLeaf}
use Rattle.er7_table.specs.Table.{leaf_row, stored_text, Good}
use Rattle.er7_render.specs.Stored.{TextSet, live_len}
use Rattle.er7_render.proofs.Slots.{good_more, set_good, kept_text, kept_good}
use Rattle.er7_render.proofs.Sums.{lens_kept}
use Rattle.redact_6_row.proofs.Rows.{reported_more}
use Rattle.redact_5_act.specs.Act.{LeafHeld, Became, Overran, ActedBeside}
use Rattle.redact_5_act.specs.declared.state.Counters.{Counters}
use Rattle.redact_4_leaf.specs.State.{text_in, Recorded, Ready, NodeReady, Countable, ChangePut, Changed, ActedOn}

-- ---- a leaf that has not vanished

pub record Live (held : List HeldLeaf) (store : Text) (n i : ℕ) (c : Counters) : Type 0 where
  pub inside : i < n
  pub good : Good held store n c.used
  pub live : (leaf_row held i).gone ≡ false
  pub most : c.size ≤ TEXT_MAX

pub ready_live : {held : List HeldLeaf} {store : Text} {n i : ℕ} {c : Counters} → Ready held store n i c → Live held store n i c
ready_live w = record { inside = w.inside; good = w.good; live = w.live; most = w.room.most }

pub node_live : {held : List HeldLeaf} {store : Text} {n i end : ℕ} {c : Counters} → NodeReady held store n i end c → Live held store n i c
node_live w = record { inside = omega (arith, w.inside, w.ends); good = w.good; live = w.live; most = w.most }

pub live_text : (held : List HeldLeaf) (store : Text) (i : ℕ) → (leaf_row held i).gone ≡ false → stored_text held store i ≡ some (text_in held store i)
unfolding stored_text text_in
live_text held store i e = rw e

pub live_length : (held : List HeldLeaf) (i : ℕ) → (leaf_row held i).gone ≡ false → live_len held i ≡ (leaf_row held i).len
unfolding live_len
live_length held i e = rw e

pub text_length_lem : {held : List HeldLeaf} {store : Text} {n used : ℕ} → Good held store n used → (i : ℕ) → i < n → length (text_in held store i) ≡ (leaf_row held i).len
unfolding text_in
text_length_lem {held} {store} g i h = part_length store (leaf_row held i).start (leaf_row held i).len (omega (arith, g.ends i h, g.room))

-- ---- what becomes of a leaf

module _ {held : List HeldLeaf} {store : Text} {n i : ℕ} {c : Counters} (g : Live held store n i c) {F : Effect} (node : Bool) (ρ : Row) (went : ℕ) {report store' : Text} where
  -- nothing
  pub stayed : (F ≡ stays) × SameTo c.used store store' → Changed node F ρ went n i held store report c held store' report c
  stayed (e, k) = record {
    good = kept_good g.good k;
    here = rw e (unfold after in (kept_text g.good k i g.inside ∙ live_text held store i g.live));
    other = λ j h ne. kept_text g.good k j h;
    place = λ j. refl;
    lens = λ j ne. refl;
    held_long = refl;
    report_long = refl;
    paid = λ q. omega arith;
    flat = λ q. omega arith;
    grows = omega arith;
    known = refl;
    known_used = refl;
    rows = omega arith;
    report_most = omega arith;
    size_most = g.most;
    progress = λ sweep ks b k. rw e (unfold changing after_events in k);
  }

  -- a new text
  module _ {came : ℕ} (w : Became F went c store store' came) {held' : List HeldLeaf} {report' : Text} {c' : Counters} (e : ChangePut ρ i went came held report c held' report' c') where
    new_set : TextSet held i c.used (length w.text) held'
    new_set = rw w.long at e.set

    new_used : c'.used ≡ c.used + length w.text
    new_used = rw w.long at e.used

    new_size : c'.size ≡ c.size - went + length w.text
    new_size = rw w.long at e.size

    new_room : c.used + length w.text ≤ length store'
    new_room = rw w.stands.before.long w.stands.room

    new_progress : (sweep : Bool) (ks : List Known) (b : Progress) → Recorded ks report c b → Recorded ks report' c' (after_events sweep (changing ρ went F) b)
    unfolding changing after_events after_event
    new_progress sweep ks b k = record {
      rows = k.rows ++ (ρ ∷ []);
      is = rw (k.is, w.is, le-ltb TEXT_MAX (c.size - went + length w.text) (omega (arith, w.few, w.long)), new_size);
      count = rw (length-append k.rows (ρ ∷ [])) (omega (arith, e.rows, k.count));
      reported = reported_more ρ k.reported e.row;
    }

    pub entered : (node ≡ false → (went ≡ (leaf_row held i).len) × ((leaf_row held i).len ≤ c.size)) → (node ≡ true → came ≤ 2) → Changed node F ρ went n i held store report c held' store' report' c'
    entered one flat = record {
      good = rw new_used (set_good (good_more (kept_good g.good w.stands.before) (omega arith) new_room) new_set (omega arith) (omega arith) new_room);
      here = rw w.is (unfold after in (new_set.here store' g.live ∙ ap some w.stands.here));
      other = λ j h ne. new_set.other_text store' j ne ∙ kept_text g.good w.stands.before j h;
      place = new_set.place;
      lens = λ j ne. lens_kept held held' j (new_set.gone j) (ap (λ (x : HeldLeaf). x.len) (new_set.other j ne));
      held_long = new_set.rows;
      report_long = e.row.long;
      paid = λ q. omega (arith, new_used, new_size, (one q).0, (one q).1);
      flat = λ q. omega (arith, e.used, flat q);
      grows = omega (arith, new_used);
      known = e.known;
      known_used = e.known_used;
      rows = omega (arith, e.rows);
      report_most = e.row_most;
      size_most = omega (arith, e.size, w.few);
      progress = new_progress;
    }

-- "a change leaves the message over 49,152 bytes"
pub overran : {c : Counters} (F : Effect) (ρ : Row) (went : ℕ) (report : Text) → Overran F went c → (sweep : Bool) (ks : List Known) (b : Progress) → Recorded ks report c b → after_events sweep (changing ρ went F) b ≡ stopped MessageTooLong
unfolding changing after_events after_event
overran {c} F ρ went report o sweep ks b k = rw (k.is, o.is, lt-ltb TEXT_MAX (c.size - went + length o.text) o.over)

-- ---- by the answer of `act`

module _ {held : List HeldLeaf} {store : Text} {n i : ℕ} {c : Counters} (g : Ready held store n i c) where
  pub leaf_held : LeafHeld (leaf_row held i).start (leaf_row held i).len c
  leaf_held = record { inside = g.good.ends i g.inside; room = g.room }

  module _ {F : Effect} {store' bytes bytes' : Text} {r : Result (Maybe ℕ) Refusal} (a : ActedBeside F (leaf_row held i).len c store store' bytes bytes' r) where
    pub acted_countable : {k : ℕ} → r ≡ Ok (Some k) → Countable k c
    acted_countable q =
        let few = (rw q at a).out.few in
        record { rows = g.rows; report = g.report; size = g.room.most; used = omega (arith, g.room.room); text = omega (arith, few) }

    module _ (ρ : Row) (report : Text) where
      pub acted_stays : r ≡ Ok None → ActedOn F ρ n i held store report bytes c held store' report bytes' (Ok c)
      acted_stays q = record { change = record { out = stayed (ready_live g) false ρ _ (rw q at a).out }; beside = a.beside }

      pub acted_becomes : {k : ℕ} → r ≡ Ok (Some k) → {held' : List HeldLeaf} {report' : Text} {c' : Counters} → ChangePut ρ i (leaf_row held i).len k held report c held' report' c'
          → ActedOn F ρ n i held store report bytes c held' store' report' bytes' (Ok c')
      acted_becomes q w = record {
        change = record { out = entered (ready_live g) false ρ _ (rw q at a).out w (λ x. (refl, g.room.within)) (λ x. clash (sym x)) };
        beside = a.beside;
      }

      pub acted_long : {x : Refusal} → r ≡ Err x → {held' : List HeldLeaf} {report' : Text} → ActedOn F ρ n i held store report bytes c held' store' report' bytes' (Err x)
      acted_long q = let o = (rw q at a).out in record { change = record { out = rw o.0 (overran F ρ _ report o.1) }; beside = a.beside }
