-- Laws of a visit to a leaf. Assumes nothing.
use Rattle.std.proofs.Common.{Result, Ok, Err}
use mathlib.Core.Path.{◌≡◌, refl, sym, ap, ◌∙◌}
use mathlib.Core.Bool.{Bool, true, false}
use mathlib.Core.List.{List, ◌++◌}
use Prim.Native.Nat.{ℕ, suc, ◌-◌, ◌≤◌, ◌<◌}
use native.Mathlib.Omega.{arith}
use lib.Seq.{get_or-set_same, get_or-set_other}
use Rattle.text.specs.Text.{Text, SameTo}
use Rattle.refusal.specs.declared.Refusal.{Refusal}
use Rattle.refusal.specs.Limits.{LEAVES_MAX}
use Rattle.message_model.specs.Message.{leaf}
use Rattle.run_model.specs.Redact.{Effect, after, Row, changing, Event, Known, Progress, stopped, after_events}
use Rattle.er7_table.specs.declared.table.Leaf.{Leaf as HeldLeaf}
use Rattle.er7_table.specs.Table.{list_of, place_at, leaf_at, as_label}
use Rattle.redact_5_act.proofs.Learning.{known_same as rows_same, good_same}
use Rattle.redact_5_act.specs.declared.state.Setting.{Setting}
use Rattle.redact_5_act.specs.declared.state.Counters.{Counters}
use Rattle.refusal.specs.declared.Refusal.{Refusal}
use Rattle.redact_4_leaf.specs.Walk.{Pass}
use Rattle.redact_4_leaf.specs.State.{Buffers, buffers, marked, Marked, text_in, known_now, KnownHeld, Recorded, LearntTo, Changed, Change}
use Rattle.redact_4_leaf.specs.Visit.{said_of, Visited, Visit}
use Rattle.redact_4_leaf.specs.declared.leaf.Spot.{Spot}
use Rattle.redact_4_leaf.proofs.Walks.{progress_append, stopped_stays}
use Rattle.redact_4_leaf.proofs.Acting.{Live, live_length}
use Rattle.redact_5_act.specs.declared.known.Known.{Known as HeldKnown}

-- ---- marks

module _ {named named' : List Bool} {i : ℕ} (w : Marked named i named') where
  pub marks_here : marked named' i ≡ true
  unfolding marked
  marks_here = rw w.is (get_or-set_same named i true false w.inside)

  pub marks_other : (j : ℕ) → (j ≡ i → ⊥) → marked named' j ≡ marked named j
  unfolding marked
  marks_other j ne = rw w.is (get_or-set_other named i j true false ne)

-- ---- what is known, where what stands behind it changed

module _ {text bytes bytes' : Text} {known : List HeldKnown} {c : Counters} (h : KnownHeld text bytes known c) (k : SameTo c.known_used bytes bytes') (c' : Counters) (e : c'.known ≡ c.known) where
  pub known_same : known_now text bytes' known c' ≡ known_now text bytes known c
  unfolding known_now
  known_same = rw e (sym (rows_same h.good k text))

  pub held_same : c'.known_used ≡ c.known_used → KnownHeld text bytes' known c'
  held_same f = record { good = rw (e, f) (good_same h.good k); held = rw e h.held }

-- ---- a leaf that was visited: es is what was learnt from it, F its effect

pub record Seen (P : List Known → Pass) (on : Setting) (at : Spot) (text : Text) (named : List Bool) (held : List HeldLeaf) (store bytes : Text) (known : List HeldKnown) (c : Counters)
    (named' : List Bool) (known' : List HeldKnown) (c₁ : Counters) (bytes₁ : Text) (es : List Event) (F : Effect) (ρ : Row) (went : ℕ) : Type 0 where
  pub live : Live held store on.leaves at.index c
  pub few : on.leaves ≤ LEAVES_MAX
  pub learnt : LearntTo es on.sweep text bytes known c bytes₁ known' c₁
  pub marks : (j : ℕ) → (j ≡ at.index → ⊥) → marked named' j ≡ marked named j
  pub said : said_of (P (known_now text bytes known c)) (as_label at.label) at.end (leaf_at (marked named) held store) at.index ≡ es ++ changing ρ went F
  pub leaf : leaf (place_at held at.index) (marked named' at.index) (after F (text_in held store at.index))
      ≡ (P (known_now text bytes known c)).leaf (as_label at.label) (leaf_at (marked named) held store at.index) (list_of (leaf_at (marked named) held store) (suc at.index) (at.end - suc at.index))

module _ {P : List Known → Pass} {on : Setting} {at : Spot} {text : Text} {named : List Bool} {held : List HeldLeaf} {store bytes : Text} {known : List HeldKnown} {c : Counters}
    {named' : List Bool} {known' : List HeldKnown} {c₁ : Counters} {bytes₁ : Text} {es : List Event} {F : Effect} {ρ : Row} {went : ℕ}
    (w : Seen P on at text named held store bytes known c named' known' c₁ bytes₁ es F ρ went) where
  module _ {node : Bool} {held' : List HeldLeaf} {report store' report' bytes' : Text} {c' : Counters} (d : Changed node F ρ went on.leaves at.index held store report c₁ held' store' report' c') (k : SameTo c₁.known_used bytes₁ bytes') where
    seen_here : leaf_at (marked named') held' store' at.index ≡ (P (known_now text bytes known c)).leaf (as_label at.label) (leaf_at (marked named) held store at.index) (list_of (leaf_at (marked named) held store) (suc at.index) (at.end - suc at.index))
    seen_here = unfold leaf_at in (rw (d.place at.index, d.here) w.leaf)

    seen_other : (j : ℕ) → j < on.leaves → (j ≡ at.index → ⊥) → leaf_at (marked named') held' store' j ≡ leaf_at (marked named) held store j
    unfolding leaf_at
    seen_other j h ne = rw (d.place j, d.other j h ne, w.marks j ne)

    seen_progress : (b : Progress) → Recorded (known_now text bytes known c) report c b
        → Recorded (known_now text bytes' known' c') report' c' (after_events on.sweep (said_of (P (known_now text bytes known c)) (as_label at.label) at.end (leaf_at (marked named) held store) at.index) b)
    seen_progress b x =
        rw (w.said, known_same w.learnt.held k c' d.known, progress_append on.sweep es (changing ρ went F) b)
        (d.progress on.sweep (known_now text bytes₁ known' c₁) _ (w.learnt.progress report b x))

    pub seen_visited : P (known_now text bytes' known' c') ≡ P (known_now text bytes known c)
        → Visited P node on at text (buffers named held store report bytes known) c (buffers named' held' store' report' bytes' known') c'
    seen_visited p = record {
      held = record { good = d.good; known = held_same w.learnt.held k c' d.known d.known_used; marks = w.few };
      here = seen_here;
      other = seen_other;
      lens = d.lens;
      kept = record { place = d.place; rows = d.held_long; report = d.report_long };
      paid = λ x. rw (live_length held at.index w.live.live) (omega (arith, d.paid x, w.learnt.size, w.learnt.used));
      flat = λ x. omega (arith, d.flat x, w.learnt.used);
      grows = omega (arith, d.grows, w.learnt.used);
      rows = omega (arith, d.rows, w.learnt.rows);
      report_most = omega (arith, d.report_most, w.learnt.report);
      size_most = d.size_most;
      pass = p;
      progress = seen_progress;
    }

  -- the run was refused there
  pub seen_stopped : (report : Text) {x : Refusal} → ((sweep : Bool) (ks : List Known) (b : Progress) → Recorded ks report c₁ b → after_events sweep (changing ρ went F) b ≡ stopped x)
      → (b : Progress) → Recorded (known_now text bytes known c) report c b
      → after_events on.sweep (said_of (P (known_now text bytes known c)) (as_label at.label) at.end (leaf_at (marked named) held store) at.index) b ≡ stopped x
  seen_stopped report f b x =
      rw (w.said, progress_append on.sweep es (changing ρ went F) b)
      (f on.sweep (known_now text bytes₁ known' c₁) _ (w.learnt.progress report b x))

  -- by the answer
  pub seen_visit : {node : Bool} {held' : List HeldLeaf} {report store' report' bytes' : Text} (r : Result Counters Refusal) → Change node F ρ went on.leaves at.index held store report c₁ held' store' report' r → SameTo c₁.known_used bytes₁ bytes'
      → ((c' : Counters) → r ≡ Ok c' → c'.known ≡ c₁.known → P (known_now text bytes' known' c') ≡ P (known_now text bytes known c))
      → Visit P node on at text (buffers named held store report bytes known) c (buffers named' held' store' report' bytes' known') r
  seen_visit (Ok c') d k p = record { out = seen_visited d.out k (p c' refl d.out.known) }
  seen_visit {report = report} (Err x) d k p = record { out = seen_stopped report d.out }

-- learning alone refused it
pub seen_full : {P : List Known → Pass} {node : Bool} {on : Setting} {at : Spot} {text : Text} {named : List Bool} {held : List HeldLeaf} {store report bytes : Text} {known : List HeldKnown} {c : Counters} {β' : Buffers} (es fs : List Event) {x : Refusal}
    → said_of (P (known_now text bytes known c)) (as_label at.label) at.end (leaf_at (marked named) held store) at.index ≡ es ++ fs
    → ((report : Text) (b : Progress) → Recorded (known_now text bytes known c) report c b → after_events on.sweep es b ≡ stopped x)
    → Visit P node on at text (buffers named held store report bytes known) c β' (Err x)
seen_full {on = on} {report = report} es fs {x} e f = record {
  out = λ b k. rw (e, progress_append on.sweep es fs b) (ap (after_events on.sweep fs) (f report b k) ∙ stopped_stays on.sweep fs x);
}
