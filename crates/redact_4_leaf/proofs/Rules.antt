-- Laws of a rule's visit to a leaf, where the rule acts on each leaf. Assumes nothing.
use Rattle.std.proofs.Common.{Result, Ok, Err}
use mathlib.Core.Path.{◌≡◌, refl, sym}
use mathlib.Core.Bool.{Bool, true, false}
use mathlib.Core.List.{List, [], ◌∷◌, ◌++◌}
use mathlib.Core.Option.{some}
use Prim.Native.Nat.{ℕ, suc, ◌+◌, ◌-◌, ◌≤◌}
use native.Mathlib.Omega.{arith}
use lib.ListN.{length}
use Rattle.text.specs.Text.{Text}
use Rattle.text.proofs.Laws.{or_true}
use Rattle.text.proofs.Kept.{same_all}
use Rattle.refusal.specs.declared.Refusal.{Refusal}
use Rattle.refusal.specs.Limits.{LEAVES_MAX}
use Rattle.er7.specs.declared.message.Place.{Place}
use Rattle.er7.specs.declared.separators.Separators.{Separators}
use Rattle.er7_redact.specs.Action.{is_keep}
use Rattle.er7_redact.specs.Policy.{Rule}
use Rattle.message_model.specs.Message.{Leaf, leaf, Label}
use Rattle.run_model.specs.Redact.{covers, reach, each_leaf, is_node, stays, after, act, effect_in, effect, row, Event, changing, learning, texts_at, size, rule_leaf, rule_events}
use Rattle.run_model.proofs.InStep.{keep_is, keep_stays}
use Rattle.er7_table.specs.declared.table.Leaf.{Leaf as HeldLeaf}
use Rattle.er7_table.specs.Table.{leaf_row, list_of, place_at, leaf_at, as_label}
use Rattle.redact_5_act.specs.Known.{GoodKnown}
use Rattle.redact_5_act.specs.declared.state.Setting.{Setting}
use Rattle.redact_5_act.specs.declared.state.Counters.{Counters}
use Rattle.refusal.specs.declared.Refusal.{Refusal}
use Rattle.redact_4_leaf.specs.State.{buffers, text_in, marked, Marked, KnownHeld, LearntTo, Learning, Readable, Ready, ActedOn}
use Rattle.redact_4_leaf.specs.Visit.{rule_pass, said_of, Visit}
use Rattle.redact_4_leaf.specs.declared.leaf.Spot.{Spot}
use Rattle.redact_4_leaf.proofs.Learnt.{learnt_none, learn_keep}
use Rattle.redact_4_leaf.proofs.Acting.{ready_live, live_text, text_length_lem, stayed}
use Rattle.redact_4_leaf.proofs.Visits.{marks_here, marks_other, Seen, seen_visit, seen_full}
use Rattle.redact_5_act.specs.declared.known.Known.{Known as HeldKnown}

-- learning leaves all but what is known
pub learnt_ready : {held : List HeldLeaf} {store : Text} {n i : ℕ} {c : Counters} → Ready held store n i c → {es : List Event} {sweep : Bool} {text bytes bytes' : Text} {known known' : List HeldKnown} {c₁ : Counters}
    → LearntTo es sweep text bytes known c bytes' known' c₁ → Ready held store n i c₁
learnt_ready w l = record {
  inside = w.inside;
  good = rw l.used w.good;
  live = w.live;
  room = record { within = rw l.size w.room.within; most = rw l.size w.room.most; room = rw (l.used, l.size) w.room.room; beside = l.held.good.within };
  rows = rw l.rows w.rows;
  report = rw l.report w.report;
}

-- its text may be learnt
pub ready_readable : {held : List HeldLeaf} {store : Text} {n i : ℕ} {c : Counters} → Ready held store n i c → {bytes : Text} {known : List HeldKnown} → GoodKnown bytes known c.known c.known_used → Readable held bytes known i c
ready_readable {i = i} w k = record {
  row = omega (arith, w.inside, w.good.rows);
  inside = omega (arith, w.good.ends i w.inside, w.room.room, w.room.most);
  short = omega (arith, w.room.within, w.room.most);
  good = k;
}

-- what learning answered
module _ {es : List Event} {sweep : Bool} {text bytes bytes' : Text} {known known' : List HeldKnown} {c : Counters} {r : Result Counters Refusal} (l : Learning es sweep text bytes known c bytes' known' r) where
  pub learnt_going : {c₁ : Counters} → r ≡ Ok c₁ → LearntTo es sweep text bytes known c bytes' known' c₁
  learnt_going e = (rw e at l).out

  pub learnt_stopped : {x : Refusal} → r ≡ Err x → Learning es sweep text bytes known c bytes' known' (Err x)
  learnt_stopped e = rw e at l

-- a rule names, learns and acts on what it covers
module _ (key : ℕ) (s : Separators) (r : Rule) (g : Label) (p : Place) (b : Bool) (t : Text) (xs : List Leaf) (e : covers r g p ≡ true) (q : reach r ≡ each_leaf) where
  covered_leaf : rule_leaf key s r g (leaf p b (some t)) xs ≡ leaf p true (after (act key s r.action t) t)
  unfolding rule_leaf effect effect_in is_node
  covered_leaf = rw (e, q, or_true b)

  covered_says : rule_events key s r g (leaf p b (some t)) xs ≡ learning s r.action (t ∷ []) ++ changing (row g p r.action) (length t) (act key s r.action t)
  unfolding rule_events effect effect_in texts_at size
  covered_says = let z : 1 + length t + 0 - 1 ≡ length t = omega arith in rw (e, q, z)

module _ (on : Setting) (at : Spot) (r : Rule) (text : Text) (named : List Bool) (held : List HeldLeaf) (store bytes : Text) (known : List HeldKnown) (c : Counters)
    (w : Ready held store on.leaves at.index c) (q : reach r ≡ each_leaf) (e : covers r (as_label at.label) (place_at held at.index) ≡ true) where
  rule_said : said_of (rule_pass on.key on.separators r) (as_label at.label) at.end (leaf_at (marked named) held store) at.index
      ≡ learning on.separators r.action (text_in held store at.index ∷ [])
      ++ changing (row (as_label at.label) (place_at held at.index) r.action) (leaf_row held at.index).len (act on.key on.separators r.action (text_in held store at.index))
  unfolding said_of rule_pass leaf_at
  rule_said =
      rw (live_text held store at.index w.live, covered_says on.key on.separators r (as_label at.label) (place_at held at.index) (marked named at.index) (text_in held store at.index) (list_of (leaf_at (marked named) held store) (suc at.index) (at.end - suc at.index)) e q, text_length_lem w.good at.index w.inside)

  rule_leaf_lem : {named' : List Bool} → Marked named at.index named'
      → leaf (place_at held at.index) (marked named' at.index) (after (act on.key on.separators r.action (text_in held store at.index)) (text_in held store at.index))
      ≡ (rule_pass on.key on.separators r).leaf (as_label at.label) (leaf_at (marked named) held store at.index) (list_of (leaf_at (marked named) held store) (suc at.index) (at.end - suc at.index))
  unfolding rule_pass leaf_at
  rule_leaf_lem mk =
      rw (live_text held store at.index w.live, marks_here mk)
      (sym (covered_leaf on.key on.separators r (as_label at.label) (place_at held at.index) (marked named at.index) (text_in held store at.index) (list_of (leaf_at (marked named) held store) (suc at.index) (at.end - suc at.index)) e q))

  module _ (few : on.leaves ≤ LEAVES_MAX) {named' : List Bool} (mk : Marked named at.index named') where
    pub rule_seen : {bytes₁ : Text} {known₁ : List HeldKnown} {c₁ : Counters} → LearntTo (learning on.separators r.action (text_in held store at.index ∷ [])) on.sweep text bytes known c bytes₁ known₁ c₁
        → Seen (λ ks. rule_pass on.key on.separators r) on at text named held store bytes known c named' known₁ c₁ bytes₁ (learning on.separators r.action (text_in held store at.index ∷ []))
        (act on.key on.separators r.action (text_in held store at.index)) (row (as_label at.label) (place_at held at.index) r.action) (leaf_row held at.index).len
    rule_seen l = record { live = ready_live w; few = few; learnt = l; marks = marks_other mk; said = rule_said; leaf = rule_leaf_lem mk }

    -- under keep a leaf is named, and no more
    act_keep : is_keep r.action ≡ true → act on.key on.separators r.action (text_in held store at.index) ≡ stays
    unfolding effect_in
    act_keep k = rw q at (keep_stays on.key on.separators r (place_at held at.index) (text_in held store at.index) [] (keep_is r.action (rw k tt)))

    pub rule_kept : {report : Text} → KnownHeld text bytes known c → is_keep r.action ≡ true
        → Visit (λ ks. rule_pass on.key on.separators r) false on at text (buffers named held store report bytes known) c (buffers named' held store report bytes known) (Ok c)
    rule_kept h k =
        seen_visit (rule_seen (learnt_none _ on.sweep (learn_keep on.separators r.action (text_in held store at.index) on.sweep k) h)) (Ok c)
        (record { out = stayed (ready_live w) false _ _ (act_keep k, same_all) }) same_all (λ c' x y. refl)

    pub rule_acted : {report : Text} {bytes₁ : Text} {known₁ : List HeldKnown} {c₁ : Counters} {x : Result Counters Refusal} → Learning (learning on.separators r.action (text_in held store at.index ∷ [])) on.sweep text bytes known c bytes₁ known₁ x → x ≡ Ok c₁
        → {held' : List HeldLeaf} {store' report' bytes' : Text} (y : Result Counters Refusal)
        → ActedOn (act on.key on.separators r.action (text_in held store at.index)) (row (as_label at.label) (place_at held at.index) r.action) on.leaves at.index held store report bytes₁ c₁ held' store' report' bytes' y
        → Visit (λ ks. rule_pass on.key on.separators r) false on at text (buffers named held store report bytes known) c (buffers named' held' store' report' bytes' known₁) y
    rule_acted l x y d = seen_visit (rule_seen (learnt_going l x)) y d.change d.beside (λ c' u v. refl)

  pub rule_full : {named' : List Bool} {report : Text} {bytes₁ : Text} {known₁ : List HeldKnown} {x : Refusal} {y : Result Counters Refusal} → Learning (learning on.separators r.action (text_in held store at.index ∷ [])) on.sweep text bytes known c bytes₁ known₁ y → y ≡ Err x
      → Visit (λ ks. rule_pass on.key on.separators r) false on at text (buffers named held store report bytes known) c (buffers named' held store report bytes₁ known₁) (Err x)
  rule_full l e = seen_full _ _ rule_said (learnt_stopped l e).out
