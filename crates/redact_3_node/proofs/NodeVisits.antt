-- Laws of a visit to a leaf in the pass of a rule that collapses nodes. Assumes nothing.
use Rattle.std.proofs.Common.{◌≡◌, refl, sym, ap, Bool, true, false, ◌&&◌, List, [], ◌∷◌, ◌++◌, ℕ, suc, ◌-◌, ◌≤◌, ◌<◌, arith, Result, Ok, Err}
use Rattle.std.proofs.Math.Option.{none, some}
use Rattle.text.specs.Text.{Text}
use Rattle.text.proofs.Laws.{clash, or_id}
use Rattle.text.proofs.Kept.{same_all}
use Rattle.er7.specs.declared.message.Place.{Place}
use Rattle.er7.specs.declared.separators.Separators.{Separators}
use Rattle.er7_redact.specs.Policy.{Rule}
use Rattle.refusal.specs.declared.Refusal.{Refusal}
use Rattle.refusal.specs.Limits.{LEAVES_MAX}
use Rattle.message_model.specs.Message.{Leaf, leaf, Label}
use Rattle.message_model.specs.Value.{is_null}
use Rattle.run_model.specs.Redact.{Reach, each_leaf, each_node, Depth, reach, is_node, covers, starts, rest_of_node, is_nil, after, collapse, effect_in, effect, rule_leaf, rule_events, learning, changing, texts_at, size, row, after_events}
use Rattle.er7_table.specs.declared.table.Leaf.{Leaf as HeldLeaf}
use Rattle.er7_table.specs.Table.{leaf_row, list_of, place_at, leaf_at, as_label}
use Rattle.er7_render.specs.Stored.{Vanished}
use Rattle.er7_render.proofs.Slots.{gone_good}
use Rattle.er7_render.proofs.Sums.{lens_kept}
use Rattle.redact_6_row.specs.Reach.{starts_at}
use Rattle.redact_5_act.specs.declared.state.Setting.{Setting}
use Rattle.redact_5_act.specs.declared.state.Counters.{Counters}
use Rattle.refusal.specs.declared.Refusal.{Refusal}
use Rattle.redact_4_leaf.specs.State.{buffers, text_in, marked, KnownHeld, Learning, NodeReady, Change}
use Rattle.redact_4_leaf.specs.Visit.{rule_pass, said_of, Visit}
use Rattle.redact_4_leaf.specs.declared.leaf.Spot.{Spot}
use Rattle.redact_4_leaf.proofs.Acting.{live_text, node_live}
use Rattle.redact_4_leaf.proofs.Rules.{learnt_going, learnt_stopped}
use Rattle.redact_4_leaf.proofs.Visits.{seen_visit, seen_full}
use Rattle.redact_3_node.specs.Node.{node_end, live_texts, already}
use Rattle.redact_3_node.proofs.Nodes.{rest_live, end_low, live_here}
use Rattle.redact_5_act.specs.declared.known.Known.{Known as HeldKnown}

-- ---- what the rule does to a leaf and says of it

module _ (key : ℕ) (s : Separators) (r : Rule) (g : Label) (d : Depth) (q : each_node d ≡ reach r) (p : Place) (b : Bool) (t : Text) (xs : List Leaf) (e : covers r g p ≡ true) where
  -- of a node's leaves the others vanish
  inner_leaf : starts d p ≡ false → rule_leaf key s r g (leaf p b (some t)) xs ≡ leaf p b none
  unfolding rule_leaf effect effect_in is_node collapse after
  inner_leaf h = rw (e, ← q, h, or_id b)

  inner_says : starts d p ≡ false → rule_events key s r g (leaf p b (some t)) xs ≡ []
  unfolding rule_events effect effect_in texts_at collapse changing learning
  inner_says h = rw (e, ← q, h)

  -- and the first one collapses
  first_leaf_lem : starts d p ≡ true → rule_leaf key s r g (leaf p b (some t)) xs ≡ leaf p b (after (collapse true (is_null t && is_nil (rest_of_node d xs))) t)
  unfolding rule_leaf effect effect_in is_node
  first_leaf_lem h = rw (e, ← q, h, or_id b)

  first_says : starts d p ≡ true → rule_events key s r g (leaf p b (some t)) xs
      ≡ learning s r.action (t ∷ rest_of_node d xs)
      ++ changing (row g p r.action) (size (t ∷ rest_of_node d xs) - 1) (collapse true (is_null t && is_nil (rest_of_node d xs)))
  unfolding rule_events effect effect_in texts_at
  first_says h = rw (e, ← q, h)

-- the leaves behind leaf i
abbrev behind : List Bool → List HeldLeaf → Text → ℕ → ℕ → List Leaf
behind named held store end i = list_of (leaf_at (marked named) held store) (suc i) (end - suc i)

-- ---- a leaf that vanishes

module _ (on : Setting) (at : Spot) (r : Rule) (text : Text) (named : List Bool) (held : List HeldLeaf) (store report bytes : Text) (known : List HeldKnown) (c : Counters)
    (w : NodeReady held store on.leaves at.index at.end c) (few : on.leaves ≤ LEAVES_MAX) (k : KnownHeld text bytes known c) (e : covers r (as_label at.label) (place_at held at.index) ≡ true) where
  pub visit_inner : (R : Reach) → R ≡ reach r → is_node R ≡ true → starts_at R (place_at held at.index) ≡ false → {held' : List HeldLeaf} → Vanished held at.index held'
      → Visit (λ ks. rule_pass on.key on.separators r) true on at text (buffers named held store report bytes known) c (buffers named held' store report bytes known) (Ok c)
  unfolding is_node starts_at
  visit_inner each_leaf q o h v = clash (sym o)
  visit_inner (each_node t) q o h {held'} v = record {
    out = record {
      held = record { good = gone_good w.good v; known = k; marks = few };
      here = here;
      other = λ j l ne. v.other_leaf (marked named) store j ne;
      lens = λ j ne. lens_kept held held' j (ap (λ (x : HeldLeaf). x.gone) (v.other j ne)) (ap (λ (x : HeldLeaf). x.len) (v.other j ne));
      kept = record { place = v.place; rows = v.rows; report = refl };
      paid = λ f. clash f;
      flat = λ f. omega arith;
      grows = omega arith;
      rows = omega arith;
      report_most = omega arith;
      size_most = w.most;
      pass = refl;
      progress = λ b z. rw says (unfold after_events in z);
    };
  }
    where
      here : leaf_at (marked named) held' store at.index
          ≡ (rule_pass on.key on.separators r).leaf (as_label at.label) (leaf_at (marked named) held store at.index) (behind named held store at.end at.index)
      here = unfold rule_pass leaf_at in rw (v.place at.index, v.here store, live_text held store at.index w.live) (sym (inner_leaf on.key on.separators r (as_label at.label) t q (place_at held at.index) (marked named at.index) (text_in held store at.index) (behind named held store at.end at.index) e h))

      says : said_of (rule_pass on.key on.separators r) (as_label at.label) at.end (leaf_at (marked named) held store) at.index ≡ []
      says = unfold rule_pass said_of leaf_at in rw (live_text held store at.index w.live) (inner_says on.key on.separators r (as_label at.label) t q (place_at held at.index) (marked named at.index) (text_in held store at.index) (behind named held store at.end at.index) e h)

-- ---- a node's first leaf

-- the node's texts, which end before leaf e
node_texts : (t : Depth) (named : List Bool) (held : List HeldLeaf) (store : Text) (end i : ℕ) {e : ℕ} → e ≡ node_end (each_node t) held (suc i) (end - suc i)
    → rest_of_node t (behind named held store end i) ≡ live_texts held store (suc i) (e - suc i)
node_texts t named held store end i h = rw h (rest_live t (marked named) held store (suc i) (end - suc i))

all_texts : (held : List HeldLeaf) (store : Text) (i e : ℕ) → i < e → (leaf_row held i).gone ≡ false → text_in held store i ∷ live_texts held store (suc i) (e - suc i) ≡ live_texts held store i (e - i)
all_texts held store i e h live = let n : e - i ≡ suc (e - suc i) = omega arith in rw n (sym (live_here held store i (e - suc i) live))

module _ (key : ℕ) (s : Separators) (r : Rule) (g : Label) (end i : ℕ) (named : List Bool) (held : List HeldLeaf) (store : Text)
    (t : Depth) (q : each_node t ≡ reach r) (live : (leaf_row held i).gone ≡ false) (o : covers r g (place_at held i) ≡ true) (h : starts t (place_at held i) ≡ true)
    {e : ℕ} (l : e ≡ node_end (each_node t) held (suc i) (end - suc i)) where
  later : i < e
  later = omega (arith, l, end_low (each_node t) held (suc i) (end - suc i))

  first_is : (rule_pass key s r).leaf g (leaf_at (marked named) held store i) (behind named held store end i)
      ≡ leaf (place_at held i) (marked named i) (after (collapse true (already held store i e)) (text_in held store i))
  unfolding rule_pass leaf_at already
  first_is =
      rw (live_text held store i live, ← node_texts t named held store end i l)
      (first_leaf_lem key s r g t q (place_at held i) (marked named i) (text_in held store i) (behind named held store end i) o h)

  first_said : said_of (rule_pass key s r) g end (leaf_at (marked named) held store) i
      ≡ learning s r.action (live_texts held store i (e - i))
      ++ changing (row g (place_at held i) r.action) (size (live_texts held store i (e - i)) - 1) (collapse true (already held store i e))
  unfolding rule_pass said_of leaf_at already
  first_said =
      rw (live_text held store i live, ← all_texts held store i e later live, ← node_texts t named held store end i l)
      (first_says key s r g t q (place_at held i) (marked named i) (text_in held store i) (behind named held store end i) o h)

module _ (on : Setting) (at : Spot) (r : Rule) (text : Text) (named : List Bool) (held : List HeldLeaf) (store report bytes : Text) (known : List HeldKnown) (c : Counters)
    (w : NodeReady held store on.leaves at.index at.end c) (few : on.leaves ≤ LEAVES_MAX) (o : covers r (as_label at.label) (place_at held at.index) ≡ true) {e : ℕ} where
  -- by what learning answered
  pub node_full : (R : Reach) → R ≡ reach r → is_node R ≡ true → starts_at R (place_at held at.index) ≡ true → e ≡ node_end R held (suc at.index) (at.end - suc at.index)
      → {bytes' : Text} {known' : List HeldKnown} {x : Result Counters Refusal} {f : Refusal} → Learning (learning on.separators r.action (live_texts held store at.index (e - at.index))) on.sweep text bytes known c bytes' known' x → x ≡ Err f
      → Visit (λ ks. rule_pass on.key on.separators r) true on at text (buffers named held store report bytes known) c (buffers named held store report bytes' known') (Err f)
  unfolding is_node starts_at
  node_full each_leaf q i h l m y = clash (sym i)
  node_full (each_node t) q i h l m y = seen_full _ _ (first_said on.key on.separators r (as_label at.label) at.end at.index named held store t q w.live o h l) (learnt_stopped m y).out

  pub node_done : (R : Reach) → R ≡ reach r → is_node R ≡ true → starts_at R (place_at held at.index) ≡ true → e ≡ node_end R held (suc at.index) (at.end - suc at.index)
      → {bytes' : Text} {known' : List HeldKnown} {c₁ : Counters} {x : Result Counters Refusal} → Learning (learning on.separators r.action (live_texts held store at.index (e - at.index))) on.sweep text bytes known c bytes' known' x → x ≡ Ok c₁
      → {held' : List HeldLeaf} {store' report' : Text} (y : Result Counters Refusal)
      → Change true (collapse true (already held store at.index e)) (row (as_label at.label) (place_at held at.index) r.action) (size (live_texts held store at.index (e - at.index)) - 1) on.leaves at.index held store report c₁ held' store' report' y
      → Visit (λ ks. rule_pass on.key on.separators r) true on at text (buffers named held store report bytes known) c (buffers named held' store' report' bytes' known') y
  unfolding is_node starts_at
  node_done each_leaf q i h l m y z d = clash (sym i)
  node_done (each_node t) q i h l m y z d = seen_visit (record {
    live = node_live w;
    few = few;
    learnt = learnt_going m y;
    marks = λ j ne. refl;
    said = first_said on.key on.separators r (as_label at.label) at.end at.index named held store t q w.live o h l;
    leaf = sym (first_is on.key on.separators r (as_label at.label) at.end at.index named held store t q w.live o h l);
  }) z d same_all (λ c' u v. refl)
