-- Laws of a node that collapses at its first leaf. Assumes nothing.
use Rattle.std.proofs.Common.{◌≡◌, ap, Bool, true, false, ◌&&◌, List, ℕ, suc, ◌+◌, ◌-◌, ◌≤◌, eqb, length, arith, Some, None, Result, Ok, Err}
use Rattle.std.proofs.Common.{Option as Maybe}
use Rattle.text.specs.Text.{Text}
use Rattle.text.proofs.Laws.{clash}
use Rattle.text.proofs.Kept.{same_all}
use Rattle.refusal.specs.Limits.{TEXT_MAX}
use Rattle.message_model.specs.Value.{NULL, is_null}
use Rattle.run_model.specs.Redact.{Reach, Event, becomes, collapse, size, Row}
use Rattle.er7_value.proofs.Decoding.{null_length}
use Rattle.er7_table.specs.declared.table.Leaf.{Leaf as HeldLeaf}
use Rattle.er7_table.specs.Table.{leaf_row}
use Rattle.er7_render.specs.Stored.{live_sum}
use Rattle.er7_render.proofs.Sums.{sum_step, sum_parts, sum_each}
use Rattle.redact_5_act.specs.Act.{Acted}
use Rattle.redact_5_act.specs.declared.state.Counters.{Counters}
use Rattle.refusal.specs.declared.Refusal.{Refusal}
use Rattle.redact_4_leaf.specs.State.{text_in, Countable, ChangePut, Learning, NodeReady, Change}
use Rattle.redact_4_leaf.proofs.Acting.{node_live, stayed, entered, overran}
use Rattle.redact_4_leaf.proofs.Rules.{learnt_going}
use Rattle.redact_3_node.specs.Node.{node_end, AllLearnable, live_texts, leaf_size, leaves_size, already}
use Rattle.redact_3_node.proofs.Nodes.{end_low, end_high, size_live, nil_live, leaves_most}
use Rattle.redact_5_act.specs.declared.known.Known.{Known as HeldKnown}

-- ---- whether the node is already one null leaf, and the bytes that go

module _ (held : List HeldLeaf) (store : Text) (i e : ℕ) {rest : ℕ} (q : rest ≡ leaves_size held (i + 1) (e - (i + 1))) where
  pub already_is : {lent : Text} {b : Bool} → lent ≡ text_in held store i → b ≡ is_null lent → b && eqb rest 0 ≡ already held store i e
  unfolding already
  already_is same h =
      let n : i + 1 ≡ suc i = omega arith in
      rw (h, same, q, n, nil_live held store (suc i) (e - suc i))

  pub went_is : {n : ℕ} {c : Counters} → NodeReady held store n i e c → (leaf_row held i).len + rest ≡ size (live_texts held store i (e - i)) - 1
  unfolding leaves_size leaf_size
  went_is g =
      let k : e - i ≡ suc (e - suc i) = omega (arith, g.inside) in
      let n : i + 1 ≡ suc i = omega arith in
      let l : rest ≡ leaves_size held (suc i) (e - suc i) = rw n at q in
      rw (size_live g.good i (e - i) (omega (arith, g.ends, g.inside)), k, g.live) (omega arith)

-- ---- the null in the place of its first leaf

module _ {went : ℕ} {c : Counters} {store store' : Text} {r : Result (Maybe ℕ) Refusal} (a : Acted (becomes NULL) went c store store' r) where
  null_few : {k : ℕ} → r ≡ Ok (Some k) → k ≤ 2
  null_few q = let w = (rw q at a).out in let e : NULL ≡ w.text = cc w.is in omega (arith, w.long, null_length, ap length e)

  module _ {held : List HeldLeaf} {n i end : ℕ} (g : NodeReady held store n i end c) where
    pub null_countable : {k : ℕ} → r ≡ Ok (Some k) → Countable k c
    null_countable q = record { rows = g.rows; report = g.report; size = g.most; used = omega (arith, g.room); text = omega (arith, null_few q) }

    module _ (ρ : Row) (report : Text) where
      pub null_stays : r ≡ Ok None → Change true (becomes NULL) ρ went n i held store report c held store' report (Ok c)
      null_stays q = record { out = stayed (node_live g) true ρ went (rw q at a).out }

      pub null_becomes : {k : ℕ} → r ≡ Ok (Some k) → {held' : List HeldLeaf} {report' : Text} {c' : Counters} → ChangePut ρ i went k held report c held' report' c'
          → Change true (becomes NULL) ρ went n i held store report c held' store' report' (Ok c')
      null_becomes q w = record { out = entered (node_live g) true ρ went (rw q at a).out w (λ x. clash x) (λ x. null_few q) }

      pub null_long : {x : Refusal} → r ≡ Err x → {held' : List HeldLeaf} {report' : Text} → Change true (becomes NULL) ρ went n i held store report c held' store' report' (Err x)
      null_long q = let o = (rw q at a).out in record { out = rw o.0 (overran (becomes NULL) ρ went report o.1) }

-- ---- the node becomes one null leaf, unless it is that already

module _ {held : List HeldLeaf} {store : Text} {n i end : ℕ} {c : Counters} (g : NodeReady held store n i end c) (ρ : Row) (report : Text) where
  pub node_stays : already held store i end ≡ true
      → Change true (collapse true (already held store i end)) ρ (size (live_texts held store i (end - i)) - 1) n i held store report c held store report (Ok c)
  node_stays e = record { out = stayed (node_live g) true ρ _ (unfold collapse in rw e, same_all) }

  pub node_becomes : {went : ℕ} {held' : List HeldLeaf} {store' report' : Text} {r : Result Counters Refusal} → already held store i end ≡ false → went ≡ size (live_texts held store i (end - i)) - 1
      → Change true (becomes NULL) ρ went n i held store report c held' store' report' r
      → Change true (collapse true (already held store i end)) ρ (size (live_texts held store i (end - i)) - 1) n i held store report c held' store' report' r
  unfolding collapse
  node_becomes e q d = rw (e, ← q) d

-- ---- what the parts of a node ask for

pub ready_node : (r : Reach) {held : List HeldLeaf} {store : Text} {n i end e : ℕ} {c : Counters} → NodeReady held store n i end c → e ≡ node_end r held (suc i) (end - suc i)
    → NodeReady held store n i e c
ready_node r {held} {i = i} {end = end} {e = e} g l =
    let h = end_low r held (suc i) (end - suc i) in
    let k = end_high r held (suc i) (end - suc i) in
    record {
      inside = omega (arith, l, h);
      ends = omega (arith, l, k, g.ends, g.inside);
      good = g.good;
      live = g.live;
      texts = omega (arith, sum_parts held i e end (omega (arith, l, h)) (omega (arith, l, k, g.inside)), g.texts);
      most = g.most;
      room = g.room;
      rows = g.rows;
      report = g.report;
    }

pub ready_learnable : {held : List HeldLeaf} {store : Text} {n i end : ℕ} {c : Counters} → NodeReady held store n i end c → AllLearnable held i end
ready_learnable {held} {i = i} {end = end} g = record {
  order = omega (arith, g.inside);
  rows = omega (arith, g.ends, g.good.rows);
  inside = λ j h. omega (arith, g.good.ends j (omega (arith, g.ends)), g.room);
  short = λ j h l. omega (arith, sum_each held i (end - i) j h (omega arith), g.texts);
}

-- what was learnt takes none of it
pub ready_learnt : {held : List HeldLeaf} {store : Text} {n i end : ℕ} {c c' : Counters} {es : List Event} {sweep : Bool} {text bytes bytes' : Text} {known known' : List HeldKnown} {r : Result Counters Refusal}
    → NodeReady held store n i end c → Learning es sweep text bytes known c bytes' known' r → r ≡ Ok c' → NodeReady held store n i end c'
ready_learnt g m e =
    let l = learnt_going m e in
    record {
      inside = g.inside;
      ends = g.ends;
      good = rw l.used g.good;
      live = g.live;
      texts = g.texts;
      most = rw l.size g.most;
      room = rw l.used g.room;
      rows = rw l.rows g.rows;
      report = rw l.report g.report;
    }

-- the leaves behind the first
module _ {held : List HeldLeaf} {store : Text} {n i end : ℕ} {c : Counters} (g : NodeReady held store n i end c) where
  rest_sum : live_sum held (i + 1) (end - (i + 1)) ≤ TEXT_MAX
  rest_sum =
      let m : i + 1 ≡ suc i = omega arith in
      let s = sum_step held i end g.inside in
      rw m (omega (arith, s, g.texts))

  pub rest_ready : (i + 1 ≤ end) × (end ≤ length held) × (live_sum held (i + 1) (end - (i + 1)) ≤ TEXT_MAX)
  rest_ready = (omega (arith, g.inside), omega (arith, g.ends, g.good.rows), rest_sum)

  pub rest_fits : leaves_size held (i + 1) (end - (i + 1)) ≤ TEXT_MAX + length held
  rest_fits = omega (arith, rest_sum, leaves_most held (i + 1) (end - (i + 1)), g.ends, g.good.rows)
