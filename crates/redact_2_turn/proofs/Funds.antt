-- Laws of the room that a pass needs. Assumes nothing.
use mathlib.Core.Path.{◌≡◌}
use mathlib.Core.Bool.{Bool, true, false}
use mathlib.Core.List.{List}
use Prim.Native.Nat.{ℕ, suc, ◌+◌, ◌-◌, ◌≤◌, ◌<◌}
use native.Mathlib.Omega.{arith}
use Rattle.text.specs.Text.{Text}
use Rattle.er7_table.specs.declared.table.Leaf.{Leaf as HeldLeaf}
use Rattle.er7_table.specs.Table.{leaf_row}
use Rattle.er7_render.specs.Stored.{live_len}
use Rattle.er7_render.proofs.Sums.{sum_same, sum_step, sum_parts}
use Rattle.redact_5_act.specs.declared.state.Counters.{Counters}
use Rattle.redact_4_leaf.specs.State.{Buffers, Held, Ready, NodeReady, RoomLeft}
use Rattle.redact_4_leaf.proofs.Acting.{live_length}
use Rattle.refusal.specs.Limits.{TEXT_MAX}

-- ---- before a leaf

module _ {node : Bool} {text : Text} {n i : ℕ} {β : Buffers} {c : Counters} (h : Held text n β c) (f : RoomLeft node β.held i n c) where
  pub room_left_ready : node ≡ false → i < n → (leaf_row β.held i).gone ≡ false → Ready β.held β.store n i c
  room_left_ready e l q =
      let s = sum_step β.held i n l in
      let v = live_length β.held i q in
      record {
        inside = l;
        good = h.good;
        live = q;
        room = record { within = omega (arith, s, v, f.within e); most = f.most; room = omega (arith, s, v, f.sum e); beside = h.known.good.within };
        rows = omega (arith, f.few);
        report = omega (arith, f.report);
      }

  pub room_left_node : node ≡ true → {end : ℕ} → i < end → end ≤ n → (leaf_row β.held i).gone ≡ false → NodeReady β.held β.store n i end c
  room_left_node e {end} l k q = record {
    inside = l;
    ends = k;
    good = h.good;
    live = q;
    texts = omega (arith, sum_parts β.held i end n (omega arith) k, f.texts);
    most = f.most;
    room = omega (arith, f.flat e);
    rows = omega (arith, f.few);
    report = omega (arith, f.report);
  }

module _ {node : Bool} {held : List HeldLeaf} {i n : ℕ} {c : Counters} (f : RoomLeft node held i n c) where
  -- behind a leaf whose length may have changed
  pub room_left_more : i < n → {held' : List HeldLeaf} {c' : Counters} → ((j : ℕ) → (j ≡ i → ⊥) → live_len held' j ≡ live_len held j)
      → (node ≡ false → c'.used + c.size ≤ c.used + c'.size + live_len held i) → (node ≡ true → c'.used ≤ c.used + 2) → c.used ≤ c'.used
      → c'.size ≤ TEXT_MAX → c'.rows ≤ c.rows + 1 → c'.report_len ≤ c.report_len + 65536 → RoomLeft node held' (suc i) n c'
  room_left_more h {held'} lens paid flat grows most rows report =
      let s = sum_same held held' (suc i) (n - suc i) (λ j l b. lens j (λ e. omega arith)) in
      record {
        sum = λ e. omega (arith, sum_step held i n h, s, paid e, f.sum e);
        flat = λ e. omega (arith, flat e, f.flat e);
        within = λ e. omega (arith, sum_step held i n h, s, paid e, grows, f.within e);
        texts = omega (arith, sum_step held i n h, s, f.texts);
        most = most;
        few = omega (arith, rows, f.few);
        report = omega (arith, report, f.report);
      }

  -- further on, where nothing was done
  pub room_left_skip : {j : ℕ} → i ≤ j → j ≤ n → RoomLeft node held j n c
  room_left_skip {j} h l =
      let s = sum_parts held i j n h l in
      record {
        sum = λ e. omega (arith, s, f.sum e);
        flat = λ e. omega (arith, f.flat e);
        within = λ e. omega (arith, s, f.within e);
        texts = omega (arith, s, f.texts);
        most = f.most;
        few = omega (arith, f.few);
        report = omega (arith, f.report);
      }
