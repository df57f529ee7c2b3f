-- Laws of a turn for which room was made in the store. Assumes nothing.
use Rattle.std.proofs.Common.{Result, Ok, Err}
use mathlib.Core.Path.{◌≡◌, refl, sym, ap, ◌∙◌}
use mathlib.Core.Bool.{Bool}
use mathlib.Core.List.{List, [], ◌∷◌}
use mathlib.Core.Option.{Option, none, some}
use Prim.Native.Nat.{ℕ, zero, suc, ◌+◌, ◌-◌, ◌≤◌, ◌<◌, ◌^◌}
use native.Mathlib.Omega.{arith}
use lib.ListN.{length, length-append}
use Rattle.text.specs.Text.{Text}
use Rattle.refusal.specs.declared.Refusal.{Refusal}
use Rattle.refusal.specs.Limits.{LEAVES_MAX, TEXT_MAX}
use Rattle.er7.specs.declared.separators.Separators.{Separators}
use Rattle.message_model.specs.Message.{Leaf, Label, Segment, segment, lead, print_leaves, print_segments}
use Rattle.run_model.specs.Redact.{Known, Progress}
use Rattle.run_model.proofs.Sizes.{text_size, leaf_size, leaf_size_lem}
use Rattle.er7_table.specs.declared.table.Leaf.{Leaf as HeldLeaf}
use Rattle.er7_table.specs.declared.table.Segment.{Segment as HeldSegment}
use Rattle.er7_table.specs.Table.{list_of, place_at, stored_text, leaf_at, first_leaf, label_at, Good, Segmented}
use Rattle.er7_table.proofs.Laws.{list_ext}
use Rattle.er7_render.specs.Stored.{live_len, live_sum, RoomMade}
use Rattle.er7_render.proofs.Sums.{sum_parts}
use Rattle.er7_render.proofs.Room.{text_long, live_text, room_sum}
use Rattle.redact_4_leaf.specs.Walk.{Pass, segment_of}
use Rattle.redact_5_act.specs.declared.state.Setting.{Setting}
use Rattle.redact_5_act.specs.declared.state.Counters.{Counters}
use Rattle.refusal.specs.declared.Refusal.{Refusal}
use Rattle.redact_4_leaf.specs.State.{Buffers, buffers, marked, known_now, RecordedIn, Held, RoomLeft}
use Rattle.redact_4_leaf.proofs.Visits.{known_same, held_same}
use Rattle.redact_2_turn.specs.Ordered.{AllOrdered}
use Rattle.redact_2_turn.specs.Taken.{Ahead, TurnTaken}
use Rattle.redact_2_turn.specs.Turn.{by_node}
use Rattle.redact_2_turn.specs.declared.turn.Job.{Job}
use Rattle.redact_2_turn.proofs.Idle.{ordered_as}
use Rattle.redact_1_run.specs.Stage.{TurnReady, RoomFor, MadeRoom}
use Rattle.redact_5_act.specs.declared.known.Known.{Known as HeldKnown}

-- ---- what room is good for

module _ {n : ℕ} {held : List HeldLeaf} {store bytes : Text} {from : ℕ} {held' : List HeldLeaf} {store' bytes' : Text} {r : ℕ}
    (w : RoomMade n held store bytes from held' store' bytes' r) where
  -- a turn may begin
  pub made_room_left : (c : Counters) → c.used ≡ r → live_sum held 0 n ≤ c.size → c.size ≤ TEXT_MAX → n ≤ LEAVES_MAX → c.rows ≤ 2 ^ 30 → c.report_len ≤ 2 ^ 46
      → (node : Bool) → RoomLeft node held' 0 n c
  made_room_left c q sum most few rows report node =
      let z : n - 0 ≡ n = omega arith in
      let s : live_sum held' 0 (n - 0) ≤ c.size = rw (z, room_sum w) sum in
      record {
        sum = λ e. omega (arith, s, w.ample);
        flat = λ e. omega (arith, w.ample);
        within = λ e. omega (arith, s);
        texts = omega (arith, s);
        most = omega arith;
        few = omega arith;
        report = omega arith;
      }

  -- the segments are as they were
  pub room_segments : (labels : ℕ → Label) (firsts : ℕ → ℕ) (m : ℕ) → ((i j : ℕ) → i ≤ j → j ≤ m → firsts i ≤ firsts j) → firsts m ≡ n → (named : ℕ → Bool)
      → list_of (segment_of labels firsts (leaf_at named held' store')) 0 m ≡ list_of (segment_of labels firsts (leaf_at named held store)) 0 m
  unfolding segment_of
  room_segments labels firsts m up all named =
      list_ext (segment_of labels firsts (leaf_at named held' store')) (segment_of labels firsts (leaf_at named held store)) 0 m (λ k a b.
      ap (segment (labels k)) (list_ext (leaf_at named held' store') (leaf_at named held store) (firsts k) (firsts (suc k) - firsts k) (λ i x y.
      w.leaf named i (omega (arith, up k (suc k) (omega arith) (omega arith), up (suc k) m (omega arith) (omega arith), all)))))

-- ---- the texts of the leaves are no longer than the message as it prints

text_size_lem : (o : Option Text) → text_long o ≡ text_size 0 o
text_size_lem none = refl
text_size_lem (some t) = omega arith

text_most : (k : ℕ) (o : Option Text) → text_size 0 o ≤ text_size k o
text_most k none = omega arith
text_most k (some t) = omega arith

-- a segment's leaves print beside what follows it
segment_size : (s : Separators) (cr : Bool) (g : Label) (xs : List Leaf) (ss : List Segment)
    → length (print_leaves s g xs) + length (print_segments s cr ss) ≤ length (print_segments s cr (segment g xs ∷ ss))
unfolding print_segments
segment_size s cr g xs [] = simp length-append (omega arith)
segment_size s cr g xs (z ∷ ss) = simp length-append (omega arith)

module _ (s : Separators) (cr : Bool) (named : ℕ → Bool) {held : List HeldLeaf} {store : Text} {n used : ℕ} (good : Good held store n used) where
  leaf_live : (g : Label) (i : ℕ) → i < n → live_len held i ≤ leaf_size s g (leaf_at named held store i)
  unfolding leaf_at
  leaf_live g i h = rw (live_text good i h, text_size_lem (stored_text held store i)) (text_most (length (lead s g (place_at held i))) (stored_text held store i))

  leaves_live : (g : Label) (i k : ℕ) → i + k ≤ n → live_sum held i k ≤ length (print_leaves s g (list_of (leaf_at named held store) i k))
  unfolding live_sum list_of
  leaves_live g i zero h = omega arith
  leaves_live g i (suc k) h =
      rw (leaf_size_lem s g (leaf_at named held store i) (list_of (leaf_at named held store) (suc i) k))
      (omega (arith, leaf_live g i (omega arith), leaves_live g (suc i) k (omega arith)))

  module _ (labels : ℕ → Label) (firsts : ℕ → ℕ) (m : ℕ) (up : (i j : ℕ) → i ≤ j → j ≤ m → firsts i ≤ firsts j) (all : firsts m ≡ n) where
    segments_live : (k j : ℕ) → k + j ≡ m → live_sum held (firsts k) (n - firsts k) ≤ length (print_segments s cr (list_of (segment_of labels firsts (leaf_at named held store)) k j))
    unfolding list_of segment_of
    segments_live k zero e =
        let q : k ≡ m = omega arith in
        let z : n - n ≡ 0 = omega arith in
        rw (q, all, z) (unfold live_sum in omega arith)
    segments_live k (suc j) e =
        let a = up k (suc k) (omega arith) (omega arith) in
        let b = up (suc k) m (omega arith) (omega arith) in
        let p = sum_parts held (firsts k) (firsts (suc k)) n a (omega (arith, b, all)) in
        omega (
          arith,
          p,
          leaves_live (labels k) (firsts k) (firsts (suc k) - firsts k) (omega (arith, a, b, all)),
          segments_live (suc k) j (omega arith),
          segment_size s cr (labels k) (list_of (leaf_at named held store) (firsts k) (firsts (suc k) - firsts k)) (list_of (segment_of labels firsts (leaf_at named held store)) (suc k) j),
        )

    pub live_printed : firsts 0 ≡ 0 → live_sum held 0 n ≤ length (print_segments s cr (list_of (segment_of labels firsts (leaf_at named held store)) 0 m))
    live_printed e =
        let z : n - 0 ≡ n = omega arith in
        rw (e, z) at (segments_live 0 m (omega arith))

-- ---- a turn behind it

module _ (text : Text) (on : Setting) (named : List Bool) (report : Text) (known : List HeldKnown) {held held' : List HeldLeaf} {store store' bytes bytes' : Text} {c c' : Counters}
    (w : MadeRoom on.leaves held store bytes c held' store' bytes' c') (h : Held text on.leaves (buffers named held store report bytes known) c) where
  abbrev before : Buffers
  before = buffers named held store report bytes known

  abbrev behind : Buffers
  behind = buffers named held' store' report bytes' known

  same_knowing : known_now text bytes' known c' ≡ known_now text bytes known c
  same_knowing = known_same h.known w.room.beside c' w.known

  room_held : Held text on.leaves behind c'
  room_held = record { good = w.room.good; known = held_same h.known w.room.beside c' w.known w.known_used; marks = h.marks }

  room_recorded : (b : Progress) → RecordedIn text before c b → RecordedIn text behind c' b
  room_recorded b k = record {
    rows = k.rows;
    is = rw (same_knowing, w.size) k.is;
    count = w.rows ∙ k.count;
    reported = rw w.report k.reported;
  }

  module _ (P : List Known → Pass) (segs : List HeldSegment) (z : Segmented segs on.segments on.leaves) (β : Buffers) where
    same_pass : P (known_now text bytes' known c') ≡ P (known_now text bytes known c)
    same_pass = ap P same_knowing

    pub room_turned : (r : Result Counters Refusal) → TurnTaken P on segs text behind c' β r → TurnTaken P on segs text before c β r
    room_turned (Ok x) t =
        let q = room_segments w.room (label_at segs) (first_leaf segs) on.segments z.order z.all (marked named) in
        record {
          out = record {
            advanced = λ b k.
                let a = rw same_pass at (t.out.advanced b (room_recorded b k)) in
                record { progress = a.progress; stands = a.stands; all = record { here = a.all.here ∙ rw q; progress = sym (rw q) ∙ a.all.progress } };
            held = t.out.held;
            kept = record { place = λ j. t.out.kept.place j ∙ w.room.place j; rows = t.out.kept.rows ∙ w.room.rows; report = t.out.kept.report };
            more = record { rows = omega (arith, t.out.more.rows, w.rows); report = omega (arith, t.out.more.report, w.report) };
            most = t.out.most;
          };
        }
    room_turned (Err e) t =
        let q = room_segments w.room (label_at segs) (first_leaf segs) on.segments z.order z.all (marked named) in
        record { out = λ b k. sym (rw (q, same_pass)) ∙ t.out b (room_recorded b k) }

-- the fields are in order behind it, too
pub room_ordered : {segs : List HeldSegment} {m n : ℕ} {held held' : List HeldLeaf} {store store' bytes bytes' : Text} {c c' : Counters} → Segmented segs m n → MadeRoom n held store bytes c held' store' bytes' c'
    → AllOrdered segs held m → AllOrdered segs held' m
room_ordered {segs} {m} {n} {held} {held'} {store} {store'} z w a = record {
  ordered = λ k h.
      ordered_as (buffers [] held store [] [] []) (buffers [] held' store' [] [] [])
      (λ j x y. w.room.leaf (marked []) j (omega (arith, z.order (k + 1) m (omega arith) (omega arith), z.all))) (a.ordered k h);
}

-- ---- what a turn asks for

module _ {text : Text} {segs : List HeldSegment} {on : Setting} {β : Buffers} {c : Counters} (p : TurnReady text segs on β c) where
  pub turn_ready_room : RoomFor on.leaves β.held β.store c
  turn_ready_room = record { good = p.held.good; live = omega (arith, p.live, p.most); beside = p.held.known.good.within }

  -- the room that a turn asks for
  ready_room_left : on.leaves ≤ LEAVES_MAX → {held' : List HeldLeaf} {store' bytes' : Text} {c' : Counters} → MadeRoom on.leaves β.held β.store β.bytes c held' store' bytes' c'
      → (node : Bool) → RoomLeft node held' 0 on.leaves c'
  ready_room_left few {c' = c'} w node = made_room_left w.room c' refl (rw w.size p.live) (rw w.size p.most) few (rw w.rows p.rows) (rw w.report p.report) node

pub room_ahead : {text : Text} {segs : List HeldSegment} (job : Job) {named : List Bool} {report : Text} {known : List HeldKnown} {held held' : List HeldLeaf} {store store' bytes bytes' : Text} {c c' : Counters}
    → TurnReady text segs job.on (buffers named held store report bytes known) c → job.on.leaves ≤ LEAVES_MAX → MadeRoom job.on.leaves held store bytes c held' store' bytes' c'
    → Ahead text job 0 (buffers named held' store' report bytes' known) c'
room_ahead {text} job {named} {report} {known} p few w = record { held = room_held text job.on named report known w p.held; room_left = ready_room_left p few w (by_node job.turn) }
