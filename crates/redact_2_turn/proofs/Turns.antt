-- Laws of a turn under way: over the leaves of a segment, and over segments. Assumes nothing.
use Rattle.std.proofs.Common.{Result, Ok, Err}
use mathlib.Core.Path.{◌≡◌, refl, sym, ap, ◌∙◌}
use mathlib.Core.Bool.{Bool}
use mathlib.Core.List.{List, [], ◌∷◌, append-nil}
use Prim.Native.Nat.{ℕ, zero, suc, ◌+◌, ◌-◌, ◌≤◌, ◌<◌}
use native.Mathlib.Nat.{sub_self}
use native.Mathlib.Numerals.{add-one}
use native.Mathlib.Omega.{arith}
use Rattle.text.specs.Text.{Text}
use Rattle.refusal.specs.declared.Refusal.{Refusal}
use Rattle.refusal.specs.Limits.{TEXT_MAX}
use Rattle.er7.specs.declared.message.Label.{Label as HeldLabel}
use Rattle.message_model.specs.Message.{Leaf, Label}
use Rattle.run_model.specs.Redact.{Known, Progress, stopped, after_events, over_leaves, leaves_events, segments_events}
use Rattle.er7_table.specs.declared.table.Segment.{Segment as HeldSegment}
use Rattle.er7_table.specs.Table.{list_of, first_leaf, label_at, as_label, Segmented}
use Rattle.er7_table.proofs.Laws.{list_ext}
use Rattle.redact_5_act.specs.declared.state.Setting.{Setting}
use Rattle.redact_5_act.specs.declared.state.Counters.{Counters}
use Rattle.refusal.specs.declared.Refusal.{Refusal}
use Rattle.redact_4_leaf.specs.Walk.{Pass, LeavesTo, SegmentDone, segment_of, SegmentsTo}
use Rattle.redact_4_leaf.specs.State.{Buffers, leaves, knowing, RecordedIn, Held, Kept, RoomLeft}
use Rattle.redact_4_leaf.specs.Visit.{said_of, Visited, VisitedOr, Visit}
use Rattle.redact_4_leaf.specs.declared.leaf.Spot.{Spot}
use Rattle.redact_4_leaf.proofs.Walks.{progress_append, stopped_stays, list_step, leaves_start, leaves_more, leaves_stop, leaves_end, segments_start, segments_more, segments_end}
use Rattle.redact_2_turn.specs.Taken.{Passing, PassedOr, LeavesPassed, Turning, Turned}
use Rattle.redact_2_turn.proofs.Funds.{room_left_more, room_left_skip}
use Rattle.redact_2_turn.proofs.Still.{Still}

kept_none : (β : Buffers) → Kept β β
kept_none β = record { place = λ j. refl; rows = refl; report = refl }

kept_then : {β₀ β β' : Buffers} → Kept β₀ β → Kept β β' → Kept β₀ β'
kept_then k l = record {
  place = λ j. l.place j ∙ k.place j;
  rows = l.rows ∙ k.rows;
  report = l.report ∙ k.report;
}

-- ---- the leaves of a segment

abbrev pub spot : HeldLabel → ℕ → ℕ → Spot
spot label end i = record { label = label; end = end; index = i }

-- a visit that leaves all as it was
pub visited_still : (P : List Known → Pass) (node : Bool) (on : Setting) (at : Spot) (text : Text) (β : Buffers) (c : Counters) → Held text on.leaves β c → c.size ≤ TEXT_MAX
    → Still (P (knowing text β c)) (as_label at.label) (leaves β at.index) (list_of (leaves β) (suc at.index) (at.end - suc at.index)) → Visited P node on at text β c β c
unfolding said_of after_events
visited_still P node on at text β c h z s = record {
  held = h;
  here = sym s.same;
  other = λ j l ne. refl;
  lens = λ j ne. refl;
  kept = kept_none β;
  paid = λ q. omega arith;
  flat = λ q. omega arith;
  grows = omega arith;
  rows = omega arith;
  report_most = omega arith;
  size_most = z;
  pass = refl;
  progress = λ b k. rw s.silent k;
}

module _ (P : List Known → Pass) (node : Bool) (on : Setting) (label : HeldLabel) (first end : ℕ) (text : Text) (β₀ : Buffers) (c₀ : Counters) where
  pub passing_start : first ≤ end → Held text on.leaves β₀ c₀ → RoomLeft node β₀.held first on.leaves c₀ → Passing P node on (as_label label) first end first text β₀ c₀ β₀ c₀
  passing_start h d f = record {
    low = omega arith;
    high = h;
    walked = λ b k. record { progress = b; stands = k; to = leaves_start (P (knowing text β₀ c₀)) on.sweep (as_label label) on.leaves first end (leaves β₀) b h };
    ahead = λ j a k. refl;
    held = d;
    room_left = f;
    kept = kept_none β₀;
    more = record { rows = omega arith; report = omega arith };
    pass = refl;
  }

  module _ (l : end ≤ on.leaves) {i : ℕ} {β : Buffers} {c : Counters} (w : Passing P node on (as_label label) first end i text β₀ c₀ β c) (h : i < end) where
    pub passing_more : {β' : Buffers} {c' : Counters} → Visited P node on (spot label end i) text β c β' c' → Passing P node on (as_label label) first end (i + 1) text β₀ c₀ β' c'
    passing_more {β'} {c'} v = record {
      low = omega (arith, w.low);
      high = omega arith;
      walked = λ b k.
          let t = w.walked b k in
          record {
            progress = _;
            stands = rw w.pass at (v.progress t.progress t.stands);
            to = rw add-one (leaves_more (P (knowing text β₀ c₀)) on.sweep (as_label label) on.leaves first end l t.to h (record { here = rw w.pass at v.here; other = v.other; progress = unfold said_of in refl }));
          };
      ahead = λ j a k. v.other j k (λ e. omega arith) ∙ w.ahead j (omega arith) k;
      held = v.held;
      room_left = rw add-one (room_left_more w.room_left (omega arith) v.lens v.paid v.flat v.grows v.size_most v.rows v.report_most);
      kept = kept_then w.kept v.kept;
      more = record { rows = omega (arith, v.rows, w.more.rows, w.low); report = omega (arith, v.report_most, w.more.report, w.low) };
      pass = v.pass ∙ w.pass;
    }

    pub passing_stop : {e : Refusal} → ((b : Progress) → RecordedIn text β c b → after_events on.sweep (said_of (P (knowing text β c)) (as_label label) end (leaves β) i) b ≡ stopped e)
        → (b : Progress) → RecordedIn text β₀ c₀ b → after_events on.sweep (leaves_events (P (knowing text β₀ c₀)).says (as_label label) (list_of (leaves β₀) first (end - first))) b ≡ stopped e
    unfolding said_of
    passing_stop {e} q b k =
        let t = w.walked b k in
        leaves_stop (P (knowing text β₀ c₀)) on.sweep (as_label label) on.leaves first end l t.to h e (rw w.pass at (q t.progress t.stands))

  -- leaves that are left as they are
  module _ (l : end ≤ on.leaves) {β : Buffers} {c : Counters} where
    still_steps : (d i : ℕ) → i + d ≤ end → ((j : ℕ) → i ≤ j → j < i + d → Still (P (knowing text β c)) (as_label label) (leaves β j) (list_of (leaves β) (suc j) (end - suc j)))
        → Passing P node on (as_label label) first end i text β₀ c₀ β c → Passing P node on (as_label label) first end (i + d) text β₀ c₀ β c
    still_steps zero i h f w = let e : i + 0 ≡ i = omega arith in rw e w
    still_steps (suc d) i h f w =
        let e : i + suc d ≡ i + 1 + d = omega arith in
        let v = visited_still P node on (spot label end i) text β c w.held w.room_left.most (f i (omega arith) (omega arith)) in
        rw e (still_steps d (i + 1) (omega arith) (λ j a b. f j (omega arith) (omega arith)) (passing_more l w (omega arith) v))

    pub passing_still : {i r : ℕ} → i ≤ r → r ≤ end → ((j : ℕ) → i ≤ j → j < r → Still (P (knowing text β c)) (as_label label) (leaves β j) (list_of (leaves β) (suc j) (end - suc j)))
        → Passing P node on (as_label label) first end i text β₀ c₀ β c → Passing P node on (as_label label) first end r text β₀ c₀ β c
    passing_still {i} {r} low high f w =
        let e : i + (r - i) ≡ r = omega arith in
        rw e at (still_steps (r - i) i (omega arith) (λ j a b. f j a (omega arith)) w)

  pub passing_done : {i : ℕ} {β : Buffers} {c : Counters} → end ≤ i → Passing P node on (as_label label) first end i text β₀ c₀ β c → Passing P node on (as_label label) first end end text β₀ c₀ β c
  passing_done {i} h w = let e : i ≡ end = omega (arith, w.high) in rw e at w

-- by what a visit answered
module _ {P : List Known → Pass} {node : Bool} {on : Setting} {at : Spot} {text : Text} {β : Buffers} {c : Counters} {β' : Buffers} {r : Result Counters Refusal} (v : Visit P node on at text β c β' r) where
  pub visit_going : {c' : Counters} → r ≡ Ok c' → Visited P node on at text β c β' c'
  visit_going e = (rw e at v).out

  pub visit_stopped : {x : Refusal} → r ≡ Err x → VisitedOr P node on at text β c β' (Err x)
  visit_stopped e = (rw e at v).out

-- ---- segments

module _ (P : Pass) (sweep : Bool) (labels : ℕ → Label) (firsts : ℕ → ℕ) (n m : ℕ) (up : (i j : ℕ) → i ≤ j → j ≤ m → firsts i ≤ firsts j) (all : firsts m ≡ n) where
  -- a segment at which the run is refused
  segments_stop : {k : ℕ} {f₀ f : ℕ → Leaf} {b₀ b : Progress} → SegmentsTo P sweep labels firsts n m k f₀ f b₀ b → k < m → (e : Refusal)
      → after_events sweep (leaves_events P.says (labels k) (list_of f (firsts k) (firsts (suc k) - firsts k))) b ≡ stopped e
      → after_events sweep (segments_events P.says (list_of (segment_of labels firsts f₀) 0 m)) b₀ ≡ stopped e
  unfolding segment_of
  segments_stop {k} {f₀} {f} {b₀} {b} w h e q =
      let own = list_ext f f₀ (firsts k) (firsts (suc k) - firsts k) (λ j a c. w.ahead j a (omega (arith, up k (suc k) (omega arith) (omega arith), up (suc k) m (omega arith) (omega arith), all))) in
      let rest = segments_events P.says (list_of (segment_of labels firsts f₀) (suc k) (m - suc k)) in
      sym w.progress
      ∙ ap (λ xs. after_events sweep (segments_events P.says xs) b) (list_step (segment_of labels firsts f₀) k m h)
      ∙ progress_append sweep (leaves_events P.says (labels k) (list_of f₀ (firsts k) (firsts (suc k) - firsts k))) rest b
      ∙ ap (after_events sweep rest) (sym (rw own) ∙ q)
      ∙ stopped_stays sweep rest e

-- a segment whose leaves are all left as they are
module _ (P : Pass) (g : Label) (still : (x : Leaf) (xs : List Leaf) → Still P g x xs) where
  pub leaves_same : (xs : List Leaf) → over_leaves P.leaf g xs ≡ xs
  leaves_same [] = refl
  leaves_same (x ∷ xs) = rw ((still x xs).same, leaves_same xs)

  pub leaves_silent : (xs : List Leaf) → leaves_events P.says g xs ≡ []
  leaves_silent [] = refl
  leaves_silent (x ∷ xs) = rw ((still x xs).silent, leaves_silent xs)

  leaves_still : (sweep : Bool) (n first end : ℕ) (f : ℕ → Leaf) (b : Progress) → first ≤ end → LeavesTo P sweep g n first end end f f b b
  leaves_still sweep n first end f b h =
      let none : list_of f end (end - end) ≡ [] = rw (sub_self end) (unfold list_of in refl) in
      record {
        low = h;
        high = omega arith;
        ahead = λ j a k. refl;
        before = λ j a. refl;
        done = rw (none, append-nil (list_of f first (end - first)), leaves_same (list_of f first (end - first)));
        progress = rw (none, leaves_silent (list_of f first (end - first)));
      }

segment_still : (P : List Known → Pass) (node : Bool) (on : Setting) (g : Label) (first end : ℕ) (text : Text) (β : Buffers) (c : Counters) → ((x : Leaf) (xs : List Leaf) → Still (P (knowing text β c)) g x xs)
    → first ≤ end → end ≤ on.leaves → Held text on.leaves β c → RoomLeft node β.held first on.leaves c → Passing P node on g first end end text β c β c
segment_still P node on g first end text β c s h l d f = record {
  low = h;
  high = omega arith;
  walked = λ b k. record { progress = b; stands = k; to = leaves_still (P (knowing text β c)) g s on.sweep on.leaves first end (leaves β) b h };
  ahead = λ j a k. refl;
  held = d;
  room_left = room_left_skip f h l;
  kept = kept_none β;
  more = record { rows = omega arith; report = omega arith };
  pass = refl;
}

module _ (P : List Known → Pass) (node : Bool) (on : Setting) (segs : List HeldSegment) (text : Text) (z : Segmented segs on.segments on.leaves) (β₀ : Buffers) (c₀ : Counters) where
  pub turning_start : Held text on.leaves β₀ c₀ → RoomLeft node β₀.held 0 on.leaves c₀ → Turning P node on segs 0 text β₀ c₀ β₀ c₀
  turning_start d f = record {
    high = omega arith;
    walked = λ b k. record { progress = b; stands = k; to = segments_start (P (knowing text β₀ c₀)) on.sweep (label_at segs) (first_leaf segs) on.leaves on.segments (leaves β₀) b };
    ahead = λ j a k. refl;
    held = d;
    room_left = rw z.none_before f;
    kept = kept_none β₀;
    more = record { rows = omega arith; report = omega arith };
    pass = refl;
  }

  module _ {k : ℕ} {β : Buffers} {c : Counters} (w : Turning P node on segs k text β₀ c₀ β c) (h : k < on.segments) where
    pub segment_low : first_leaf segs k ≤ first_leaf segs (k + 1)
    segment_low = z.order k (k + 1) (omega arith) (omega arith)

    pub segment_high : first_leaf segs (k + 1) ≤ on.leaves
    segment_high = omega (arith, z.order (k + 1) on.segments (omega arith) (omega arith), z.all)

    pub turning_more : {β' : Buffers} {c' : Counters} → Passing P node on (label_at segs k) (first_leaf segs k) (first_leaf segs (k + 1)) (first_leaf segs (k + 1)) text β c β' c' → Turning P node on segs (k + 1) text β₀ c₀ β' c'
    turning_more {β'} {c'} v = record {
      high = omega arith;
      walked = λ b q.
          let t = w.walked b q in
          let a = rw w.pass at (v.walked t.progress t.stands) in
          record {
            progress = a.progress;
            stands = a.stands;
            to = rw add-one (segments_more (P (knowing text β₀ c₀)) on.sweep (label_at segs) (first_leaf segs) on.leaves on.segments z.order z.all t.to h (ended a.to));
          };
      ahead = λ j a k. v.ahead j a k ∙ w.ahead j (omega (arith, segment_low)) k;
      held = v.held;
      room_left = v.room_left;
      kept = kept_then w.kept v.kept;
      more = record { rows = omega (arith, v.more.rows, w.more.rows, segment_low); report = omega (arith, v.more.report, w.more.report, segment_low) };
      pass = v.pass ∙ w.pass;
    }
      where
        ended : {Q : Pass} {b₀ b : Progress} → LeavesTo Q on.sweep (label_at segs k) on.leaves (first_leaf segs k) (first_leaf segs (k + 1)) (first_leaf segs (k + 1)) (leaves β) (leaves β') b₀ b
            → SegmentDone Q on.sweep (label_at segs k) on.leaves (first_leaf segs k) (first_leaf segs (suc k)) (leaves β) (leaves β') b₀ b
        ended {Q} a = rw (← add-one) (leaves_end Q on.sweep (label_at segs k) on.leaves (first_leaf segs k) (first_leaf segs (k + 1)) a (omega arith))

    pub turning_stop : {e : Refusal} → ((b : Progress) → RecordedIn text β c b → after_events on.sweep (leaves_events (P (knowing text β c)).says (label_at segs k) (list_of (leaves β) (first_leaf segs k) (first_leaf segs (k + 1) - first_leaf segs k))) b ≡ stopped e)
        → (b : Progress) → RecordedIn text β₀ c₀ b → after_events on.sweep (segments_events (P (knowing text β₀ c₀)).says (list_of (segment_of (label_at segs) (first_leaf segs) (leaves β₀)) 0 on.segments)) b ≡ stopped e
    turning_stop {e} q b a =
        let t = w.walked b a in
        segments_stop (P (knowing text β₀ c₀)) on.sweep (label_at segs) (first_leaf segs) on.leaves on.segments z.order z.all t.to h e
        (rw (w.pass, add-one) at (q t.progress t.stands))

  -- segments that are left as they are
  module _ {β : Buffers} {c : Counters} where
    segment_steps : (d k : ℕ) → k + d ≤ on.segments → ((j : ℕ) → k ≤ j → j < k + d → (x : Leaf) (xs : List Leaf) → Still (P (knowing text β c)) (label_at segs j) x xs)
        → Turning P node on segs k text β₀ c₀ β c → Turning P node on segs (k + d) text β₀ c₀ β c
    segment_steps zero k h f w = let e : k + 0 ≡ k = omega arith in rw e w
    segment_steps (suc d) k h f w =
        let e : k + suc d ≡ k + 1 + d = omega arith in
        let v = segment_still P node on (label_at segs k) (first_leaf segs k) (first_leaf segs (k + 1)) text β c (f k (omega arith) (omega arith)) (segment_low w (omega arith)) (segment_high w (omega arith)) w.held w.room_left in
        rw e (segment_steps d (k + 1) (omega arith) (λ j a b. f j (omega arith) (omega arith)) (turning_more w (omega arith) v))

    pub turning_still : {k r : ℕ} → k ≤ r → r ≤ on.segments → ((j : ℕ) → k ≤ j → j < r → (x : Leaf) (xs : List Leaf) → Still (P (knowing text β c)) (label_at segs j) x xs)
        → Turning P node on segs k text β₀ c₀ β c → Turning P node on segs r text β₀ c₀ β c
    turning_still {k} {r} low high f w =
        let e : k + (r - k) ≡ r = omega arith in
        rw e at (segment_steps (r - k) k (omega arith) (λ j a b. f j a (omega arith)) w)

  pub turning_done : {k : ℕ} {β : Buffers} {c : Counters} → on.segments ≤ k → Turning P node on segs k text β₀ c₀ β c → Turned P on segs text β₀ c₀ β c
  turning_done {k} h w =
      let e : k ≡ on.segments = omega (arith, w.high) in
      let f : first_leaf segs k ≡ on.leaves = ap (first_leaf segs) e ∙ z.all in
      record {
        advanced = λ b q.
            let t = w.walked b q in
            record {
              progress = t.progress;
              stands = t.stands;
              all = segments_end (P (knowing text β₀ c₀)) on.sweep (label_at segs) (first_leaf segs) on.leaves on.segments t.to h;
            };
        held = w.held;
        kept = w.kept;
        more = rw f at w.more;
        most = w.room_left.most;
      }

-- by what a segment answered
module _ {P : List Known → Pass} {node : Bool} {on : Setting} {at : Spot} {text : Text} {β : Buffers} {c : Counters} {β' : Buffers} {r : Result Counters Refusal} (v : LeavesPassed P node on at text β c β' r) where
  pub passed_going : {c' : Counters} → r ≡ Ok c' → Passing P node on (as_label at.label) at.index at.end at.end text β c β' c'
  passed_going e = (rw e at v).out

  pub passed_stopped : {x : Refusal} → r ≡ Err x → PassedOr P node on (as_label at.label) at.index at.end text β c β' (Err x)
  passed_stopped e = (rw e at v).out
