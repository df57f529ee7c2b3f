-- Laws of a turn's visits: what each asks for, what it answers, and the loops over leaves and segments. Assumes nothing.
use Rattle.std.proofs.Common.{Result, Ok, Err, Option, Some, None}
use mathlib.Core.Path.{◌≡◌, refl, sym, ap, subst, ◌∙◌}
use mathlib.Core.Bool.{Bool, true, false, not, ◌&&◌, ◌||◌}
use mathlib.Core.List.{List, []}
use Prim.Native.Nat.{ℕ, ◌+◌, ◌≤◌, ◌<◌}
use native.Mathlib.Omega.{arith}
use lib.Dec.{eqb}
use lib.ListN.{length}
use Rattle.text.specs.Text.{Text}
use Rattle.text.proofs.Laws.{clash, and_left, and_right}
use Rattle.text.proofs.Kept.{same_all}
use Rattle.refusal.specs.declared.Refusal.{Refusal}
use Rattle.refusal.specs.Limits.{INPUT_MAX, LEAVES_MAX}
use Rattle.er7.specs.Path.{as_path, PathHeld}
use Rattle.er7_redact.specs.Action.{as_action, is_null_action, ActionHeld}
use Rattle.er7_redact.specs.Policy.{as_rule, reject}
use Rattle.er7_redact.specs.declared.action.Action.{Action as HeldAction}
use Rattle.er7_redact.specs.declared.policy.Rule.{Rule as HeldRule}
use Rattle.message_model.specs.Message.{Leaf, Label}
use Rattle.run_model.specs.Redact.{act, row, covers, reach, each_leaf, is_node, is_unnamed, for_posture, for_sweep}
use Rattle.er7_table.specs.declared.table.Leaf.{Leaf as HeldLeaf}
use Rattle.er7_table.specs.declared.table.Segment.{Segment as HeldSegment}
use Rattle.er7_table.specs.Table.{leaf_row, place_at, name_at, label_at, as_label, Segmented}
use Rattle.redact_6_row.specs.Reach.{reaches_place}
use Rattle.redact_5_act.specs.declared.state.Counters.{Counters}
use Rattle.refusal.specs.declared.Refusal.{Refusal}
use Rattle.redact_4_leaf.specs.State.{Buffers, buffers, leaves, marked, text_in, knowing, KnownHeld, Ready, NodeReady, ActedOn}
use Rattle.redact_4_leaf.specs.Visit.{rule_pass, unnamed_pass, Visit}
use Rattle.redact_4_leaf.specs.declared.leaf.Spot.{Spot}
use Rattle.redact_4_leaf.proofs.Unnamed.{unnamed_acted}
use Rattle.redact_2_turn.specs.Turn.{pass_of, pass_by, by_node, aim_at, aim_of, field_of, enters, is_touched, looks_at, works, TurnHeld, JobHeld}
use Rattle.redact_2_turn.specs.Ordered.{Rising, AllOrdered, StartAt, SegmentsSkipped, NextLeaf, NextSegment, SpotIs}
use Rattle.redact_2_turn.specs.Taken.{Ahead, Visitable, Passable, Passing, LeavesPassed, Turning, TurnTaken}
use Rattle.redact_2_turn.specs.declared.turn.Turn.{Turn}
use Rattle.redact_2_turn.specs.declared.turn.Turn.TheVariants.{Apply, Collapse, Reject, Sweep, Idle}
use Rattle.redact_2_turn.specs.declared.turn.Aim.{Aim}
use Rattle.redact_2_turn.specs.declared.turn.Aim.TheVariants.{Unnamed}
use Rattle.redact_2_turn.specs.declared.turn.Job.{Job}
use Rattle.redact_2_turn.proofs.Aims.{works_rule, works_unnamed, covers_here, touched_live, touched_place}
use Rattle.redact_2_turn.proofs.Still.{Still, still_leaf, still_segment}
use Rattle.redact_2_turn.proofs.Funds.{room_left_ready, room_left_node}
use Rattle.redact_2_turn.proofs.Turns.{spot, passing_start, passing_more, passing_stop, passing_still, visit_going, visit_stopped, turning_start, segment_low, segment_high, turning_more, turning_stop, turning_still, turning_done, passed_going, passed_stopped}
use Rattle.redact_2_turn.proofs.Idle.{idle_before, ahead_rising, ordered_as}

-- ---- a leaf with which an aim has to do

pub works_touched : (aim : Aim) (g : Label) (named : Bool) (x : HeldLeaf) → works aim g named x ≡ true → is_touched g x ≡ true
unfolding works
works_touched aim g named x e = and_left (is_touched g x) (looks_at aim named x) e

works_unnamed_leaf : (empty : Bool) (g : Label) (named : Bool) (x : HeldLeaf) → works (Unnamed empty) g named x ≡ true → is_unnamed g x.place named ≡ true
unfolding is_unnamed
works_unnamed_leaf empty g named x e =
    let a = sym (works_unnamed empty g named x) ∙ e in
    let b = and_left (is_touched g x && not named) (empty || not (eqb x.len 0)) a in
    rw (touched_place g x (and_left (is_touched g x) (not named) b), and_right (is_touched g x) (not named) b)

module _ {text : Text} {job : Job} (h : JobHeld text job) {at : Spot} {β : Buffers} {c : Counters} (v : Visitable text job at β c) where
  leaf_live : (leaf_row β.held at.index).gone ≡ false
  leaf_live = touched_live (as_label at.label) (leaf_row β.held at.index) (works_touched job.aim (as_label at.label) (marked β.named at.index) (leaf_row β.held at.index) v.works)

  inside : at.index < job.on.leaves
  inside = omega (arith, v.inside, v.ends)

  -- by the turn that it is
  module _ {turn : Turn} (e : job.turn ≡ turn) where
    turn_held : TurnHeld text turn
    turn_held = subst (TurnHeld text) e h.held

    aim_is : job.aim ≡ aim_of text turn
    aim_is = h.aim ∙ ap (aim_of text) e

    entered : enters (aim_of text turn) (as_label at.label) ≡ true
    entered = rw aim_is at v.enters

    worked : works (aim_of text turn) (as_label at.label) (marked β.named at.index) (leaf_row β.held at.index) ≡ true
    worked = rw aim_is at v.works

  ready : {turn : Turn} → job.turn ≡ turn → by_node turn ≡ false → Ready β.held β.store job.on.leaves at.index c
  ready e q = room_left_ready v.ahead.held v.ahead.room_left (ap by_node e ∙ q) inside leaf_live

  rule_covers : (r : HeldRule) → PathHeld text r.path → enters (aim_at text r.path) (as_label at.label) ≡ true → works (aim_at text r.path) (as_label at.label) (marked β.named at.index) (leaf_row β.held at.index) ≡ true
      → covers (as_rule text r) (as_label at.label) (place_at β.held at.index) ≡ true
  unfolding as_label place_at
  rule_covers r t a w =
      let g = as_label at.label in
      let q = sym (works_rule text r.path g (marked β.named at.index) (leaf_row β.held at.index)) ∙ w in
      covers_here text r g (place_at β.held at.index) t refl a
      (rw (touched_place g (leaf_row β.held at.index) (and_left (is_touched g (leaf_row β.held at.index)) (reaches_place (as_path [] r.path) (place_at β.held at.index)) q))
      (and_right (is_touched g (leaf_row β.held at.index)) (reaches_place (as_path [] r.path) (place_at β.held at.index)) q))

  -- what each visit asks for
  pub apply_asks : {r : HeldRule} → job.turn ≡ Apply r
      → ActionHeld text r.action × (reach (as_rule text r) ≡ each_leaf) × (covers (as_rule text r) (as_label at.label) (place_at β.held at.index) ≡ true) × Ready β.held β.store job.on.leaves at.index c × KnownHeld text β.bytes β.known c × (length text ≤ INPUT_MAX) × (job.on.leaves ≤ LEAVES_MAX)
  unfolding aim_of by_node
  apply_asks {r} e =
      let t = turn_held e in
      (t.1, t.2, rule_covers r t.0 (entered e) (worked e), ready e refl, v.ahead.held.known, h.policy, v.ahead.held.marks)

  pub collapse_asks : {r : HeldRule} → job.turn ≡ Collapse r
      → ActionHeld text r.action × (is_node (reach (as_rule text r)) ≡ true) × (covers (as_rule text r) (as_label at.label) (place_at β.held at.index) ≡ true) × NodeReady β.held β.store job.on.leaves at.index at.end c × KnownHeld text β.bytes β.known c × (length text ≤ INPUT_MAX) × (job.on.leaves ≤ LEAVES_MAX)
  unfolding aim_of by_node
  collapse_asks {r} e =
      let t = turn_held e in
      (t.1, t.2, rule_covers r t.0 (entered e) (worked e), room_left_node v.ahead.held v.ahead.room_left (ap by_node e) v.inside v.ends leaf_live, v.ahead.held.known, h.policy, v.ahead.held.marks)

  pub reject_asks : {a : HeldAction} → job.turn ≡ Reject a → ActionHeld text a × Ready β.held β.store job.on.leaves at.index c × (length text ≤ INPUT_MAX)
  unfolding by_node
  reject_asks e = (turn_held e, ready e refl, h.policy)

  pub sweep_asks : job.turn ≡ Sweep → KnownHeld text β.bytes β.known c × Ready β.held β.store job.on.leaves at.index c × (length text ≤ INPUT_MAX) × (job.on.leaves ≤ LEAVES_MAX)
  unfolding by_node
  sweep_asks e = (v.ahead.held.known, ready e refl, h.policy, v.ahead.held.marks)

  -- a leaf that no rule named
  pub reject_unnamed : {a : HeldAction} → job.turn ≡ Reject a → is_unnamed (as_label at.label) (place_at β.held at.index) (marked β.named at.index) ≡ true
  unfolding aim_of place_at
  reject_unnamed {a} e = works_unnamed_leaf (is_null_action (as_action text a)) (as_label at.label) (marked β.named at.index) (leaf_row β.held at.index) (worked e)

  pub sweep_unnamed : job.turn ≡ Sweep → is_unnamed (as_label at.label) (place_at β.held at.index) (marked β.named at.index) ≡ true
  unfolding aim_of place_at
  sweep_unnamed e = works_unnamed_leaf false (as_label at.label) (marked β.named at.index) (leaf_row β.held at.index) (worked e)

  -- what each visit answers, of the turn's pass
  pub rejected : {a : HeldAction} → job.turn ≡ Reject a → {held' : List HeldLeaf} {store' report' bytes' : Text} (r : Result Counters Refusal)
      → ActedOn (act job.on.key job.on.separators (as_action text a) (text_in β.held β.store at.index)) (row (as_label at.label) (place_at β.held at.index) (as_action text a)) job.on.leaves at.index β.held β.store β.report β.bytes c held' store' report' bytes' r
      → Visit (pass_by text job) (by_node job.turn) job.on at text β c (buffers β.named held' store' report' bytes' β.known) r
  unfolding pass_by pass_of by_node
  rejected {a} e r d =
      rw e (unnamed_acted job.on at text β.named β.held β.store β.report β.bytes β.known c (λ ks. for_posture (reject (as_action text a))) (ready e refl) v.ahead.held.marks v.ahead.held.known (as_action text a) (reject_unnamed e) (unfold for_posture in refl) same_all r d)

  pub never_idle : {X : Type 0} → job.turn ≡ Idle → X
  unfolding aim_of enters
  never_idle e = clash (sym (entered e))

module _ {text : Text} (job : Job) {at : Spot} {β : Buffers} {c : Counters} {β' : Buffers} {r : Result Counters Refusal} where
  pub applied : {rule : HeldRule} → job.turn ≡ Apply rule → Visit (λ ks. rule_pass job.on.key job.on.separators (as_rule text rule)) false job.on at text β c β' r → Visit (pass_by text job) (by_node job.turn) job.on at text β c β' r
  unfolding pass_by pass_of by_node
  applied e v = rw e v

  pub collapsed : {rule : HeldRule} → job.turn ≡ Collapse rule → Visit (λ ks. rule_pass job.on.key job.on.separators (as_rule text rule)) true job.on at text β c β' r → Visit (pass_by text job) (by_node job.turn) job.on at text β c β' r
  unfolding pass_by pass_of by_node
  collapsed e v = rw e v

  pub swept : job.turn ≡ Sweep → Visit (λ ks. unnamed_pass job.on.key job.on.separators (for_sweep job.on.separators ks)) false job.on at text β c β' r → Visit (pass_by text job) (by_node job.turn) job.on at text β c β' r
  unfolding pass_by pass_of by_node
  swept e v = rw e v

-- ---- the leaves of a segment

-- the leaves before the next are visited or passed by, and with it the turn has to do; or there is none, and all of them are
abbrev pub Standing : Text → Job → Spot → Buffers → Counters → Option ℕ → Buffers → Counters → Type 0
Standing text job at β₀ c₀ (Some i) β c =
    Passing (pass_by text job) (by_node job.turn) job.on (as_label at.label) at.index at.end i text β₀ c₀ β c × (i < at.end) × (works job.aim (as_label at.label) (marked β.named i) (leaf_row β.held i) ≡ true)
Standing text job at β₀ c₀ None β c = Passing (pass_by text job) (by_node job.turn) job.on (as_label at.label) at.index at.end at.end text β₀ c₀ β c

module _ {text : Text} {job : Job} (h : JobHeld text job) (at : Spot) (β₀ : Buffers) (c₀ : Counters) (p : Passable job at β₀.held) where
  -- the leaves before index i are visited or passed by
  abbrev pub Before : ℕ → Buffers → Counters → Type 0
  Before i β c = Passing (pass_by text job) (by_node job.turn) job.on (as_label at.label) at.index at.end i text β₀ c₀ β c

  still_here : (β : Buffers) (c : Counters) (j : ℕ) (xs : List Leaf) → works job.aim (as_label at.label) (marked β.named j) (leaf_row β.held j) ≡ false → Still (pass_by text job (knowing text β c)) (as_label at.label) (leaves β j) xs
  unfolding pass_by
  still_here β c j xs e = still_leaf job.on.key job.on.separators text (knowing text β c) (as_label at.label) (marked β.named) β.held β.store j xs job.turn (rw h.aim at e)

  passed_by : {i r : ℕ} {β : Buffers} {c : Counters} → i ≤ r → r ≤ at.end → ((j : ℕ) → i ≤ j → j < r → works job.aim (as_label at.label) (marked β.named j) (leaf_row β.held j) ≡ false) → Before i β c → Before r β c
  passed_by {β = β} {c = c} l m f w = passing_still (pass_by text job) (by_node job.turn) job.on at.label at.index at.end text β₀ c₀ p.ends l m (λ j a b. still_here β c j _ (f j a b)) w

  pub before_first : Ahead text job at.index β₀ c₀ → {r : ℕ} → StartAt (field_of job.aim) at.index at.end r → Before r β₀ c₀
  before_first a t =
      passed_by t.low t.high (idle_before job.aim (as_label at.label) β₀.named β₀.held p.ordered t)
      (passing_start (pass_by text job) (by_node job.turn) job.on at.label at.index at.end text β₀ c₀ p.order a.held a.room_left)

  module _ {i : ℕ} {β : Buffers} {c : Counters} (w : Before i β c) where
    pub before_rest : (i ≤ at.end) × (at.end ≤ length β.held) × (at.end ≤ LEAVES_MAX) × Rising β.held i at.end
    before_rest = (w.high, omega (arith, p.ends, w.held.good.rows), omega (arith, p.ends, w.held.marks), ahead_rising β₀ β w.low (λ j a b. w.ahead j a (omega (arith, p.ends))) p.ordered)

    pub before_next : (r : Option ℕ) → NextLeaf job.aim (as_label at.label) β.named β.held i at.end r → Standing text job at β₀ c₀ r β c
    before_next (Some r) n = (passed_by n.0.low (omega (arith, n.1)) n.0.idle w, n.1, n.2)
    before_next None n = passed_by n.low (omega arith) n.idle w

  module _ {i : ℕ} {β : Buffers} {c : Counters} (w : Before i β c) (l : i < at.end) where
    pub before_visitable : works job.aim (as_label at.label) (marked β.named i) (leaf_row β.held i) ≡ true → Visitable text job (spot at.label at.end i) β c
    before_visitable e = record { enters = p.enters; works = e; inside = l; ends = p.ends; ahead = record { held = w.held; room_left = w.room_left } }

    pub before_visited : {β' : Buffers} {r : Result Counters Refusal} {c' : Counters} → Visit (pass_by text job) (by_node job.turn) job.on (spot at.label at.end i) text β c β' r → r ≡ Ok c' → Before (i + 1) β' c'
    before_visited v e = passing_more (pass_by text job) (by_node job.turn) job.on at.label at.index at.end text β₀ c₀ p.ends w l (visit_going v e)

    pub before_stop : {β' : Buffers} {r : Result Counters Refusal} {x : Refusal} → Visit (pass_by text job) (by_node job.turn) job.on (spot at.label at.end i) text β c β' r → r ≡ Err x
        → LeavesPassed (pass_by text job) (by_node job.turn) job.on at text β₀ c₀ β' (Err x)
    before_stop v e = record { out = passing_stop (pass_by text job) (by_node job.turn) job.on at.label at.index at.end text β₀ c₀ p.ends w l (visit_stopped v e) }

  pub before_end : {β : Buffers} {c : Counters} → Before at.end β c → LeavesPassed (pass_by text job) (by_node job.turn) job.on at text β₀ c₀ β (Ok c)
  before_end w = record { out = w }

-- ---- all segments

-- the segments before the next are passed, and it is entered; or there is none, and all of them are
abbrev pub Coming : Text → Job → List HeldSegment → Buffers → Counters → Option ℕ → Buffers → Counters → Type 0
Coming text job segs β₀ c₀ (Some k) β c = Turning (pass_by text job) (by_node job.turn) job.on segs k text β₀ c₀ β c × (k < job.on.segments) × (enters job.aim (label_at segs k) ≡ true)
Coming text job segs β₀ c₀ None β c = Turning (pass_by text job) (by_node job.turn) job.on segs job.on.segments text β₀ c₀ β c

module _ {text : Text} {job : Job} (h : JobHeld text job) (segs : List HeldSegment) (z : Segmented segs job.on.segments job.on.leaves) (β₀ : Buffers) (c₀ : Counters) where
  -- those before segment k are passed
  abbrev pub Through : ℕ → Buffers → Counters → Type 0
  Through k β c = Turning (pass_by text job) (by_node job.turn) job.on segs k text β₀ c₀ β c

  pub through_none : Ahead text job 0 β₀ c₀ → Through 0 β₀ c₀
  through_none a = turning_start (pass_by text job) (by_node job.turn) job.on segs text z β₀ c₀ a.held a.room_left

  module _ {k : ℕ} {β : Buffers} {c : Counters} (w : Through k β c) where
    through_to : {r : ℕ} → SegmentsSkipped job.aim segs k r → r ≤ job.on.segments → Through r β c
    unfolding pass_by label_at name_at
    through_to s l =
        turning_still (pass_by text job) (by_node job.turn) job.on segs text z β₀ c₀ s.low l
        (λ j a b x xs. still_segment job.on.key job.on.separators text (knowing text β c) (label_at segs j) refl job.turn h.held (rw h.aim at s.idle j a b) x xs) w

    pub through_next : (r : Option ℕ) → NextSegment job.aim segs k job.on.segments r → Coming text job segs β₀ c₀ r β c
    through_next (Some r) n = (through_to n.0 (omega (arith, n.1)), n.1, n.2)
    through_next None n = through_to n (omega arith)

  module _ {k : ℕ} {β : Buffers} {c : Counters} (w : Through k β c) (l : k < job.on.segments) where
    module _ {at : Spot} (q : SpotIs segs k at) where
      pub through_passable : enters job.aim (label_at segs k) ≡ true → AllOrdered segs β₀.held job.on.segments → Passable job at β.held
      through_passable e o =
          let low = segment_low (pass_by text job) (by_node job.turn) job.on segs text z β₀ c₀ w l in
          let high = segment_high (pass_by text job) (by_node job.turn) job.on segs text z β₀ c₀ w l in
          record {
            enters = rw q.label e;
            order = rw (q.first, q.end) low;
            ends = rw q.end high;
            ordered = rw (q.first, q.end) (ordered_as β₀ β (λ j x y. w.ahead j x (omega (arith, high))) (o.ordered k l));
          }

      pub through_ahead : Ahead text job at.index β c
      through_ahead = record { held = w.held; room_left = rw q.first w.room_left }

      pub through_more : {β' : Buffers} {r : Result Counters Refusal} {c' : Counters} → LeavesPassed (pass_by text job) (by_node job.turn) job.on at text β c β' r → r ≡ Ok c' → Through (k + 1) β' c'
      through_more v e =
          let u = rw (q.label, q.first, q.end) at (passed_going v e) in
          turning_more (pass_by text job) (by_node job.turn) job.on segs text z β₀ c₀ w l u

      pub through_stop : {β' : Buffers} {r : Result Counters Refusal} {x : Refusal} → LeavesPassed (pass_by text job) (by_node job.turn) job.on at text β c β' r → r ≡ Err x → TurnTaken (pass_by text job) job.on segs text β₀ c₀ β' (Err x)
      through_stop v e =
          let u = rw (q.label, q.first, q.end) at (passed_stopped v e) in
          record { out = turning_stop (pass_by text job) (by_node job.turn) job.on segs text z β₀ c₀ w l u }

  pub through_all : {β : Buffers} {c : Counters} → Through job.on.segments β c → TurnTaken (pass_by text job) job.on segs text β₀ c₀ β (Ok c)
  through_all w = record { out = turning_done (pass_by text job) (by_node job.turn) job.on segs text z β₀ c₀ (omega arith) w }
