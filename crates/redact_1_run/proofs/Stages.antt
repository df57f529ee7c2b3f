-- Laws of a run between two turns. Assumes nothing.
use Rattle.std.proofs.Common.{Result, Ok, Err}
use mathlib.Core.Path.{◌≡◌, sym, ap, ◌∙◌}
use mathlib.Core.Bool.{Bool}
use mathlib.Core.List.{List}
use mathlib.Core.Option.{Option, none}
use Prim.Native.Nat.{ℕ, ◌+◌, ◌≤◌}
use native.Mathlib.Omega.{arith}
use lib.ListN.{length}
use Rattle.text.specs.Text.{Text}
use Rattle.refusal.specs.declared.Refusal.{Refusal}
use Rattle.refusal.specs.Limits.{LEAVES_MAX}
use Rattle.er7.specs.declared.separators.Separators.{Separators}
use Rattle.er7_redact.specs.Action.{Action, as_action}
use Rattle.er7_redact.specs.Policy.{Rule, as_rule, reject}
use Rattle.message_model.specs.Message.{Segment, print_segments}
use Rattle.message_model.specs.Chain.{Chained}
use Rattle.run_model.specs.Order.{FieldsFirst}
use Rattle.run_model.specs.Redact.{Known, Row, Progress, running, stopped, known_in, after_events, over_segments, segments_events, for_posture, for_sweep, after_rule}
use Rattle.run_model.proofs.Chains.{rule_chained, rule_fields_first, unnamed_chained, unnamed_fields_first}
use Rattle.run_model.proofs.Sizes.{Moves, rule_sizes, unnamed_sizes, progress_size}
use Rattle.er7_table.specs.declared.table.Segment.{Segment as HeldSegment}
use Rattle.er7_table.specs.Table.{list_of, first_leaf, label_at, Segmented}
use Rattle.redact_5_act.specs.declared.state.Setting.{Setting}
use Rattle.redact_5_act.specs.declared.state.Counters.{Counters}
use Rattle.refusal.specs.declared.Refusal.{Refusal}
use Rattle.redact_4_leaf.specs.Walk.{Pass, segment_of}
use Rattle.redact_4_leaf.specs.State.{Buffers, leaves, knowing, marked}
use Rattle.redact_4_leaf.specs.Visit.{rule_pass, unnamed_pass}
use Rattle.redact_2_turn.specs.Turn.{pass_of}
use Rattle.redact_2_turn.specs.declared.turn.Turn.{Turn}
use Rattle.redact_2_turn.specs.declared.turn.Turn.TheVariants.{Apply, Collapse, Reject, Sweep, Idle}
use Rattle.redact_2_turn.specs.Taken.{Advanced, Turned, TurnTaken}
use Rattle.redact_1_run.specs.Stage.{segments_of, Stage, Stands, TurnReady}
use Rattle.redact_1_run.proofs.Orders.{chained_ordered}
use Rattle.redact_1_run.proofs.Rooms.{live_printed}

-- ---- a pass keeps account of the message's size, and keeps what that rests on

pub record Sound (s : Separators) (cr : Bool) (P : Pass) : Type 0 where
  pub moves : (ss : List Segment) → Chained ss → FieldsFirst ss → Moves (segments_events P.says ss) (length (print_segments s cr ss)) (length (print_segments s cr (over_segments P.leaf ss)))
  pub chained : (ss : List Segment) → Chained ss → Chained (over_segments P.leaf ss)
  pub first : (ss : List Segment) → FieldsFirst ss → FieldsFirst (over_segments P.leaf ss)

rule_sound : (key : ℕ) (s : Separators) (cr : Bool) (r : Rule) → Sound s cr (rule_pass key s r)
unfolding rule_pass after_rule
rule_sound key s cr r = record {
  moves = λ ss c f. rule_sizes key s cr r ss c f;
  chained = λ ss c. rule_chained key s r ss c;
  first = λ ss f. rule_fields_first key s r ss f;
}

unnamed_sound : (key : ℕ) (s : Separators) (cr : Bool) (f : Text → Option Action) → Sound s cr (unnamed_pass key s f)
unfolding unnamed_pass
unnamed_sound key s cr f = record {
  moves = λ ss c q. unnamed_sizes key s cr f ss;
  chained = λ ss c. unnamed_chained key s f ss c;
  first = λ ss q. unnamed_fields_first key s f ss q;
}

pub turn_sound : (key : ℕ) (s : Separators) (cr : Bool) (text : Text) (ks : List Known) (turn : Turn) → Sound s cr (pass_of key s text ks turn)
unfolding pass_of
turn_sound key s cr text ks (Apply r) = rule_sound key s cr (as_rule text r)
turn_sound key s cr text ks (Collapse r) = rule_sound key s cr (as_rule text r)
turn_sound key s cr text ks (Reject a) = unnamed_sound key s cr (for_posture (reject (as_action text a)))
turn_sound key s cr text ks Sweep = unnamed_sound key s cr (for_sweep s ks)
turn_sound key s cr text ks Idle = unnamed_sound key s cr (λ t. none)

-- ---- a turn

module _ {x : ℕ} {cr : Bool} {text : Text} {segs : List HeldSegment} {on : Setting} {turns : ℕ} {ss : List Segment} {b : Progress} {β : Buffers} {c : Counters} (g : Stage x cr text segs on turns ss b β c) where
  -- what is known stands in the progress
  pub progress_knows : knowing text β c ≡ known_in b
  unfolding known_in
  progress_knows = sym (rw g.recorded.is)

  module _ {P : List Known → Pass} (q : Sound on.separators cr (P (knowing text β c))) (few : on.leaves ≤ LEAVES_MAX) {β' : Buffers} {c' : Counters} (t : Turned P on segs text β c β' c') where
    abbrev Q : Pass
    Q = P (knowing text β c)

    abbrev taken : Advanced Q on segs text β β' c' b
    taken = t.advanced b g.recorded

    turn_progress : taken.progress ≡ after_events on.sweep (segments_events Q.says ss) b
    unfolding segments_of
    turn_progress = sym taken.all.progress ∙ ap (λ xs. after_events on.sweep (segments_events Q.says xs) b) g.segments

    turn_size : (ks : List Known) (ρs : List Row) → b ≡ running ks ρs c.size → (ks' : List Known) (ρs' : List Row) → taken.progress ≡ running ks' ρs' c'.size
        → c'.size ≡ x + length (print_segments on.separators cr (over_segments Q.leaf ss))
    turn_size ks ρs e ks' ρs' f =
        (progress_size on.sweep (segments_events Q.says ss) ks ks' ρs ρs' c.size c'.size (sym (ap (after_events on.sweep (segments_events Q.says ss)) e) ∙ sym turn_progress ∙ f)).0
        ∙ q.moves ss g.chained g.first x c.size g.size

    turn_segments : segments_of segs on β' ≡ over_segments Q.leaf ss
    unfolding segments_of
    turn_segments = taken.all.here ∙ ap (over_segments Q.leaf) g.segments

    stage_turn : Stage x cr text segs on (turns + 1) (over_segments Q.leaf ss) (after_events on.sweep (segments_events Q.says ss) b) β' c'
    stage_turn = record {
      segments = turn_segments;
      recorded = rw turn_progress at taken.stands;
      size = turn_size (knowing text β c) g.recorded.rows g.recorded.is (knowing text β' c') taken.stands.rows taken.stands.is;
      most = t.most;
      chained = q.chained ss g.chained;
      first = q.first ss g.first;
      held = t.held;
      rows = omega (arith, t.more.rows, g.rows);
      report = omega (arith, t.more.report, g.report);
    }

  all_segments : list_of (segment_of (label_at segs) (first_leaf segs) (leaves β)) 0 on.segments ≡ ss
  unfolding segments_of
  all_segments = g.segments

  turn_stops : (Q : Pass) {e : Refusal} → after_events on.sweep (segments_events Q.says (list_of (segment_of (label_at segs) (first_leaf segs) (leaves β)) 0 on.segments)) b ≡ stopped e
      → after_events on.sweep (segments_events Q.says ss) b ≡ stopped e
  turn_stops Q q = sym (ap (λ xs. after_events on.sweep (segments_events Q.says xs) b) all_segments) ∙ q

  -- a turn was taken
  pub stands_next : (P : List Known → Pass) → Sound on.separators cr (P (knowing text β c)) → on.leaves ≤ LEAVES_MAX → {β' : Buffers} (r : Result Counters Refusal) → TurnTaken P on segs text β c β' r
      → Stands x cr text segs on (turns + 1) (over_segments (P (knowing text β c)).leaf ss) (after_events on.sweep (segments_events (P (knowing text β c)).says ss) b) β' r
  stands_next P q few (Ok c') t = record { out = stage_turn {P = P} q few t.out }
  stands_next P q few (Err e) t = record { out = turn_stops (P (knowing text β c)) (t.out b g.recorded) }

-- ---- what a turn asks for, and what it leaves

module _ {x : ℕ} {cr : Bool} {text : Text} {segs : List HeldSegment} {on : Setting} {turns : ℕ} {ss : List Segment} {b : Progress} {β : Buffers} where
  pub stage_turn_ready : {c : Counters} → Segmented segs on.segments on.leaves → turns ≤ 130 → Stage x cr text segs on turns ss b β c → TurnReady text segs on β c
  stage_turn_ready {c} z few g =
      let l = live_printed on.separators cr (marked β.named) g.held.good (label_at segs) (first_leaf segs) on.segments z.order z.all z.none_before in
      let k = rw (all_segments g) at l in
      record {
        held = g.held;
        ordered = chained_ordered segs on.segments β (rw (all_segments g) g.chained);
        live = omega (arith, g.size, k);
        most = g.most;
        rows = omega (arith, g.rows);
        report = omega (arith, g.report);
      }

  stage_later : {c : Counters} {more : ℕ} → turns ≤ more → Stage x cr text segs on turns ss b β c → Stage x cr text segs on more ss b β c
  stage_later h g = record {
    segments = g.segments;
    recorded = g.recorded;
    size = g.size;
    most = g.most;
    chained = g.chained;
    first = g.first;
    held = g.held;
    rows = omega (arith, g.rows);
    report = omega (arith, g.report);
  }

  pub stands_later : (r : Result Counters Refusal) {more : ℕ} → turns ≤ more → Stands x cr text segs on turns ss b β r → Stands x cr text segs on more ss b β r
  stands_later (Ok c) h g = record { out = stage_later h g.out }
  stands_later (Err e) h g = record { out = g.out }
