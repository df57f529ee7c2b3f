-- Two messages with the same delimiters that are alike in all but covered leaves are redacted alike. Assumes nothing.
use mathlib.Core.Path.{◌≡◌, sym, ap₂, ◌∙◌, subst}
use mathlib.Core.Logic.{◌⊎◌, inl, inr, ⊎_elim}
use mathlib.Core.Bool.{Bool, false, not}
use mathlib.Core.Option.{Option, discrete as Option-discrete}
use mathlib.Core.List.{List, [], List-discrete}
use native.Mathlib.Decide.{ℕ_discrete}
use Prim.Native.Nat.{ℕ}
use lib.Dec.{T}
use Rattle.text.specs.Text.{Text}
use Rattle.er7.specs.declared.separators.Separators.{Separators}
use Rattle.er7_redact.specs.Policy.{Rule}
use Rattle.message_model.specs.Message.{Leaf, Label, Segment, Message}
use Rattle.policy_model.specs.Policy.{Policy}
use Rattle.run_model.specs.Redact.{Row, over_segments, unnamed_leaf, after_rules, rules_events, for_posture, for_sweep, before_sweep, events_before_sweep, Redacted, done, redact_from, redact}
use Rattle.run_model.specs.Table.{rows_of, events_of, learnt_in}
use Rattle.run_model.specs.Counts.{posture_turn, sweep_turn, counts_of, text_after}
use Rattle.run_model.specs.Demand.{text_at, SettledAt, Learnt, NotInSegments, AlikeLeaves, AlikeSegments, Alike, Settled, Unswept}
use Rattle.run_model.proofs.InStep.{SameShape, SameShapes, live, rows_append, Good, in_step, counts_in_step}
use Rattle.run_model.proofs.Learning.{Learns, learns_append, learns_of, learns_segs, still_segs}
use Rattle.run_model.proofs.Progress.{known_all_learnt, run_is}
use Rattle.run_model.proofs.Units.{done_is}

abbrev pub Accepted : Redacted → Type 0
Accepted a = (t : Text) × (ρs : List Row) × (a ≡ done t ρs)

leaves_shape : {rs : List Rule} {g : Label} {xs ys : List Leaf} → AlikeLeaves rs g xs ys → SameShape xs ys
leaves_shape AlikeLeaves.end = SameShape.end
leaves_shape (AlikeLeaves.next p t u h w) = live p false t u (leaves_shape w)

segments_shape : {rs : List Rule} {a b : List Segment} → AlikeSegments rs a b → SameShapes a b
segments_shape AlikeSegments.end = SameShapes.end
segments_shape (AlikeSegments.next g w v) = SameShapes.next g (leaves_shape w) (segments_shape v)

differ : (x y : Option Text) → (x ≡ y) ⊎ (x ≡ y → ⊥)
differ x y = elim (Option-discrete (List-discrete ℕ_discrete) x y) [ yes e ↦ inl e | no h ↦ inr h ]

abbrev SweptNothing : ℕ → Policy → List Segment → Separators → Type 0
SweptNothing key P ss s = (v : Text) → Learnt key s P.rules ss v → NotInSegments s v (before_sweep key s P ss)

module _ (key : ℕ) (P : Policy) (s : Separators) (cr : Bool) where
  abbrev message : List Segment → Message
  message ss = record { separators = s; segments = ss; last_cr = cr }

  abbrev SweepOk : List Segment → Type 0
  SweepOk ss = T (not P.sweep) ⊎ SweptNothing key P ss s

  abbrev Unfound : List Segment → Text → Type 0
  Unfound ss v = NotInSegments s v (before_sweep key s P ss)

  run_learns : (ss : List Segment) → SweptNothing key P ss s → Learns (Unfound ss) (events_before_sweep key s P ss)
  unfolding events_before_sweep
  run_learns ss q =
      learns_append (Unfound ss) (rules_events key s P.rules ss) _ (learns_of (Unfound ss) (rules_events key s P.rules ss) (λ v a m. q v (a, m)))
      (learns_segs key s (Unfound ss) (for_posture P.posture) (after_rules key s P.rules ss))

  -- the sweep finds nothing
  still : (ss : List Segment) → SweepOk ss
      → (over_segments (unnamed_leaf key s (for_sweep s (learnt_in key P (message ss)))) (before_sweep key s P ss) ≡ before_sweep key s P ss) × (sweep_turn key P (message ss) ≡ [])
  unfolding sweep_turn learnt_in
  still ss ok =
      still_segs key s _ (before_sweep key s P ss)
      (known_all_learnt (Unfound ss) (events_before_sweep key s P ss) P.sweep (⊎_elim inl (λ q. inr (run_learns ss q)) ok))

  module _ (a b : List Segment) (v : SameShapes a b) (H : (i j : ℕ) → Good key s P.rules a b i j) (qa : SweepOk a) (qb : SweepOk b) where
    core_text : text_after key P (message a) ≡ text_after key P (message b)
    unfolding text_after before_sweep
    core_text = rw ((still a qa).0, (still b qb).0, (in_step key s P.rules a b v H).0)

    core_rows : rows_of (events_of key P (message a)) ≡ rows_of (events_of key P (message b))
    unfolding events_of events_before_sweep sweep_turn
    core_rows = rw ((still a qa).1, (still b qb).1) (simp (rows_append) (rw ((in_step key s P.rules a b v H).0, (in_step key s P.rules a b v H).1)))

    core_counts : counts_of key P (message a) ≡ counts_of key P (message b)
    unfolding counts_of posture_turn
    core_counts = rw (counts_in_step key s P.rules a b v H, (in_step key s P.rules a b v H).0, (still a qa).1, (still b qb).1)

accepted_is : (z key : ℕ) (P : Policy) (m : Message) → Accepted (redact_from z key P m) → redact_from z key P m ≡ done (text_after key P m) (rows_of (events_of key P m))
accepted_is z key P m (t, ρs, e) = let f = done_is z key P m _ (run_is z key P m) t ρs e in e ∙ ap₂ done f.2 f.3

module _ (key : ℕ) (P : Policy) (a b : Message) (e : a.separators ≡ b.separators) (alike : Alike P.rules a b)
    (settled : Settled key P a b) (quiet : Unswept key P a b) where
  good : (i j : ℕ) → Good key a.separators P.rules a.segments b.segments i j
  good i j =
      ⊎_elim inl (λ d. inr (subst (λ (z : Separators). SettledAt key a.separators z P.rules a.segments b.segments i j) (sym e) (settled i j d)))
      (differ (text_at a.segments i j) (text_at b.segments i j))

  quiet_first : SweepOk key P a.separators a.last_cr a.segments
  quiet_first = ⊎_elim inl (λ q. inr q.0) quiet

  quiet_second : SweepOk key P a.separators a.last_cr b.segments
  quiet_second = ⊎_elim inl (λ q. inr (subst (SweptNothing key P b.segments) (sym e) q.1)) quiet

  -- what was proved of b with a's delimiters and last CR
  of_second : {X : Type 0} (f : Message → X) → f (record { separators = a.separators; segments = b.segments; last_cr = a.last_cr }) ≡ f b
  of_second f = ap₂ (λ (z : Separators) (cr : Bool). f (record { separators = z; segments = b.segments; last_cr = cr })) e alike.last_cr

  -- two runs that begin with x and y bytes
  pub two_units : (x y : ℕ) → Accepted (redact_from x key P a) → Accepted (redact_from y key P b) → redact_from x key P a ≡ redact_from y key P b
  two_units x y ka kb =
      accepted_is x key P a ka
      ∙ ap₂ done
      (core_text key P a.separators a.last_cr a.segments b.segments (segments_shape alike.segments) good quiet_first quiet_second ∙ of_second (text_after key P))
      (core_rows key P a.separators a.last_cr a.segments b.segments (segments_shape alike.segments) good quiet_first quiet_second ∙ of_second (λ m. rows_of (events_of key P m)))
      ∙ sym (accepted_is y key P b kb)

  pub two_counts : counts_of key P a ≡ counts_of key P b
  two_counts =
      core_counts key P a.separators a.last_cr a.segments b.segments (segments_shape alike.segments) good quiet_first quiet_second
      ∙ of_second (counts_of key P)

pub two_messages : (key : ℕ) (P : Policy) (a b : Message) → a.separators ≡ b.separators → Alike P.rules a b
    → Settled key P a b → Unswept key P a b → Accepted (redact key P a) → Accepted (redact key P b) → redact key P a ≡ redact key P b
unfolding redact
two_messages key P a b e alike settled quiet = two_units key P a b e alike settled quiet _ _
