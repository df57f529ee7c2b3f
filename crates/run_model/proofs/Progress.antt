-- A run is judged as the table says: what is learnt, how large the message grows, how long the report is. Assumes nothing.
use mathlib.Core.Path.{◌≡◌, refl, sym, ap, ◌∙◌, subst}
use mathlib.Core.Logic.{◌⊎◌, inl, inr}
use mathlib.Core.Bool.{Bool, true, false, not, cond, ◌||◌}
use mathlib.Core.List.{List, [], ◌∷◌, ◌++◌, append-nil, append_assoc}
use mathlib.Core.Option.{Option, none, some}
use Prim.Native.Nat.{ℕ, ◌+◌, ◌-◌, ◌≤◌}
use native.Mathlib.Omega.{arith}
use borrow.Author.Tests.{lt-ltb, le-ltb, ltb-true, ltb-false, leb-true, leb-false}
use lib.ListN.{length, length-append}
use lib.Dec.{T, leb, ltb}
use Rattle.text.specs.Text.{Text}
use Rattle.text.proofs.Laws.{by_cond, clash}
use Rattle.er7.specs.declared.separators.Separators.{Separators}
use Rattle.refusal.specs.declared.Refusal.{Refusal}
use Rattle.refusal.specs.declared.Refusal.TheVariants.{TooMuchLearnt, MessageTooLong, ReportTooLong}
use Rattle.refusal.specs.Refusal.{number}
use Rattle.refusal.specs.Limits.{LEARNT_BYTES_MAX, LEARNT_MAX, TEXT_MAX}
use Rattle.message_model.specs.Message.{Segment, Message, print_segments}
use Rattle.policy_model.specs.Policy.{Policy}
use Rattle.run_model.specs.Redact as R
use Rattle.run_model.specs.Redact.{Row, Event, learn, change, Known, Progress, running, stopped, knows, known_bytes, after_event, after_events, known_in, segments_events, unnamed_events, over_segments, unnamed_leaf, for_sweep, before_sweep, events_before_sweep, progress_before_sweep, redacted_as, swept, redact_from, print_rows}
use Rattle.run_model.specs.Entries.{Answer, done, refused, Redaction, reported}
use Rattle.run_model.specs.Table.{is, learnt_from, rows_of, overflows, learnt_in, events_of, exceeds, run_row}
use Rattle.run_model.specs.Counts.{text_after, RunIs}
use Rattle.run_model.specs.Longest.{AllKnown}
use Rattle.run_model.proofs.Learning.{known_snoc, Learns, learns_segs}
use Rattle.run_model.proofs.Judged.{Judges, or_false, or_left, or_right, and_none}

-- ---- what is learnt only grows

known_bytes_append : (ks : List Known) (k : Known) → known_bytes (ks ++ (k ∷ [])) ≡ known_bytes ks + length k.value
unfolding known_bytes
known_bytes_append [] k = omega arith
known_bytes_append (x ∷ ks) k = let e = known_bytes_append ks k in omega arith

pub record Grown (ks ls : List Known) : Type 0 where
  pub count : length ks ≤ length ls
  pub size : known_bytes ks ≤ known_bytes ls

grown_snoc : (ks ls : List Known) (k : Known) → Grown (ks ++ (k ∷ [])) ls → Grown ks ls
grown_snoc ks ls k g =
    let e = known_bytes_append ks k in
    let f : length (ks ++ (k ∷ [])) ≡ length ks + 1 = length-append ks (k ∷ []) in
    record { count = omega (arith, g.count); size = omega (arith, g.size) }

learnt_grown : (es : List Event) (ks : List Known) → Grown ks (learnt_from ks es)
unfolding learnt_from
learnt_grown [] ks = record { count = omega arith; size = omega arith }
learnt_grown (learn v a ∷ es) ks = go (knows v ks) (learnt_grown es ks) (learnt_grown es (ks ++ (record { value = v; action = a } ∷ [])))
  where
    go : (b : Bool) → Grown ks (learnt_from ks es) → Grown (ks ++ (record { value = v; action = a } ∷ [])) (learnt_from (ks ++ (record { value = v; action = a } ∷ [])) es)
        → Grown ks (learnt_from (cond b ks (ks ++ (record { value = v; action = a } ∷ []))) es)
    go true g h = g
    go false g h = grown_snoc ks _ _ h
learnt_grown (change ρ went came ∷ es) ks = learnt_grown es ks

-- ---- the progress against the table

-- what the sweep would know
abbrev pub known : Bool → List Known → List Event → List Known
known sweep ks es = cond sweep (learnt_from ks es) ks

-- a progress that knows L and has the rows σ and no change too large (o); or it stopped
abbrev pub ProgressIs : List Known → List Row → Bool → Progress → Type 0
ProgressIs L σ o (running ls σs y) = (ls ≡ L) × (σs ≡ σ) × (exceeds L ≡ false) × (o ≡ false)
ProgressIs L σ o (stopped e) = ((e ≡ TooMuchLearnt) × (exceeds L ≡ true)) ⊎ ((e ≡ MessageTooLong) × (o ≡ true))

pub progress_stopped : (sweep : Bool) (es : List Event) (e : Refusal) → after_events sweep es (stopped e) ≡ stopped e
unfolding after_events after_event
progress_stopped sweep [] e = refl
progress_stopped sweep (x ∷ es) e = progress_stopped sweep es e

-- one value more is too much, or not
exceeds_more : (ks : List Known) (k : Known) (ls : List Known) → (leb LEARNT_MAX (length ks) || ltb LEARNT_BYTES_MAX (known_bytes ks + length k.value)) ≡ true
    → Grown (ks ++ (k ∷ [])) ls → exceeds ls ≡ true
unfolding exceeds
exceeds_more ks k ls h g = go (leb LEARNT_MAX (length ks)) refl h
  where
    e : known_bytes (ks ++ (k ∷ [])) ≡ known_bytes ks + length k.value
    e = known_bytes_append ks k

    f : length (ks ++ (k ∷ [])) ≡ length ks + 1
    f = length-append ks (k ∷ [])

    go : (b : Bool) → leb LEARNT_MAX (length ks) ≡ b → (b || ltb LEARNT_BYTES_MAX (known_bytes ks + length k.value)) ≡ true → (ltb LEARNT_MAX (length ls) || ltb LEARNT_BYTES_MAX (known_bytes ls)) ≡ true
    go true a c = or_left (ltb LEARNT_BYTES_MAX (known_bytes ls)) (lt-ltb LEARNT_MAX (length ls) (omega (arith, leb-true LEARNT_MAX (length ks) a, g.count, f)))
    go false a c = or_right (ltb LEARNT_MAX (length ls)) (lt-ltb LEARNT_BYTES_MAX (known_bytes ls) (omega (arith, ltb-true LEARNT_BYTES_MAX (known_bytes ks + length k.value) c, g.size, e)))

within_more : (ks : List Known) (k : Known) → (leb LEARNT_MAX (length ks) || ltb LEARNT_BYTES_MAX (known_bytes ks + length k.value)) ≡ false → exceeds (ks ++ (k ∷ [])) ≡ false
unfolding exceeds
within_more ks k h = go (leb LEARNT_MAX (length ks)) refl h
  where
    go : (b : Bool) → leb LEARNT_MAX (length ks) ≡ b → (b || ltb LEARNT_BYTES_MAX (known_bytes ks + length k.value)) ≡ false
        → (ltb LEARNT_MAX (length (ks ++ (k ∷ []))) || ltb LEARNT_BYTES_MAX (known_bytes (ks ++ (k ∷ [])))) ≡ false
    go true a c = clash c
    go false a c =
        or_false (le-ltb LEARNT_MAX (length (ks ++ (k ∷ []))) (omega (arith, leb-false LEARNT_MAX (length ks) a, length-append ks (k ∷ []))))
        (le-ltb LEARNT_BYTES_MAX (known_bytes (ks ++ (k ∷ []))) (omega (arith, ltb-false LEARNT_BYTES_MAX (known_bytes ks + length k.value) c, known_bytes_append ks k)))

pub progress_is : (sweep : Bool) (es : List Event) (ks : List Known) (ρs : List Row) (z : ℕ) → exceeds ks ≡ false
    → ProgressIs (known sweep ks es) (ρs ++ rows_of es) (overflows z es) (after_events sweep es (running ks ρs z))
unfolding after_events after_event overflows learnt_from
progress_is true [] ks ρs z h = (refl, sym (append-nil ρs), h, refl)
progress_is false [] ks ρs z h = (refl, sym (append-nil ρs), h, refl)
progress_is false (learn v a ∷ es) ks ρs z h = progress_is false es ks ρs z h
progress_is true (learn v a ∷ es) ks ρs z h =
    go (knows v ks) (leb LEARNT_MAX (length ks) || ltb LEARNT_BYTES_MAX (known_bytes ks + length v)) refl (progress_is true es ks ρs z h)
    (progress_is true es (ks ++ (record { value = v; action = a } ∷ [])) ρs z)
  where
    go : (b c : Bool) → (leb LEARNT_MAX (length ks) || ltb LEARNT_BYTES_MAX (known_bytes ks + length v)) ≡ c
        → ProgressIs (learnt_from ks es) (ρs ++ rows_of es) (overflows z es) (after_events true es (running ks ρs z))
        → (exceeds (ks ++ (record { value = v; action = a } ∷ [])) ≡ false
        → ProgressIs (learnt_from (ks ++ (record { value = v; action = a } ∷ [])) es) (ρs ++ rows_of es) (overflows z es)
        (after_events true es (running (ks ++ (record { value = v; action = a } ∷ [])) ρs z)))
        → ProgressIs (learnt_from (cond b ks (ks ++ (record { value = v; action = a } ∷ []))) es) (ρs ++ rows_of es) (overflows z es)
        (after_events true es (cond b (running ks ρs z) (cond c (stopped TooMuchLearnt) (running (ks ++ (record { value = v; action = a } ∷ [])) ρs z))))
    go true c e f g = f
    go false true e f g =
        rw (progress_stopped true es TooMuchLearnt)
        (inl (
          refl,
          exceeds_more ks (record { value = v; action = a }) (learnt_from (ks ++ (record { value = v; action = a } ∷ [])) es) e
              (learnt_grown es (ks ++ (record { value = v; action = a } ∷ []))),
        ))
    go false false e f g = g (within_more ks (record { value = v; action = a }) e)
progress_is sweep (change ρ went came ∷ es) ks ρs z h =
    go (ltb TEXT_MAX (z - went + came)) (progress_is sweep es ks (ρs ++ (ρ ∷ [])) (z - went + came) h)
  where
    go : (c : Bool) → ProgressIs (known sweep ks es) ((ρs ++ (ρ ∷ [])) ++ rows_of es) (overflows (z - went + came) es)
        (after_events sweep es (running ks (ρs ++ (ρ ∷ [])) (z - went + came)))
        → ProgressIs (known sweep ks es) (ρs ++ (ρ ∷ rows_of es)) (c || overflows (z - went + came) es)
        (after_events sweep es (cond c (stopped MessageTooLong) (running ks (ρs ++ (ρ ∷ [])) (z - went + came))))
    go true f = rw (progress_stopped sweep es MessageTooLong) (inr (refl, refl))
    go false f = rw (← append_assoc ρs (ρ ∷ []) (rows_of es)) f

-- ---- posture and sweep learn nothing

learnt_none : (es : List Event) (ks : List Known) → Learns (λ v. ⊥) es → learnt_from ks es ≡ ks
unfolding learnt_from
learnt_none [] ks h = refl
learnt_none (learn v a ∷ es) ks h = absurd h.0
learnt_none (change ρ went came ∷ es) ks h = learnt_none es ks h

-- with the sweep on, what is known was learnt; with the sweep off nothing is
learnt_known : (Q : Text → Type 0) (es : List Event) (ks : List Known) → Learns Q es → AllKnown Q ks → AllKnown Q (learnt_from ks es)
unfolding learnt_from
learnt_known Q [] ks h k = k
learnt_known Q (learn v a ∷ es) ks h k =
    by_cond (λ (l : List Known). AllKnown Q (learnt_from l es)) (knows v ks) ks _ (λ _. learnt_known Q es ks h.1 k)
    (λ _. learnt_known Q es _ h.1 (known_snoc Q ks _ k h.0))
learnt_known Q (change ρ went came ∷ es) ks h k = learnt_known Q es ks h k

pub known_all_learnt : (Q : Text → Type 0) (es : List Event) (sweep : Bool) → T (not sweep) ⊎ Learns Q es → AllKnown Q (known sweep [] es)
known_all_learnt Q es true (inl off) = absurd off
known_all_learnt Q es true (inr h) = learnt_known Q es [] h tt
known_all_learnt Q es false h = tt

learnt_append : (a b : List Event) (ks : List Known) → learnt_from ks (a ++ b) ≡ learnt_from (learnt_from ks a) b
unfolding learnt_from
learnt_append [] b ks = refl
learnt_append (learn v x ∷ a) b ks = learnt_append a b _
learnt_append (change ρ went came ∷ a) b ks = learnt_append a b ks

overflows_append : (a b : List Event) (z : ℕ) → overflows z a ≡ true → overflows z (a ++ b) ≡ true
unfolding overflows
overflows_append [] b z h = clash (sym h)
overflows_append (learn v x ∷ a) b z h = overflows_append a b z h
overflows_append (change ρ went came ∷ a) b z h = go (ltb TEXT_MAX (z - went + came)) h (overflows_append a b (z - went + came))
  where
    go : (c : Bool) → (c || overflows (z - went + came) a) ≡ true → (overflows (z - went + came) a ≡ true → overflows (z - went + came) (a ++ b) ≡ true)
        → (c || overflows (z - went + came) (a ++ b)) ≡ true
    go true e f = refl
    go false e f = f e

progress_append : (sweep : Bool) (a b : List Event) (B : Progress) → after_events sweep (a ++ b) B ≡ after_events sweep b (after_events sweep a B)
unfolding after_events
progress_append sweep [] b B = refl
progress_append sweep (e ∷ a) b B = progress_append sweep a b (after_event sweep B e)

-- ---- a run

unfoldable pub refusal_in : {X : Type 0} → Answer X → Option Refusal
refusal_in (done x) = none
refusal_in (refused e n) = some e

module _ (z : ℕ) (key : ℕ) (P : Policy) (m : Message) where
  abbrev s : Separators
  s = m.separators

  abbrev before : List Event
  before = events_before_sweep key s P m.segments

  -- what the sweep says that knows ks
  abbrev sweeping : List Known → List Event
  sweeping ks = segments_events (unnamed_events key s (for_sweep s ks)) (before_sweep key s P m.segments)

  abbrev begun : Progress
  begun = running [] [] z

  known_all : (sweep : Bool) (ks : List Known) → known sweep [] (before ++ sweeping ks) ≡ known sweep [] before
  known_all true ks = learnt_append before (sweeping ks) [] ∙ learnt_none (sweeping ks) (learnt_from [] before) (learns_segs key s (λ v. ⊥) (for_sweep s ks) (before_sweep key s P m.segments))
  known_all false ks = refl

  abbrev FinishedIs : Progress → Type 0
  FinishedIs B = ProgressIs (learnt_in key P m) (rows_of (events_of key P m)) (overflows z (events_of key P m)) B

  finished : (b : ℕ) (B : Progress) → FinishedIs B → (ss : List Segment) → Judges (run_row z b key P m) (refusal_in (reported b (redacted_as s m.last_cr B ss)))
  unfolding redacted_as reported
  finished b (running ls σs y) h ss = rw h.1 (go (ltb b (length (print_rows (rows_of (events_of key P m))))) refl)
    where
      go : (c : Bool) → ltb b (length (print_rows (rows_of (events_of key P m)))) ≡ c
          → Judges (run_row z b key P m) (refusal_in {X = Redaction} (cond c (refused ReportTooLong 0) (done (record { text = print_segments s m.last_cr ss; rows = rows_of (events_of key P m) }))))
      go true e = unfold refusal_in run_row is number in rw e
      go false e = unfold refusal_in run_row in λ x. or_false (or_false (and_none (is x TooMuchLearnt) h.2) (and_none (is x MessageTooLong) h.3)) (and_none (is x ReportTooLong) e)
  finished b (stopped e) (inl (q, x)) ss = unfold refusal_in run_row in rw q (unfold is number in rw x)
  finished b (stopped e) (inr (q, x)) ss = unfold refusal_in run_row in rw q (unfold is number in rw x)

  from_progress : (B : Progress) → after_events P.sweep before begun ≡ B
      → ProgressIs (known P.sweep [] before) ([] ++ rows_of before) (overflows z before) B
      → FinishedIs (after_events P.sweep (sweeping (known_in B)) B)
  unfolding known_in learnt_in events_of
  from_progress (running ls σs y) e h =
      rw h.0
      (subst (λ (C : Progress). FinishedIs (after_events P.sweep (sweeping (known P.sweep [] before)) C)) (e ∙ ap (λ (x : List Known). running x σs y) h.0)
      (rw (← progress_append P.sweep before (sweeping (known P.sweep [] before)) begun)
      (subst (λ (L : List Known). ProgressIs L (rows_of (events_of key P m)) (overflows z (events_of key P m))
      (after_events P.sweep (before ++ sweeping (known P.sweep [] before)) begun))
      (known_all P.sweep (known P.sweep [] before))
      (progress_is P.sweep (before ++ sweeping (known P.sweep [] before)) [] [] _ (unfold exceeds known_bytes in refl)))))
  from_progress (stopped e) q (inl (f, x)) = rw (progress_stopped P.sweep (sweeping []) e) (inl (f, x))
  from_progress (stopped e) q (inr (f, x)) = rw (progress_stopped P.sweep (sweeping []) e) (inr (f, overflows_append before _ _ x))

  abbrev started : Progress
  started = after_events P.sweep before begun

  ended_is : FinishedIs (after_events P.sweep (sweeping (known_in started)) started)
  ended_is = from_progress started refl (progress_is P.sweep before [] [] _ (unfold exceeds known_bytes in refl))

  pub run_judged : (b : ℕ) → Judges (run_row z b key P m) (refusal_in (reported b (redact_from z key P m)))
  unfolding redact_from swept progress_before_sweep
  run_judged b = finished b _ ended_is (over_segments (unnamed_leaf key s (for_sweep s (known_in started))) (before_sweep key s P m.segments))

  -- ---- what a run is

  abbrev swept_with : List Known → List Segment
  swept_with ks = over_segments (unnamed_leaf key s (for_sweep s ks)) (before_sweep key s P m.segments)

  ended_run : (C : Progress) → FinishedIs C → RunIs z key P m (redacted_as s m.last_cr C (swept_with (learnt_in key P m)))
  unfolding redacted_as text_after
  ended_run (running ls σs y) h =
      subst (RunIs z key P m) (ap (R.done (text_after key P m)) (sym h.1)) (RunIs.goes h.2 h.3)
  ended_run (stopped e) (inl (q, x)) = rw q (RunIs.learnt_full x)
  ended_run (stopped e) (inr (q, x)) = rw q (RunIs.too_long_lem x)

  begun_run : (B : Progress) → ProgressIs (known P.sweep [] before) ([] ++ rows_of before) (overflows z before) B
      → FinishedIs (after_events P.sweep (sweeping (known_in B)) B) → RunIs z key P m (redacted_as s m.last_cr (after_events P.sweep (sweeping (known_in B)) B) (swept_with (known_in B)))
  unfolding known_in learnt_in redacted_as
  begun_run (running ls σs y) h k =
      subst (λ (x : List Known). RunIs z key P m (redacted_as s m.last_cr (after_events P.sweep (sweeping ls) (running ls σs y)) (swept_with x))) (sym h.0) (ended_run (after_events P.sweep (sweeping ls) (running ls σs y)) k)
  begun_run (stopped e) h k = rw (progress_stopped P.sweep (sweeping []) e) (ended_run (stopped e) (rw (progress_stopped P.sweep (sweeping []) e) at k))

  pub run_is : RunIs z key P m (redact_from z key P m)
  unfolding redact_from swept progress_before_sweep
  run_is = begun_run started (progress_is P.sweep before [] [] _ (unfold exceeds known_bytes in refl)) ended_is
