-- One unit of a file: it is redacted as by itself, and its rows are counted. Assumes nothing.
use mathlib.Core.Path.{◌≡◌, refl, sym, ap, ◌∙◌}
use mathlib.Core.Bool.{Bool, true, false, not, cond, ◌||◌}
use mathlib.Core.List.{List, [], ◌∷◌, ◌++◌, append-nil, append_assoc}
use Prim.Native.Nat.{ℕ, ◌+◌, ◌-◌, ◌≤◌}
use native.Mathlib.Omega.{arith}
use borrow.Author.Tests.{le-ltb, ltb-false}
use lib.Dec.{leb, ltb}
use lib.ListN.{length, length-append}
use Rattle.text.specs.Text.{Text}
use Rattle.text.proofs.Laws.{clash}
use Rattle.er7.specs.declared.separators.Separators.{Separators}
use Rattle.er7_redact.specs.Policy.{Rule}
use Rattle.refusal.specs.declared.Refusal.{Refusal}
use Rattle.refusal.specs.declared.Refusal.TheVariants.{TooMuchLearnt, MessageTooLong}
use Rattle.refusal.specs.Limits.{LEARNT_BYTES_MAX, LEARNT_MAX, TEXT_MAX}
use Rattle.message_model.specs.Message.{Segment, Message}
use Rattle.policy_model.specs.Policy.{Policy}
use Rattle.run_model.specs.Redact.{Row, Event, learn, change, Known, running, stopped, knows, known_bytes, after_event, after_events, rules_events, after_rule, events_before_sweep, Redacted, done, redact_from}
use Rattle.run_model.specs.Table.{rows_of, learnt_in, events_of, exceeds, overflows}
use Rattle.run_model.specs.Counts.{rule_turns, posture_turn, sweep_turn, row_counts, counts_of, sum, text_after, RunIs}
use Rattle.run_model.proofs.InStep.{rows_append}
use Rattle.run_model.proofs.Progress.{progress_stopped, run_is}

-- ---- with fewer bytes beside it a unit fares no worse

overflows_less : (es : List Event) (y z : ℕ) → y ≤ z → overflows z es ≡ false → overflows y es ≡ false
unfolding overflows
overflows_less [] y z h e = refl
overflows_less (learn v a ∷ es) y z h e = overflows_less es y z h e
overflows_less (change ρ went came ∷ es) y z h e = go (overflows_less es (y - went + came) (z - went + came)) (ltb TEXT_MAX (z - went + came)) refl e
  where
    go : (y - went + came ≤ z - went + came → overflows (z - went + came) es ≡ false → overflows (y - went + came) es ≡ false) → (b : Bool) → ltb TEXT_MAX (z - went + came) ≡ b → (b || overflows (z - went + came) es) ≡ false
        → (ltb TEXT_MAX (y - went + came) || overflows (y - went + came) es) ≡ false
    go on true q f = clash f
    go on false q f =
        let k = ltb-false TEXT_MAX (z - went + came) q in
        rw (le-ltb TEXT_MAX (y - went + came) (omega arith)) (on (omega arith) f)

pub done_is : (z key : ℕ) (P : Policy) (m : Message) (d : Redacted) → RunIs z key P m d → (t : Text) (ρs : List Row) → d ≡ done t ρs
    → (exceeds (learnt_in key P m) ≡ false) × (overflows z (events_of key P m) ≡ false) × (t ≡ text_after key P m) × (ρs ≡ rows_of (events_of key P m))
done_is z key P m d (RunIs.goes e f) t ρs q = (e, f, (cc), (cc))
done_is z key P m d (RunIs.learnt_full e) t ρs q = let z : true ≡ false = cc in clash z
done_is z key P m d (RunIs.too_long_lem e) t ρs q = let z : true ≡ false = cc in clash z

pub is_done : (z key : ℕ) (P : Policy) (m : Message) (d : Redacted) → RunIs z key P m d → exceeds (learnt_in key P m) ≡ false → overflows z (events_of key P m) ≡ false
    → d ≡ done (text_after key P m) (rows_of (events_of key P m))
is_done z key P m d (RunIs.goes a b) e f = refl
is_done z key P m d (RunIs.learnt_full a) e f = clash (sym a ∙ e)
is_done z key P m d (RunIs.too_long_lem a) e f = clash (sym a ∙ f)

pub fewer_beside : (y z : ℕ) → y ≤ z → (key : ℕ) (P : Policy) (m : Message) (t : Text) (ρs : List Row)
    → redact_from z key P m ≡ done t ρs → redact_from y key P m ≡ done t ρs
fewer_beside y z h key P m t ρs e =
    let f = done_is z key P m _ (run_is z key P m) t ρs e in
    rw (f.2, f.3) (is_done y key P m _ (run_is y key P m) f.0 (overflows_less (events_of key P m) y z h f.1))

-- ---- "All of them together equal the rows in the report"

rules_sum : (key : ℕ) (s : Separators) (rs : List Rule) (ss : List Segment) → sum (row_counts (rule_turns key s rs ss)) ≡ length (rows_of (rules_events key s rs ss))
unfolding rule_turns row_counts sum rules_events
rules_sum key s [] ss = refl
rules_sum key s (r ∷ rs) ss = rw (rows_append, length-append, rules_sum key s rs (after_rule key s r ss))

pub sum_append : (a b : List ℕ) → sum (a ++ b) ≡ sum a + sum b
unfolding sum
sum_append [] b = omega arith
sum_append (n ∷ a) b = rw (sum_append a b) (omega arith)

counts_sum : (key : ℕ) (P : Policy) (m : Message) → sum (counts_of key P m) ≡ length (rows_of (events_of key P m))
unfolding counts_of events_of events_before_sweep posture_turn sweep_turn sum
counts_sum key P m = simp (sum_append, rows_append, length-append, rules_sum) (omega arith)

pub rows_counted : (z key : ℕ) (P : Policy) (m : Message) (t : Text) (ρs : List Row) → redact_from z key P m ≡ done t ρs → sum (counts_of key P m) ≡ length ρs
rows_counted z key P m t ρs e = counts_sum key P m ∙ ap length (sym (done_is z key P m _ (run_is z key P m) t ρs e).3)

-- ---- for the code: what a turn adds to the rows, and what is known when the sweep starts

adds_stopped : (sweep : Bool) (es : List Event) (e : Refusal) (ks : List Known) (ρs : List Row) (z : ℕ) {X : Type 0} → after_events sweep es (stopped e) ≡ running ks ρs z → X
adds_stopped sweep es e ks ρs z q = let f : stopped e ≡ running ks ρs z = sym (progress_stopped sweep es e) ∙ q in let g : true ≡ false = cc in clash g

pub turn_adds : (sweep : Bool) (es : List Event) (ks ls : List Known) (ρs σs : List Row) (y z : ℕ) → after_events sweep es (running ks ρs y) ≡ running ls σs z → σs ≡ ρs ++ rows_of es
unfolding after_events after_event
turn_adds sweep [] ks ls ρs σs y z e = let q : ρs ≡ σs = cc in sym q ∙ sym (append-nil ρs)
turn_adds sweep (learn v a ∷ es) ks ls ρs σs y z e =
    go (not sweep || knows v ks) (leb LEARNT_MAX (length ks) || ltb LEARNT_BYTES_MAX (known_bytes ks + length v)) (λ ks'. turn_adds sweep es ks' ls ρs σs y z) e
  where
    go : (b c : Bool) → ((ks' : List Known) → after_events sweep es (running ks' ρs y) ≡ running ls σs z → σs ≡ ρs ++ rows_of es)
        → after_events sweep es (cond b (running ks ρs y) (cond c (stopped TooMuchLearnt) (running (ks ++ (record { value = v; action = a } ∷ [])) ρs y))) ≡ running ls σs z
        → σs ≡ ρs ++ rows_of es
    go true c on q = on _ q
    go false true on q = adds_stopped sweep es _ ls σs z q
    go false false on q = on _ q
turn_adds sweep (change ρ went came ∷ es) ks ls ρs σs y z e =
    go (ltb TEXT_MAX (y - went + came)) (turn_adds sweep es ks ls (ρs ++ (ρ ∷ [])) σs (y - went + came) z) e
  where
    go : (b : Bool) → (after_events sweep es (running ks (ρs ++ (ρ ∷ [])) (y - went + came)) ≡ running ls σs z → σs ≡ (ρs ++ (ρ ∷ [])) ++ rows_of es)
        → after_events sweep es (cond b (stopped MessageTooLong) (running ks (ρs ++ (ρ ∷ [])) (y - went + came))) ≡ running ls σs z → σs ≡ ρs ++ (ρ ∷ rows_of es)
    go true on q = adds_stopped sweep es _ ls σs z q
    go false on q = on q ∙ append_assoc ρs (ρ ∷ []) (rows_of es)
