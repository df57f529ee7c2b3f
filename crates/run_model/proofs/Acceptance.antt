-- Each entry's number is 0 exactly when no row of the table applies, and a refusal's row applies. Assumes nothing.
use mathlib.Core.Path.{◌≡◌, refl, sym, ◌∙◌}
use mathlib.Core.Bool.{Bool, true, false, not, cond, ◌&&◌, ◌||◌}
use mathlib.Core.Option.{Option, none, some}
use Prim.Native.Nat.{ℕ, ◌+◌}
use lib.Dec.{ltb}
use lib.ListN.{length}
use borrow.Author.Tests.{ltb-false}
use Rattle.text.specs.Text.{Text}
use Rattle.text.proofs.Laws.{clash}
use Rattle.refusal.specs.declared.Refusal.{Refusal}
use Rattle.refusal.specs.declared.Refusal.TheVariants.{ShortBuffer, TooLong, ForeignByte, TooMany, Withheld, NoSuchBuiltin}
use Rattle.refusal.specs.Refusal.{number, too_long, no_foreign}
use Rattle.refusal.specs.declared.input.Input.TheVariants as Inputs
use Rattle.refusal.specs.Limits.{RULES_MAX}
use Rattle.message_model.specs.Message.{message_of, message_fault, print_message}
use Rattle.policy_model.specs.Policy as Q
use Rattle.policy_model.specs.Policy.{Policy, PolicyRead, read, read_policy, Unrecognised, pass, refuse, apply}
use Rattle.policy_model.specs.Builtin.{builtin_text}
use Rattle.policy_model.proofs.PolicyReadBack.{builtin_reads}
use Rattle.run_model.specs.Redact.{redact}
use Rattle.run_model.specs.Entries.{Answer, done, refused, Lent, LentReport, number_of, outcome, outcome_with_report, is_short, with_buffers, with_policy, without_fault, reported, redact_answer, printed_policy, print_answer, merged_answer, append_answer, builtin_answer, payload_fault, unrecognised, payload_answer, redact_outcome, print_outcome, append_outcome, builtin_outcome, payload_outcome}
use Rattle.run_model.specs.Table.{is, buffer_row, policy_row, with_policy_row, message_row, run_row, row_of_redact, row_of_print, row_of_append, row_of_builtin, refuses, row_of_payload, Exactly}
use Rattle.run_model.proofs.Accepted.{number_positive}
use Rattle.run_model.proofs.Judged.{Judges, or_false, or_left, or_right, and_none, policy_refusal, policy_judged, message_judged}
use Rattle.run_model.proofs.Progress.{refusal_in, run_judged}

-- ---- one part after another

-- the first part is judged without refusal, then the second; or the first has one
both_judged : (f g : Refusal → Bool) (o : Option Refusal) → Judges f none → Judges g o → Judges (λ e. f e || g e) o
both_judged f g none h k = λ e. or_false (h e) (k e)
both_judged f g (some e) h k = or_right (f e) k

first_judged : (f g : Refusal → Bool) (e : Refusal) → Judges f (some e) → Judges (λ x. f x || g x) (some e)
first_judged f g e h = or_left (g e) h

buffers_judged : {X : Type 0} (b : Lent) (g : Refusal → Bool) (a : Answer X) → Judges g (refusal_in a) → Judges (λ e. buffer_row b e || g e) (refusal_in (with_buffers b a))
unfolding with_buffers buffer_row
buffers_judged b g a h = go (is_short b) refl
  where
    go : (c : Bool) → is_short b ≡ c → Judges (λ e. is e ShortBuffer && is_short b || g e) (refusal_in (cond c (refused ShortBuffer 0) a))
    go true e = unfold refusal_in is number in rw e
    go false e = both_judged (λ x. is x ShortBuffer && is_short b) g (refusal_in a) (λ x. and_none (is x ShortBuffer) e) h

-- a policy and what is done with it: g says what rows apply then
policy_then : {X : Type 0} (s : Text) (g : PolicyRead → Refusal → Bool) (f : Policy → Answer X) → ((P : Policy) → read_policy s ≡ read P → Judges (g (read P)) (refusal_in (f P)))
    → Judges (λ e. policy_row s e || g (read_policy s) e) (refusal_in (with_policy (read_policy s) f))
unfolding policy_refusal with_policy refusal_in
policy_then s g f h = go (read_policy s) refl (policy_judged s)
  where
    go : (r : PolicyRead) → read_policy s ≡ r → Judges (policy_row s) (policy_refusal r) → Judges (λ e. policy_row s e || g r e) (refusal_in (with_policy r f))
    go (read P) q k = both_judged (policy_row s) (g (read P)) (refusal_in (f P)) k (h P q)
    go (Q.refused e n) q k = or_left (g (Q.refused e n) e) k

fault_then : {X : Type 0} (f g : Refusal → Bool) (o : Option Refusal) (a : Answer X) → Judges f o → Judges g (refusal_in a)
    → Judges (λ e. f e || g e) (refusal_in (without_fault o a))
unfolding without_fault refusal_in
fault_then f g none a h k = both_judged f g (refusal_in a) h k
fault_then f g (some e) a h k = or_left (g e) h

-- ---- the five entries

redact_judged : (b : LentReport) (m p : Text) (key : ℕ) → Judges (row_of_redact b m p key) (refusal_in (redact_answer b m p key))
unfolding row_of_redact redact_answer with_policy_row
redact_judged b m p key =
    buffers_judged b.buffers _ _
    (policy_then p (λ r e. message_row m e || with_policy_row r λ P. run_row (length (print_message (message_of m))) b.report key P (message_of m) e)
    (λ P. without_fault (message_fault m) (reported b.report (redact key P (message_of m))))
    (λ P q. fault_then (message_row m) (run_row (length (print_message (message_of m))) b.report key P (message_of m)) (message_fault m) (reported b.report (redact key P (message_of m))) (message_judged m)
    (unfold redact in run_judged (length (print_message (message_of m))) key P (message_of m) b.report)))

print_judged : (b : Lent) (p : Text) → Judges (row_of_print b p) (refusal_in (print_answer b p))
unfolding row_of_print print_answer
print_judged b p = buffers_judged b (policy_row p) _ (go (read_policy p) (policy_judged p))
  where
    go : (r : PolicyRead) → Judges (policy_row p) (policy_refusal r) → Judges (policy_row p) (refusal_in (with_policy r printed_policy))
    go (read P) k = unfold policy_refusal with_policy printed_policy refusal_in in k
    go (Q.refused e n) k = unfold policy_refusal with_policy refusal_in in k

-- the merged rules are too many, or not
merged_judged : (P R : Policy) → Judges (λ e. is e TooMany && ltb RULES_MAX (length P.rules + length R.rules)) (refusal_in (merged_answer P R))
unfolding merged_answer printed_policy
merged_judged P R = go (ltb RULES_MAX (length P.rules + length R.rules)) refl
  where
    go : (c : Bool) → ltb RULES_MAX (length P.rules + length R.rules) ≡ c
        → Judges (λ e. is e TooMany && ltb RULES_MAX (length P.rules + length R.rules)) (refusal_in (cond c (refused TooMany 0) (printed_policy (Q.merged P R))))
    go true e = unfold refusal_in is number in e
    go false e = unfold refusal_in printed_policy in λ x. and_none (is x TooMany) e

append_judged : (b : Lent) (p q : Text) → Judges (row_of_append b p q) (refusal_in (append_answer b p q))
unfolding row_of_append append_answer with_policy_row
append_judged b p q =
    buffers_judged b _ _
    (policy_then p
    (λ r e. policy_row q e || with_policy_row r λ P. with_policy_row (read_policy q) λ R. is e TooMany && ltb RULES_MAX (length P.rules + length R.rules))
    (λ P. with_policy (read_policy q) λ R. merged_answer P R)
    (λ P _. policy_then q (λ r e. with_policy_row r λ R. is e TooMany && ltb RULES_MAX (length P.rules + length R.rules)) (λ R. merged_answer P R)
    (λ R _. merged_judged P R)))

-- a built-in always reads
builtin_judged : (b : Lent) (n : ℕ) → Judges (row_of_builtin b n) (refusal_in (builtin_answer b n))
unfolding row_of_builtin builtin_answer
builtin_judged b n = buffers_judged b (λ e. is e NoSuchBuiltin && ltb 3 n) _ (go (ltb 3 n) refl)
  where
    go : (c : Bool) → ltb 3 n ≡ c
        → Judges (λ e. is e NoSuchBuiltin && ltb 3 n) (refusal_in (cond c (refused NoSuchBuiltin 0) (with_policy (read_policy (builtin_text n)) printed_policy)))
    go true e = unfold refusal_in is number in e
    go false e = unfold with_policy printed_policy refusal_in in rw (builtin_reads n (ltb-false 3 n e)).1 (λ x. and_none (is x NoSuchBuiltin) e)

payload_fault_judged : (t : Text) → Judges (λ e. is e TooLong && too_long t || is e ForeignByte && not (no_foreign Inputs.Payload t)) (payload_fault t)
unfolding payload_fault
payload_fault_judged t = go (too_long t) (no_foreign Inputs.Payload t) refl refl
  where
    go : (a c : Bool) → too_long t ≡ a → no_foreign Inputs.Payload t ≡ c
        → Judges (λ e. is e TooLong && too_long t || is e ForeignByte && not (no_foreign Inputs.Payload t)) (cond a (some TooLong) (cond (not c) (some ForeignByte) none))
    go true c e f = unfold is number in rw e
    go false false e f = unfold is number in rw f
    go false true e f = λ x. or_false (and_none (is x TooLong) e) (and_none (is x ForeignByte) (rw f))

withheld_judged : (key : ℕ) (u : Unrecognised) (t : Text) → Judges (λ e. is e Withheld && refuses u) (refusal_in (unrecognised key u t))
unfolding unrecognised refusal_in refuses
withheld_judged key pass t = λ x. and_none (is x Withheld) refl
withheld_judged key refuse t = unfold is number in refl
withheld_judged key (apply a) t = λ x. and_none (is x Withheld) refl

payload_judged : (b : Lent) (t p : Text) (key : ℕ) → Judges (row_of_payload b t p) (refusal_in (payload_answer b t p key))
unfolding row_of_payload payload_answer with_policy_row
payload_judged b t p key =
    buffers_judged b _ _
    (policy_then p
    (λ r e. (is e TooLong && too_long t || is e ForeignByte && not (no_foreign Inputs.Payload t)) || with_policy_row r λ P. is e Withheld && refuses P.unrecognised)
    (λ P. without_fault (payload_fault t) (unrecognised key P.unrecognised t))
    (λ P _. fault_then (λ e. is e TooLong && too_long t || is e ForeignByte && not (no_foreign Inputs.Payload t)) (λ e. is e Withheld && refuses P.unrecognised)
    (payload_fault t) (unrecognised key P.unrecognised t) (payload_fault_judged t) (withheld_judged key P.unrecognised t)))

-- ---- "Success is 0, exactly when no row applies"

exactly : {X : Type 0} (row : Refusal → Bool) (a : Answer X) → Judges row (refusal_in a) → Exactly row (number_of a)
unfolding refusal_in
exactly row (done x) h = record { accepts = λ k. refl; no_row = λ k. h; row_applies = λ k. absurd (k refl) }
exactly row (refused e n) h =
    record {
      accepts = λ k. clash (sym h ∙ k e);
      no_row = λ k. absurd (number_positive e k);
      row_applies = λ k. (e, refl, h);
    }

pub redact_exactly : (b : LentReport) (message policy : Text) (key : ℕ) → Exactly (row_of_redact b message policy key) (redact_outcome b message policy key).number
unfolding redact_outcome outcome_with_report
redact_exactly b m p key = exactly _ (redact_answer b m p key) (redact_judged b m p key)

pub print_exactly : (b : Lent) (policy : Text) → Exactly (row_of_print b policy) (print_outcome b policy).number
unfolding print_outcome outcome
print_exactly b p = exactly _ (print_answer b p) (print_judged b p)

pub append_exactly : (b : Lent) (first second : Text) → Exactly (row_of_append b first second) (append_outcome b first second).number
unfolding append_outcome outcome
append_exactly b p q = exactly _ (append_answer b p q) (append_judged b p q)

pub builtin_exactly : (b : Lent) (n : ℕ) → Exactly (row_of_builtin b n) (builtin_outcome b n).number
unfolding builtin_outcome outcome
builtin_exactly b n = exactly _ (builtin_answer b n) (builtin_judged b n)

pub payload_exactly : (b : Lent) (payload policy : Text) (key : ℕ) → Exactly (row_of_payload b payload policy) (payload_outcome b payload policy key).number
unfolding payload_outcome outcome
payload_exactly b t p key = exactly _ (payload_answer b t p key) (payload_judged b t p key)
