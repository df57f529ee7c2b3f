-- What print, append and built-in leave in the output reads as the policy that was handed in, merged or named. Assumes nothing.
use mathlib.Core.Path.{◌≡◌, refl}
use mathlib.Core.Bool.{Bool, true, false, cond}
use Prim.Native.Nat.{ℕ, ◌+◌}
use borrow.Author.Tests.{ltb-false}
use lib.Dec.{ltb}
use lib.ListN.{length}
use Rattle.text.specs.Text.{Text}
use Rattle.refusal.specs.declared.Refusal.TheVariants.{ShortBuffer, TooMany, NoSuchBuiltin}
use Rattle.refusal.specs.Limits.{RULES_MAX}
use Rattle.policy_model.specs.Policy as Q
use Rattle.policy_model.specs.Policy.{Policy, PolicyRead, read, read_policy, merged, print_policy}
use Rattle.policy_model.specs.Builtin.{builtin_text}
use Rattle.policy_model.proofs.PolicyReadBack.{policy_read_back, merged_read_back}
use Rattle.run_model.specs.Entries.{Answer, refused, Lent, text_of, outcome, is_short, with_buffers, with_policy, printed_policy, merged_answer, print_answer, append_answer, builtin_answer, print_outcome, append_outcome, builtin_outcome, text_left}
use Rattle.run_model.proofs.Accepted.{Succeeds, number_positive}
use Rattle.run_model.proofs.Demand3.{filled_front}

-- what an outcome leaves is the answer's text
left_is : (b : Lent) (a : Answer Text) → text_left (outcome b a) ≡ text_of a
unfolding outcome
left_is b a = filled_front (text_of a) b.output

-- the text of an answer that is no refusal reads as a policy of which W holds
abbrev Reads : (Policy → Type 0) → Answer Text → Type 0
Reads W a = Succeeds a → (P : Policy) × W P × (read_policy (text_of a) ≡ read P)

buffers_read : (W : Policy → Type 0) (b : Lent) (a : Answer Text) → Reads W a → Reads W (with_buffers b a)
unfolding with_buffers
buffers_read W b a f = go (is_short b)
  where
    go : (c : Bool) → Reads W (cond c (refused ShortBuffer 0) a)
    go true h = absurd (number_positive ShortBuffer h)
    go false h = f h

policy_reads : (W : Policy → Type 0) (s : Text) (f : Policy → Answer Text) → ((P : Policy) → read_policy s ≡ read P → Reads W (f P)) → Reads W (with_policy (read_policy s) f)
unfolding with_policy
policy_reads W s f g = go (read_policy s) refl
  where
    go : (o : PolicyRead) → read_policy s ≡ o → Reads W (with_policy o f)
    go (read P) e h = g P e h
    go (Q.refused x n) e h = absurd (number_positive x h)

left_reads : (W : Policy → Type 0) (b : Lent) (a : Answer Text) → Reads W a → (outcome b a).number ≡ 0 → (P : Policy) × W P × (read_policy (text_left (outcome b a)) ≡ read P)
left_reads W b a f h = let r = f (unfold outcome in h) in (r.0, r.1, rw (left_is b a) r.2)

-- ---- the three

pub print_leaves_lem : (b : Lent) (policy : Text) → (print_outcome b policy).number ≡ 0
    → (P : Policy) × (read_policy policy ≡ read P) × (read_policy (text_left (print_outcome b policy)) ≡ read P)
unfolding print_outcome print_answer printed_policy
print_leaves_lem b policy =
    left_reads (λ P. read_policy policy ≡ read P) b _ (buffers_read _ b _ (policy_reads _ policy _ (λ P e h. (P, e, policy_read_back policy P e))))

-- M is what two texts read as, merged
record MergedFrom (first second : Text) (M : Policy) : Type 0 where
  one : Policy
  two : Policy
  first_reads : read_policy first ≡ read one
  second_reads : read_policy second ≡ read two
  is : M ≡ merged one two

merged_leaves : (b : Lent) (first second : Text) → (append_outcome b first second).number ≡ 0
    → (M : Policy) × MergedFrom first second M × (read_policy (text_left (append_outcome b first second)) ≡ read M)
unfolding append_outcome append_answer merged_answer printed_policy
merged_leaves b first second =
    left_reads (MergedFrom first second) b _
    (buffers_read _ b _ (policy_reads _ first _ (λ P e. policy_reads _ second _ (λ R f. both P R e f (ltb RULES_MAX (length P.rules + length R.rules)) refl))))
  where
    both : (P R : Policy) → read_policy first ≡ read P → read_policy second ≡ read R → (c : Bool) → ltb RULES_MAX (length P.rules + length R.rules) ≡ c → Reads (MergedFrom first second) (merged_answer P R)
    both P R e f true q h = absurd (number_positive TooMany (rw q at h))
    both P R e f false q h =
        (merged P R, record { one = P; two = R; first_reads = e; second_reads = f; is = refl }, rw q (merged_read_back first second P R e f (ltb-false RULES_MAX (length P.rules + length R.rules) q)))

pub append_leaves : (b : Lent) (first second : Text) → (append_outcome b first second).number ≡ 0
    → (P : Policy) × (R : Policy) × (read_policy first ≡ read P) × (read_policy second ≡ read R) × (read_policy (text_left (append_outcome b first second)) ≡ read (merged P R))
append_leaves b first second h = let m = merged_leaves b first second h in (m.1.one, m.1.two, m.1.first_reads, m.1.second_reads, rw (← m.1.is) m.2)

pub builtin_leaves : (b : Lent) (n : ℕ) → (builtin_outcome b n).number ≡ 0
    → (P : Policy) × (read_policy (builtin_text n) ≡ read P) × (read_policy (text_left (builtin_outcome b n)) ≡ read P)
unfolding builtin_outcome builtin_answer printed_policy
builtin_leaves b n = left_reads (λ P. read_policy (builtin_text n) ≡ read P) b _ (buffers_read _ b _ (go (ltb 3 n)))
  where
    go : (c : Bool) → Reads (λ P. read_policy (builtin_text n) ≡ read P) (cond c (refused NoSuchBuiltin 0) (with_policy (read_policy (builtin_text n)) printed_policy))
    go true h = absurd (number_positive NoSuchBuiltin h)
    go false h = policy_reads (λ P. read_policy (builtin_text n) ≡ read P) (builtin_text n) printed_policy (λ P e k. unfold printed_policy in (P, e, policy_read_back (builtin_text n) P e)) h
