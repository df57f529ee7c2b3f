-- Laws of what print, append and built-in answer. Assumes nothing.
use Rattle.std.proofs.Common.{◌≡◌, refl, sym, ap, ◌∙◌, Bool, true, false, cond, ℕ, ◌+◌, ◌≤◌, ltb, length, length-append, arith, Result}
use Rattle.std.proofs.Math.Seq.{take-append_seam}
use Rattle.text.specs.Text.{Text, put}
use Rattle.refusal.specs.declared.Refusal.{Refusal}
use Rattle.refusal.specs.declared.Refusal.TheVariants.{TooMany, NoSuchBuiltin}
use Rattle.refusal.specs.declared.Refused.{Refused}
use Rattle.refusal.specs.Limits.{RULES_MAX}
use Rattle.policy_model.specs.Policy as Q
use Rattle.policy_model.specs.Policy.{PolicyRead, read, read_policy, print_policy}
use Rattle.policy_model.specs.Builtin.{builtin_text}
use Rattle.policy_print.specs.Print.{PrintedIs, printed_of, buffer_of, merged_read, appended, builtin_read}
use Rattle.run_model.specs.Entries.{done, refused, with_policy, printed_policy, merged_answer}
use Rattle.entries.specs.Inner.{answer_of, Answers}

-- ---- what was printed

-- a text that a buffer took lies in it
front_fits : (d t : Text) → length (put d 0 t) ≡ length d → length t ≤ length d
unfolding put
front_fits d t e = omega (arith, simp length-append at e)

pub printed_answers : (o : PolicyRead) {d d' : Text} {r : Result ℕ Refused} → PrintedIs o d d' r → length d' ≡ length d → Answers (with_policy o printed_policy) d' r
unfolding printed_of buffer_of answer_of with_policy printed_policy put
printed_answers (read p) {d} {d'} g e = rw g.result (record {
  is = ap done (rw g.buffer (take-append_seam (print_policy p) _));
  inside = omega (arith, e, front_fits d (print_policy p) (ap length (sym g.buffer) ∙ e));
})
printed_answers (Q.refused x n) g e = rw g.result (record { is = refl; inside = tt })

-- ---- the answers of print, append and built-in

choice : (b : Bool) (e : Refusal) (q : PolicyRead) → cond b (refused e 0) (with_policy q printed_policy) ≡ with_policy (cond b (Q.refused e 0) q) printed_policy
unfolding with_policy
choice true e q = refl
choice false e q = refl

pub appended_answer : (o q : PolicyRead) → (with_policy o λ P. with_policy q λ Q. merged_answer P Q) ≡ with_policy (appended o q) printed_policy
unfolding with_policy appended merged_answer merged_read
appended_answer (read p) (read q) = choice (ltb RULES_MAX (length p.rules + length q.rules)) TooMany (read (Q.merged p q))
appended_answer (read p) (Q.refused e n) = refl
appended_answer (Q.refused e n) q = refl

pub builtin_answer_lem : (n : ℕ) → cond (ltb 3 n) (refused NoSuchBuiltin 0) (with_policy (read_policy (builtin_text n)) printed_policy) ≡ with_policy (builtin_read n) printed_policy
unfolding builtin_read
builtin_answer_lem n = choice (ltb 3 n) NoSuchBuiltin (read_policy (builtin_text n))
