-- Laws of what a payload gets. Assumes nothing.
use Rattle.std.proofs.Common.{◌≡◌, Some, None, ap, ℕ, zero-add, sym, arith, Result, Ok, Err, IsErrAnd, length, take}
use Rattle.std.proofs.Math.Option.{Option}
use Rattle.std.proofs.lemmas.Result.{err_from_is_err_and}
use Rattle.std.proofs.Math.Seq.{take-append_seam}
use Rattle.text.specs.Text.{Text, put, Wrote}
use Rattle.er7_redact.specs.Action as A
use Rattle.er7_redact.specs.Action.{as_action, ActionHeld, answer, written}
use Rattle.er7_redact.specs.declared.action.Action.{Action as HeldAction}
use Rattle.er7_redact.proofs.Actions.{answered_text, answered_nothing}
use Rattle.refusal.specs.declared.Refusal.{Refusal}
use Rattle.refusal.specs.declared.Refusal.TheVariants.{Withheld}
use Rattle.refusal.specs.declared.Refused.{Refused}
use Rattle.refusal.specs.Refusal.{without_line}
use Rattle.policy.specs.declared.line.Unrecognised.{Unrecognised as HeldUnrecognised}
use Rattle.policy.specs.declared.line.Unrecognised.TheVariants as Held
use Rattle.policy.specs.Line.{as_unrecognised, UnrecognisedHeld}
use Rattle.run_model.specs.Entries.{Answer, done, refused, without_fault, payload_fault, written_or, unrecognised}
use Rattle.entries.specs.Inner.{NeverLong, UnrecognisedShort, answer_of, Answers, fault_of}

-- what was written to the front of a buffer stands there
pub front_wrote : {d t d' : Text} {r : ℕ} → Wrote d 0 t d' r → take r d' ≡ t
unfolding put
front_wrote {d} {t} {d'} {r} w = rw (w.end, w.text, zero-add (length t), take-append_seam t _)

-- ---- an action

-- what an action writes, or the payload where it writes nothing
module _ (o : Option Text) (t : Text) where
  pub written_or_lem : {n : ℕ} → answer o ≡ Some n → written_or t o ≡ written o
  unfolding written_or
  written_or_lem e = ap (written_or t) (answered_text o e)

  pub nothing_or : answer o ≡ None → written_or t o ≡ t
  unfolding written_or
  nothing_or e = ap (written_or t) (answered_nothing o e)

-- ---- what a payload without a fault gets

module _ (key : ℕ) (policy t : Text) (u : HeldUnrecognised) where
  pub answer_pass : u ≡ Held.Pass → unrecognised key (as_unrecognised policy u) t ≡ done t
  unfolding unrecognised as_unrecognised
  answer_pass e = rw e

  pub answer_refuse : u ≡ Held.Refuse → unrecognised key (as_unrecognised policy u) t ≡ refused Withheld 0
  unfolding unrecognised as_unrecognised
  answer_refuse e = rw e

  pub answer_apply : {a : HeldAction} → u ≡ Held.Apply a → unrecognised key (as_unrecognised policy u) t ≡ done (written_or t (A.apply key (as_action policy a) t))
  unfolding unrecognised as_unrecognised
  answer_apply e = rw e

-- the action that a payload gets
pub apply_held : (policy : Text) (u : HeldUnrecognised) {a : HeldAction} → u ≡ Held.Apply a → UnrecognisedHeld policy u → ActionHeld policy a
apply_held policy u e h = rw e at h

pub apply_short : (key : ℕ) (policy : Text) (u : HeldUnrecognised) {a : HeldAction} → u ≡ Held.Apply a → UnrecognisedShort key (as_unrecognised policy u)
    → NeverLong key (as_action policy a)
unfolding as_unrecognised
apply_short key policy u e h = rw e at h

-- ---- what is written, or refused

pub wrote_answers : {x : Answer Text} {d t d' : Text} {n : ℕ} → Wrote d 0 t d' n → length d' ≡ length d → x ≡ done t → Answers x d' (Ok n)
unfolding answer_of
wrote_answers w l e = record { is = rw e (ap done (front_wrote w)); inside = omega (arith, w.high) }

pub refused_answers : {x : Answer Text} (d : Text) (e : Refusal) → x ≡ refused e 0 → Answers x d (Err (without_line e))
unfolding answer_of without_line
refused_answers d e q = record { is = sym q; inside = tt }

-- what `?` hands on
pub hands_on : {x : Answer Text} (d : Text) {e : Refused} (r : Result ℕ Refused) → IsErrAnd r (λ y. y ≡ e) → x ≡ refused e.refusal e.line → Answers x d r
unfolding answer_of
hands_on d r h q = let k = err_from_is_err_and r h in rw (k.1, k.2) (record { is = sym q; inside = tt })

-- a payload without a fault, and one with a fault
module _ (t : Text) (x : Answer Text) where
  pub no_fault : {u : Unit {0}} → fault_of (Ok u) ≡ payload_fault t → without_fault (payload_fault t) x ≡ x
  unfolding fault_of without_fault
  no_fault e = rw (sym e)

  pub fault : (e : Refusal) → fault_of (Err e) ≡ payload_fault t → without_fault (payload_fault t) x ≡ refused e 0
  unfolding fault_of without_fault
  fault e q = rw (sym q)

pub same_answer : {x y : Answer Text} {d : Text} {r : Result ℕ Refused} → x ≡ y → Answers y d r → Answers x d r
same_answer e g = rw e g
