-- What the program may read of its files: the first 32,769 bytes of message and policy, and the key chunk by chunk. Assumes nothing.
use Rattle.std.proofs.Common.{◌≡◌, refl, sym, ap, ◌∙◌, true, List, ℕ, arith, lt-ltb, length, take, length-take, take_all}
use mathlib.Core.List.{flatten}
use Rattle.std.proofs.Math.Option.{Option, none, some}
use Rattle.text.specs.Text.{Text}
use Rattle.text.proofs.Laws.{split}
use Rattle.refusal.specs.declared.Refusal.TheVariants.{TooLong}
use Rattle.refusal.specs.Refusal.{too_long}
use Rattle.refusal.specs.Limits.{INPUT_MAX}
use Rattle.message_model.specs.Message.{message_fault}
use Rattle.policy_model.specs.Policy.{read_policy, refused}
use Rattle.run_model.specs.Entries.{LentReport, without_fault, redact_answer, redact_outcome}
use Rattle.striplog_text.specs.declared.key.Key.TheVariants.{Nothing, Bad}
use Rattle.striplog_text.specs.Striplog.{stripped_with, key_in, stripped}
use Rattle.striplog_text.specs.Key.{fed_all, key_of}
use Rattle.striplog_text.proofs.Keys.{key_read_in_chunks}

-- the first 32,769 bytes are all, or too many, as the whole text is
whole_or_long {ℓ} : {X : Type ℓ} (t : Text) → (take 32769 t ≡ t → X) → (too_long (take 32769 t) ≡ true → too_long t ≡ true → X) → X
unfolding too_long
whole_or_long t f g = split INPUT_MAX (length t)
    (λ h. g (lt-ltb INPUT_MAX (length (take 32769 t)) (simp length-take (omega arith))) (lt-ltb INPUT_MAX (length t) h))
    (λ h. f (take_all 32769 t (omega arith)))

long_message : (t : Text) → too_long t ≡ true → message_fault t ≡ some TooLong
unfolding message_fault
long_message t h = rw h

long_policy : (t : Text) → too_long t ≡ true → read_policy t ≡ refused TooLong 0
unfolding read_policy
long_policy t h = rw h

policy_cut : (p : Text) → read_policy (take 32769 p) ≡ read_policy p
policy_cut p = whole_or_long p (ap read_policy) (λ h k. long_policy (take 32769 p) h ∙ sym (long_policy p k))

module _ (b : LentReport) (m p : Text) (k : ℕ) where
  answer_cut : redact_answer b (take 32769 m) (take 32769 p) k ≡ redact_answer b m p k
  unfolding redact_answer without_fault
  answer_cut = rw (policy_cut p)
      (whole_or_long m (λ e. rw e) (λ h l. rw (long_message (take 32769 m) h, long_message m l)))

  outcome_cut : redact_outcome b (take 32769 m) (take 32769 p) k ≡ redact_outcome b m p k
  unfolding redact_outcome
  outcome_cut = rw answer_cut

-- what is read of message and policy, none if missing
unfoldable pub cut : Option Text → Option Text
cut none = none
cut (some t) = some (take 32769 t)

-- what is printed follows from that
pub files_cut : (message policy : Option Text) (key : Option ℕ) → stripped_with (cut message) (cut policy) key ≡ stripped_with message policy key
unfolding stripped_with cut
files_cut none policy key = refl
files_cut (some m) none key = refl
files_cut (some m) (some p) none = refl
files_cut (some m) (some p) (some k) = rw (outcome_cut _ m p k)

-- and from the key that the chunks of its file leave
pub files_read : (message policy : Option Text) (ts : List Text)
    → stripped_with (cut message) (cut policy) (key_of (fed_all Nothing ts)) ≡ stripped message policy (some (flatten ts))
unfolding stripped key_in
files_read message policy ts = rw (key_read_in_chunks ts) (files_cut message policy _)

-- a key that is missing is as one that is bad
pub key_missing : (message policy : Option Text) → stripped_with (cut message) (cut policy) (key_of Bad) ≡ stripped message policy none
unfolding stripped key_in key_of
key_missing message policy = files_cut message policy none
