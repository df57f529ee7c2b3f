-- Two outcomes of redact meet demand 3. Assumes nothing.
use mathlib.Core.Path.{◌≡◌}
use Prim.Native.Nat.{ℕ}
use Rattle.text.specs.Text.{Text}
use Rattle.run_model.specs.Entries.{LentReport, RedactOutcome, redact_outcome}
use Rattle.run_model.proofs.Demand3.{demand3}
use Rattle.two_calls.specs.TwoCalls.{RedactedTwice}

pub redacted_twice : {m n policy : Text} {key : ℕ} {b c : LentReport} {o q : RedactOutcome} → o ≡ redact_outcome b m policy key
    → q ≡ redact_outcome c n policy key → RedactedTwice m n policy key b c o q
redacted_twice e f =
    record { one_is = e; two_is = f; same = λ P h settled unswept. rw (e, f) (demand3 _ _ P _ _ _ _ h settled unswept) }
