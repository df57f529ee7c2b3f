-- What two calls of redact come to. Assumes nothing: these are definitions.
use Rattle.std.specs.Prelude.{◌≡◌, ℕ}
use Rattle.text.specs.Text.{Text}
use Rattle.message_model.specs.Message.{message_of}
use Rattle.policy_model.specs.Policy.{Policy}
use Rattle.run_model.specs.Entries.{LentReport, RedactOutcome, redact_outcome}
use Rattle.run_model.specs.Demand.{TwoCalls, Settled, Unswept, SameResult}

-- "Demand 3 is one claim about two whole calls of redact, from the bytes handed in to the bytes handed back": the messages m and n under
-- one policy and one key, in buffers of the lengths b and c, came to the outcomes o and q
pub record RedactedTwice (m n policy : Text) (key : ℕ) (b c : LentReport) (o q : RedactOutcome) : Type 0 where
  pub one_is : o ≡ redact_outcome b m policy key
  pub two_is : q ≡ redact_outcome c n policy key
  -- the same number of rows and, byte for byte, the same text and the same report, for every policy P that fits demand 3's premises
  pub same : (P : Policy) → TwoCalls policy key P m n b c → Settled key P (message_of m) (message_of n)
      → Unswept key P (message_of m) (message_of n) → SameResult o q
