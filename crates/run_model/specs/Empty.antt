-- A message of no bytes: the claim of what it comes to. Assumes nothing: these are definitions.
use Rattle.std.specs.Prelude.{◌≡◌, [], ℕ}
use Rattle.text.specs.Text.{Text}
use Rattle.policy_model.specs.Policy.{read_policy}
use Rattle.run_model.specs.Entries.{LentReport, done, with_buffers, with_policy, redact_answer}

-- "With any policy that reads, that is now success: no text, no report, no rows. Faults of buffers and policy still come first"
abbrev pub EmptyMessage : Type 0
EmptyMessage =
    (b : LentReport) (policy : Text) (key : ℕ)
    → redact_answer b [] policy key ≡ with_buffers b.buffers (with_policy (read_policy policy) λ P. done (record { text = []; rows = [] }))
