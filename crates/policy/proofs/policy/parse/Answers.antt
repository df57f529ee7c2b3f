use Rattle.std.proofs.Common.{sym, ◌∙◌, arith}
use Rattle.policy.proofs.Reading.{policy_long, policy_foreign, policy_lines_lem}
use Rattle.policy.proofs.policy.parse.Goals as goal

pub returns-then-text-gt-INPUT_MAX : goal.returns-then-text-gt-INPUT_MAX
returns-then-text-gt-INPUT_MAX c = rw c.into.ensures (policy_long _ (omega arith))

pub returns-then-not-no_foreign : goal.returns-then-not-no_foreign
returns-then-not-no_foreign c = rw c.into-then-not-no_foreign.ensures (policy_foreign _ (omega arith) (sym c.no_foreign.ensures ∙ c.if-not-no_foreign.true))

pub returns : goal.returns
returns c = policy_lines_lem _ (omega arith) (sym c.no_foreign.ensures ∙ c.if-not-no_foreign.false) c.read_lines.ensures
