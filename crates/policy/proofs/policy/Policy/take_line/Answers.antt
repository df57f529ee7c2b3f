use Rattle.policy.proofs.Reading.{nothing_taken, rule_taken, rule_refused, posture_taken, unrecognised_taken, sweep_taken, line_taken, line_refused, taken_refused}
use Rattle.policy.proofs.policy.Policy.take_line.Goals as goal

pub returns-in_err-read_line : goal.returns-in_err-read_line
returns-in_err-read_line c = line_refused _ c.in_err-read_line.ensures c.from_residual.ensures.1

pub returns-in_err-push-in-Rule : goal.returns-in_err-push-in-Rule
returns-in_err-push-in-Rule c =
    let h = rw c.in-Rule.is at c.in_ok-read_line.ensures in
    taken_refused _ (line_taken h (rule_refused _ _ _ _ c.in_err-push-in-Rule.ensures)) c.from_residual-in_err-push-in-Rule.ensures.1

pub returns-in-Nothing : goal.returns-in-Nothing
returns-in-Nothing c = line_taken (rw c.in-Nothing.is at c.in_ok-read_line.ensures) (nothing_taken _ _)

pub returns-in_ok-push-in-Rule : goal.returns-in_ok-push-in-Rule
returns-in_ok-push-in-Rule c = let h = rw c.in-Rule.is at c.in_ok-read_line.ensures in line_taken h (rule_taken _ _ _ _ h.held c.in_ok-push-in-Rule.ensures)

pub returns-in-Posture : goal.returns-in-Posture
returns-in-Posture c = let h = rw c.in-Posture.is at c.in_ok-read_line.ensures in line_taken h (posture_taken _ _ _ h.held)

pub returns-in-Unrecognised : goal.returns-in-Unrecognised
returns-in-Unrecognised c = let h = rw c.in-Unrecognised.is at c.in_ok-read_line.ensures in line_taken h (unrecognised_taken _ _ _ h.held)

pub returns-in-Sweep : goal.returns-in-Sweep
returns-in-Sweep c = line_taken (rw c.in-Sweep.is at c.in_ok-read_line.ensures) (sweep_taken _ _ _)
