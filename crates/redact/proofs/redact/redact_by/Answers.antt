use Rattle.redact.proofs.Laws.{policy_not_long, policy_read, refuses_policy, hands_on}
use Rattle.redact.proofs.redact.redact_by.Goals as goal

pub returns-in_err-held : goal.returns-in_err-held
returns-in_err-held c = hands_on _ c.from_residual.ensures.1 (refuses_policy _ _ c.in_err-held.ensures)

pub redact_message-requires : goal.redact_message-requires
redact_message-requires c = (c.in_ok-held.ensures.held, policy_not_long _ c.in_ok-held.ensures, c.requires)

pub returns : goal.returns
returns c = policy_read _ _ c.in_ok-held.ensures c.redact_message.ensures
