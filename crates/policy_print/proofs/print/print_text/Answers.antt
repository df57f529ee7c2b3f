use Rattle.std.proofs.Common.{arith}
use Rattle.policy_model.proofs.PolicyReadBack.{policy_fits}
use Rattle.policy_print.proofs.Whole.{printed_is, refused_is, read_as, refused_as}
use Rattle.policy_print.proofs.print.print_text.Goals as goal

pub returns-in_err-policy : goal.returns-in_err-policy
returns-in_err-policy c = refused_is _ _ (refused_as c.in_err-policy.ensures) c.from_residual.ensures.1

pub print-requires : goal.print-requires
print-requires c = let h = policy_fits _ _ (read_as c.in_ok-policy.ensures) in (c.in_ok-policy.ensures.held, omega arith)

pub returns : goal.returns
returns c = printed_is _ (read_as c.in_ok-policy.ensures) c.print.ensures
