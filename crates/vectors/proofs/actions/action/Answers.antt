use Rattle.er7_redact.proofs.ActionReadBack.{parsed_held}
use native.Mathlib.Omega.{arith}
use Rattle.vectors.proofs.actions.action.Goals as goal

pub printed_len-requires : goal.printed_len-requires
printed_len-requires c = parsed_held _ _ _ _ _ (omega arith) c.parse.ensures c.in-Ok.is

pub print-requires : goal.print-requires
print-requires c = (parsed_held _ _ _ _ _ (omega arith) c.parse.ensures c.in-Ok.is, omega arith)
