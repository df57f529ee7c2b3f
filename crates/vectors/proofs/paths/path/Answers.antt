use Rattle.er7.proofs.PathReadBack.{parsed_held}
use native.Mathlib.Omega.{arith}
use Rattle.vectors.proofs.paths.path.Goals as goal

pub printed_len-requires : goal.printed_len-requires
printed_len-requires c = parsed_held _ _ _ _ _ (omega arith) c.parse.ensures c.in-Some.is

pub print-requires : goal.print-requires
print-requires c = (parsed_held _ _ _ _ _ (omega arith) c.parse.ensures c.in-Some.is, omega arith)
