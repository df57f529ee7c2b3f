use native.Mathlib.Omega.{arith}
use Rattle.er7.proofs.PrintedPaths.{path_length}
use Rattle.er7.proofs.path.printed_len.Goals as goal

pub returns : goal.returns
returns c = omega (arith, path_length c.args.text.now c.args.p c.requires, c.behind_len.ensures.0 0x2d, c.behind_len-2.ensures.0 0x2e, c.behind_len-3.ensures.0 0x2e)
