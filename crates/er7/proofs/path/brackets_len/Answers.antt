use native.Mathlib.Omega.{arith}
use Rattle.er7.proofs.PrintedPaths.{brackets_none, brackets_length}
use Rattle.er7.proofs.path.brackets_len.Goals as goal

pub returns-then-n-eq0 : goal.returns-then-n-eq0
returns-then-n-eq0 c = rw (brackets_none c.args.n c.if-n-eq0.true) (omega arith)

pub returns : goal.returns
returns c = omega (arith, brackets_length c.args.n c.if-n-eq0.false)
