use native.Mathlib.Omega.{arith}
use Rattle.er7.proofs.PrintedPaths.{behind_none, behind_length}
use Rattle.er7.proofs.path.behind_len.Goals as goal

pub returns-then-n-eq0 : goal.returns-then-n-eq0
returns-then-n-eq0 c = (λ b. rw (behind_none c.args.n b c.if-n-eq0.true), omega arith)

pub returns : goal.returns
returns c = (λ b. omega (arith, behind_length c.args.n b c.if-n-eq0.false), omega arith)
