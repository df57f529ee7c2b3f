use native.Mathlib.Omega.{arith}
use Rattle.er7.proofs.PrintedPaths.{behind_none, behind_some, behind_length}
use Rattle.text.proofs.Writes.{wrote_none, wrote_then}
use Rattle.er7.proofs.path.put_behind.Goals as goal

pub returns-then-n-eq0 : goal.returns-then-n-eq0
returns-then-n-eq0 c = rw (behind_none c.args.n c.args.c c.if-n-eq0.true) (wrote_none _ _ (omega arith))

pub byte_at-start-requires : goal.byte_at-start-requires
byte_at-start-requires c = omega (arith, behind_length c.args.n c.args.c c.if-n-eq0.false)

pub decimal_at-requires : goal.decimal_at-requires
decimal_at-requires c = omega (arith, behind_length c.args.n c.args.c c.if-n-eq0.false)

pub returns : goal.returns
returns c = rw (behind_some c.args.n c.args.c c.if-n-eq0.false) (wrote_then c.byte_at-start.ensures c.decimal_at.ensures)
