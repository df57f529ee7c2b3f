use native.Mathlib.Omega.{arith}
use Rattle.er7.proofs.PrintedPaths.{brackets_none, brackets_some, brackets_length}
use Rattle.text.proofs.Writes.{wrote_none, wrote_then}
use Rattle.er7.proofs.path.put_brackets.Goals as goal

pub returns-then-n-eq0 : goal.returns-then-n-eq0
returns-then-n-eq0 c = rw (brackets_none c.args.n c.if-n-eq0.true) (wrote_none _ _ (omega arith))

pub byte_at-open-requires : goal.byte_at-open-requires
byte_at-open-requires c = omega (arith, brackets_length c.args.n c.if-n-eq0.false)

pub decimal_at-end-requires : goal.decimal_at-end-requires
decimal_at-end-requires c = omega (arith, brackets_length c.args.n c.if-n-eq0.false)

pub byte_at-requires : goal.byte_at-requires
byte_at-requires c = omega (arith, brackets_length c.args.n c.if-n-eq0.false)

pub returns : goal.returns
returns c = rw (brackets_some c.args.n c.if-n-eq0.false) (wrote_then c.byte_at-open.ensures (wrote_then c.decimal_at-end.ensures c.byte_at.ensures))
