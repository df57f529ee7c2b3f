use native.Mathlib.Omega.{arith}
use mir.Syntax.{w64}
use mir.ValLaws.{to_z-of_z}
use Rattle.er7_redact.proofs.Days.{days_minus, days_plus}
use Rattle.er7_redact.proofs.action.days_len.Goals as goal

pub returns-then-n-lt0 : goal.returns-then-n-lt0
returns-then-n-lt0 c = let s = c.before.before.before in
    let d = days_minus _ (to_z-of_z w64 s.args.n s.ranges.n) c.if-n-lt0.true in
    rw (d, ← c.magnitude.ensures) (omega (arith, c.decimal_len.ensures.0), omega (arith, c.decimal_len.ensures.1))

pub returns : goal.returns
returns c = let s = c.before.before.before in
    let d = days_plus _ (to_z-of_z w64 s.args.n s.ranges.n) c.if-n-lt0.false in
    rw (d, ← c.magnitude-2.ensures) (omega (arith, c.decimal_len-2.ensures.0), omega (arith, c.decimal_len-2.ensures.1))
