use native.Mathlib.Omega.{arith}
use mir.Syntax.{w64}
use mir.ValLaws.{to_z-of_z}
use Rattle.text.proofs.Writes.{wrote_then}
use Rattle.er7_redact.proofs.Days.{days_minus, days_plus}
use Rattle.er7_redact.proofs.action.days_at.Goals as goal

pub byte_at-k-requires : goal.byte_at-k-requires
byte_at-k-requires c = let s = c.before.before.before in
    let d = days_minus _ (to_z-of_z w64 s.args.n s.ranges.n) c.if-n-lt0.true in
    omega (arith, rw d at s.requires)

pub decimal_at-requires : goal.decimal_at-requires
decimal_at-requires c = let s = c.before.before.before.before.before.before.before.before in
    let d = days_minus _ (to_z-of_z w64 s.args.n s.ranges.n) c.if-n-lt0.true in
    rw c.magnitude.ensures (omega (arith, rw d at s.requires, c.byte_at-k.ensures.end))

pub returns-then-n-lt0 : goal.returns-then-n-lt0
returns-then-n-lt0 c = let s = c.before.before.before.before.before.before.before.before.before.before.before in
    let d = days_minus _ (to_z-of_z w64 s.args.n s.ranges.n) c.if-n-lt0.true in
    rw (d, ← c.magnitude.ensures) (wrote_then c.byte_at-k.ensures c.decimal_at.ensures)

pub decimal_at-requires-2 : goal.decimal_at-requires-2
decimal_at-requires-2 c = let s = c.before.before.before.before in
    let d = days_plus _ (to_z-of_z w64 s.args.n s.ranges.n) c.if-n-lt0.false in
    rw c.magnitude-2.ensures (omega (arith, rw d at s.requires))

pub returns : goal.returns
returns c = let s = c.before.before.before.before.before.before.before in
    let d = days_plus _ (to_z-of_z w64 s.args.n s.ranges.n) c.if-n-lt0.false in
    rw (d, ← c.magnitude-2.ensures) c.decimal_at-2.ensures
