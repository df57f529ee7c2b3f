use native.Mathlib.Omega.{arith}
use mir.Syntax.{w64}
use mir.ValLaws.{to_z_pos}
use Rattle.er7_redact.proofs.Days.{minus_fits, signed_minus, signed_plus}
use Rattle.er7_redact.proofs.action.signed.Goals as goal

pub overflow_sub-result : goal.overflow_sub-result
overflow_sub-result c = minus_fits _ c.requires (to_z_pos w64 c.args.days (omega arith))

pub returns-then-minus : goal.returns-then-minus
returns-then-minus c = signed_minus _ c.requires (to_z_pos w64 c.args.days (omega arith)) c.if-minus.true

pub returns : goal.returns
returns c = signed_plus _ c.requires (to_z_pos w64 c.args.days (omega arith)) c.if-minus.false
