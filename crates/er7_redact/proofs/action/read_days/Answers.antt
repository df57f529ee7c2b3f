use Rattle.std.proofs.Common.{arith}
use Rattle.std.proofs.lemmas.Result.{err_from_is_err_and}
use mir.Syntax.{w64}
use mir.ValLaws.{to_z-of_z}
use Rattle.er7_redact.proofs.Days.{days_read, days_over, days_bad}
use Rattle.er7_redact.proofs.action.read_days.Goals as goal

pub returns-in_err-days : goal.returns-in_err-days
returns-in_err-days c =
    let p = err_from_is_err_and c.from_residual.result c.from_residual.ensures.1 in
    rw (p.1, p.2) (days_bad c.without_sign.ensures c.read_whole.ensures c.in_err-days.ensures.value)

pub returns-then-days-gt-DAYS_MAX : goal.returns-then-days-gt-DAYS_MAX
returns-then-days-gt-DAYS_MAX c = days_over c.without_sign.ensures c.read_whole.ensures c.in_ok-days.ensures.value (omega arith)

pub returns : goal.returns
returns c =
    days_read c.without_sign.ensures c.read_whole.ensures c.in_ok-days.ensures.value c.is_negative.ensures (omega arith)
    (to_z-of_z w64 c.signed.result (record { sfits = c.signed.type_inv }))
    c.signed.ensures
