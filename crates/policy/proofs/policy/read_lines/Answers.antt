use Rattle.std.proofs.Common.{◌≡◌, Ok, Err, arith, rules}
use Rattle.refusal.specs.declared.Refusal.{Refusal}
use Rattle.policy.proofs.Reading.{reading_start, reading_more, reading_stop, reading_end}
use Rattle.policy.proofs.policy.read_lines.Goals as goal

pub loop-i-init : goal.loop-i-init
loop-i-init c = reading_start _ c.start-policy.ensures

pub returns-in_err-map_err : goal.returns-in_err-map_err
returns-in_err-map_err c =
    let k : (e : Refusal) × (c.take_line.result ≡ Err e) × (c.in_err-map_err.field-0.0 ≡ record { refusal = e; line = c.loop-i.line }) = search rules in
    reading_stop c.loop-i.invariant (omega arith) c.run_end-e.ensures _ c.take_line.ensures k c.from_residual.ensures.1

pub loop-i-preserved : goal.loop-i-preserved
loop-i-preserved c =
    let k : c.take_line.result ≡ Ok tt = search rules in
    reading_more c.loop-i.invariant (omega arith) c.run_end-e.ensures (rw k at c.take_line.ensures)

pub returns : goal.returns
returns c = reading_end c.loop-i.invariant (omega arith)
