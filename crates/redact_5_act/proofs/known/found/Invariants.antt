use Rattle.std.proofs.Common.{◌≡◌}
use Rattle.text.specs.Text.{between}
use Rattle.redact_5_act.specs.Inner.{RowFound}
use Rattle.redact_5_act.proofs.Knowing.{least_over}
use Rattle.redact_5_act.proofs.known.found.Given as goal

abbrev pub invariant-loop-k : goal.invariant-loop-k
invariant-loop-k l = RowFound (between l.bytes l.i l.e) l.bytes l.known l.k l.n l.best × (l.least ≡ least_over l.known l.best)
