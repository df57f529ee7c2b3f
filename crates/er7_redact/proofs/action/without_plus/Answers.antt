use native.Mathlib.Omega.{arith}
use Rattle.er7_redact.proofs.Actions.{plus_yes, plus_no, plus_end}
use Rattle.er7_redact.proofs.action.without_plus.Goals as goal

pub returns-then-s-i-eq43 : goal.returns-then-s-i-eq43
returns-then-s-i-eq43 c = plus_yes (omega arith) c.if-s-i-eq43.true

pub returns-else-s-i-eq43 : goal.returns-else-s-i-eq43
returns-else-s-i-eq43 c = plus_no (omega arith) c.if-s-i-eq43.false

pub returns-else-i-s : goal.returns-else-i-s
returns-else-i-s c = plus_end c.requires (omega arith)
