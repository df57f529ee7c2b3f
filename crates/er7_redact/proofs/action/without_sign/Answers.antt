use native.Mathlib.Omega.{arith}
use Rattle.er7_redact.proofs.Actions.{sign_yes, sign_no, sign_end}
use Rattle.er7_redact.proofs.action.without_sign.Goals as goal

pub returns-then-s-i : goal.returns-then-s-i
returns-then-s-i c = sign_yes (omega arith) c.if-s-i.true

pub returns-else-s-i : goal.returns-else-s-i
returns-else-s-i c = sign_no (omega arith) c.if-s-i.false

pub returns-else-i-s : goal.returns-else-i-s
returns-else-i-s c = sign_end c.requires (omega arith)
