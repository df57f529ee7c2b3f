use Rattle.std.proofs.Common.{arith, ◌∙◌}
use Rattle.std.proofs.lemmas.Bool.{le-ltb}
use Rattle.er7_redact.proofs.Actions.{minus_told, minus_end}
use Rattle.er7_redact.proofs.action.is_negative.Goals as goal

pub returns-then-i-s : goal.returns-then-i-s
returns-then-i-s c = minus_told c.args.s.now c.args.i (omega arith)

pub returns-else-i-s : goal.returns-else-i-s
returns-else-i-s c = le-ltb _ _ (omega arith) ∙ minus_end c.args.s.now c.args.i (omega arith)
