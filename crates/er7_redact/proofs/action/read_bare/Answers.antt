use Rattle.std.proofs.Common.{arith}
use Rattle.er7_redact.proofs.Actions.{bare_end, bare_more}
use Rattle.er7_redact.proofs.action.read_bare.Goals as goal

pub returns-then-i-s : goal.returns-then-i-s
returns-then-i-s c = bare_more c.args.s.now c.args.i _ (omega arith)

pub returns : goal.returns
returns c = bare_end c.args.s.now c.args.i _ (omega arith)
