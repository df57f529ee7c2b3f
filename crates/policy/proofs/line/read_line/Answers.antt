use Rattle.std.proofs.Common.{arith}
use Rattle.policy.proofs.Lines.{line_long, line_reads}
use Rattle.policy.proofs.line.read_line.Goals as goal

pub returns-then-end-i-gt255 : goal.returns-then-end-i-gt255
returns-then-end-i-gt255 c = line_long _ _ _ _ (omega arith) c.run_to-end.ensures (omega arith)

pub returns : goal.returns
returns c = line_reads _ _ _ _ (omega arith) c.run_to-end.ensures (omega arith) c.run_to-hash.ensures c.run_to-start.ensures c.trimmed_end-stop.ensures c.read_words.ensures
