use Rattle.std.proofs.Common.{arith}
use Rattle.policy.proofs.Lines.{words_none, words_some}
use Rattle.policy.proofs.line.read_words.Goals as goal

pub returns-then-i-e : goal.returns-then-i-e
returns-then-i-e c = words_none _ _ _ c.if-i-e.true

pub returns : goal.returns
returns c = words_some _ _ _ _ _ (omega arith) (omega arith) c.run_to-m.ensures c.run_to-k.ensures c.judged.ensures
