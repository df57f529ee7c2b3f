use Rattle.std.proofs.Common.{arith}
use Rattle.er7.proofs.Paths.{occurrence_end, occurrence_no, occurrence_bad, occurrence_yes}
use Rattle.er7.proofs.path.take_occurrence.Goals as goal

pub returns-then-i-s : goal.returns-then-i-s
returns-then-i-s c = occurrence_end _ _ c.if-i-s.true

pub returns-then-s-i-ne91 : goal.returns-then-s-i-ne91
returns-then-s-i-ne91 c = occurrence_no _ _ (omega arith) c.if-s-i-ne91.true

pub returns-in_err-n : goal.returns-in_err-n
returns-in_err-n c = rw c.from_residual.ensures (occurrence_bad _ _ (omega arith) c.if-s-i-ne91.false c.in_err-n.ensures)

pub returns : goal.returns
returns c = occurrence_yes _ _ _ _ _ (omega arith) c.if-s-i-ne91.false c.in_ok-n.ensures c.close_bracket.ensures
