use native.Mathlib.Omega.{arith}
use Rattle.er7.proofs.Paths.{close_end, close_no, close_yes}
use Rattle.er7.proofs.path.close_bracket.Goals as goal

pub returns-then-r-s : goal.returns-then-r-s
returns-then-r-s c = close_end _ _ _ c.if-r-s.true

pub returns-then-s-r-ne93 : goal.returns-then-s-r-ne93
returns-then-s-r-ne93 c = close_no _ _ _ (omega arith) c.if-s-r-ne93.true

pub returns : goal.returns
returns c = close_yes _ _ _ (omega arith) c.if-s-r-ne93.false
