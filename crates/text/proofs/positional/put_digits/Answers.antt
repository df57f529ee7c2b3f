use Rattle.std.proofs.Common.{arith}
use Rattle.text.proofs.Spelling.{spelling_start, spelling_more, spelling_end}
use Rattle.text.proofs.positional.put_digits.Goals as goal

pub loop-i-init : goal.loop-i-init
loop-i-init g c = λ f is. spelling_start _ _ _ _

pub loop-i-preserved : goal.loop-i-preserved
loop-i-preserved g c = λ f is. spelling_more _ _ _ (c.loop-i.invariant f is) (omega arith) (is _ _ (omega (arith, c.requires.0)) c.digit.ensures)

pub returns : goal.returns
returns g c = λ f is. spelling_end _ _ (c.loop-i.invariant f is) (omega arith)
