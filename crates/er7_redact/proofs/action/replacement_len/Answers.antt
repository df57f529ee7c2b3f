use native.Mathlib.Omega.{arith}
use Rattle.er7_redact.proofs.Actions.{replacement_bare, replacement_length}
use mathlib.Core.Path.{sym}
use Rattle.text.specs.Text.{bytes}
use Rattle.er7_redact.proofs.action.replacement_len.Goals as goal

pub returns-then-len-eq0 : goal.returns-then-len-eq0
unfolding bytes
returns-then-len-eq0 c = (λ t i h. sym (rw (replacement_bare t i c.args.len c.if-len-eq0.true)), omega arith)

pub returns : goal.returns
returns c = (λ t i h. sym (replacement_length t i _ c.if-len-eq0.false h), omega arith)
