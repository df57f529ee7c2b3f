use Rattle.std.proofs.Common.{sym, ◌∙◌, arith}
use Rattle.text.specs.Text.{bytes, between}
use Rattle.policy.proofs.Lines.{hands_on, unrecognised_bare, unrecognised_refuse, unrecognised_pass, unrecognised_right, unrecognised_wrong}
use Rattle.policy.proofs.line.read_unrecognised.Goals as goal

pub returns-then-i-e : goal.returns-then-i-e
returns-then-i-e c = unrecognised_bare _ _ _ c.if-i-e.true

pub returns-then-is_word : goal.returns-then-is_word
unfolding bytes between
returns-then-is_word c = unrecognised_refuse c.args.text.now c.args.i c.args.e (omega arith) (omega arith) (sym c.is_word.ensures ∙ c.if-is_word.true)

pub returns-then-is_word-2 : goal.returns-then-is_word-2
unfolding bytes between
returns-then-is_word-2 c = unrecognised_pass c.args.text.now c.args.i c.args.e (omega arith) (omega arith) (sym c.is_word.ensures ∙ c.if-is_word.false) (sym c.is_word-2.ensures ∙ c.if-is_word-2.true)

pub returns-in_err-a : goal.returns-in_err-a
unfolding bytes between
returns-in_err-a c = hands_on _ c.from_residual.ensures.1 (unrecognised_wrong c.args.text.now c.args.i c.args.e (omega arith) (omega arith) (sym c.is_word.ensures ∙ c.if-is_word.false) (sym c.is_word-2.ensures ∙ c.if-is_word-2.false) c.in_err-a.ensures)

pub returns : goal.returns
unfolding bytes between
returns c = unrecognised_right c.args.text.now c.args.i c.args.e (omega arith) (omega arith) (sym c.is_word.ensures ∙ c.if-is_word.false) (sym c.is_word-2.ensures ∙ c.if-is_word-2.false) c.in_ok-a.ensures c.applying.ensures
