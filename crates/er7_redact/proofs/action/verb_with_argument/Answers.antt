use mathlib.Core.Path.{sym, ◌∙◌}
use Rattle.text.specs.Text.{bytes}
use Rattle.er7_redact.specs.Action.{verb_with_argument}
use Rattle.er7_redact.proofs.action.verb_with_argument.Goals as goal

pub returns-then-is_word : goal.returns-then-is_word
unfolding verb_with_argument bytes
returns-then-is_word c = sym (rw (sym c.is_word.ensures ∙ c.if-is_word.true))

pub returns-then-is_word-2 : goal.returns-then-is_word-2
unfolding verb_with_argument bytes
returns-then-is_word-2 c = sym (rw (sym c.is_word.ensures ∙ c.if-is_word.false, sym c.is_word-2.ensures ∙ c.if-is_word-2.true))

pub returns-then-is_word-3 : goal.returns-then-is_word-3
unfolding verb_with_argument bytes
returns-then-is_word-3 c = sym (rw (sym c.is_word.ensures ∙ c.if-is_word.false, sym c.is_word-2.ensures ∙ c.if-is_word-2.false, sym c.is_word-3.ensures ∙ c.if-is_word-3.true))

pub returns-then-is_word-4 : goal.returns-then-is_word-4
unfolding verb_with_argument bytes
returns-then-is_word-4 c = sym (rw (sym c.is_word.ensures ∙ c.if-is_word.false, sym c.is_word-2.ensures ∙ c.if-is_word-2.false, sym c.is_word-3.ensures ∙ c.if-is_word-3.false, sym c.is_word-4.ensures ∙ c.if-is_word-4.true))

pub returns-then-is_word-5 : goal.returns-then-is_word-5
unfolding verb_with_argument bytes
returns-then-is_word-5 c = sym (rw (sym c.is_word.ensures ∙ c.if-is_word.false, sym c.is_word-2.ensures ∙ c.if-is_word-2.false, sym c.is_word-3.ensures ∙ c.if-is_word-3.false, sym c.is_word-4.ensures ∙ c.if-is_word-4.false, sym c.is_word-5.ensures ∙ c.if-is_word-5.true))

pub returns : goal.returns
unfolding verb_with_argument bytes
returns c = sym (rw (sym c.is_word.ensures ∙ c.if-is_word.false, sym c.is_word-2.ensures ∙ c.if-is_word-2.false, sym c.is_word-3.ensures ∙ c.if-is_word-3.false, sym c.is_word-4.ensures ∙ c.if-is_word-4.false, sym c.is_word-5.ensures ∙ c.if-is_word-5.false))
