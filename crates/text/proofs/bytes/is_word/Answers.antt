use Rattle.std.proofs.Common.{sym, ◌∙◌}
use Rattle.std.proofs.lemmas.Bool.{ne_eqb}
use Rattle.text.proofs.Words.{word_longer, word_all}
use Rattle.text.proofs.bytes.is_word.Goals as goal

pub returns-then-s-w : goal.returns-then-s-w
returns-then-s-w c = c.are_lower.ensures ∙ word_all _ _ c.if-s-w.true

pub returns-else-s-w : goal.returns-else-s-w
returns-else-s-w c = ne_eqb _ _ c.if-s-w.false ∙ sym (word_longer _ _ c.if-s-w.false)
