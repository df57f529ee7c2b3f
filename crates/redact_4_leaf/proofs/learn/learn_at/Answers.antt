use Rattle.std.proofs.lemmas.Bool.{not-true, not-false}
use Rattle.std.proofs.lemmas.Result.{err_from_is_err_and}
use Rattle.redact_4_leaf.specs.State.{text_in}
use Rattle.redact_4_leaf.proofs.Learnt.{lent_short, learning_off, learning_kept, learning_full}
use Rattle.redact_4_leaf.proofs.learn.learn_at.Goals as goal

pub returns-then-not-on : goal.returns-then-not-on
returns-then-not-on c = λ text q h. learning_off _ _ _ _ (not-true _ c.if-not-on.true) h

pub learn_leaf-requires : goal.learn_leaf-requires
learn_leaf-requires c = (c.requires.good, lent_short _ _ _ c.text.ensures c.requires.short)

pub returns-in_err-count : goal.returns-in_err-count
unfolding text_in
returns-in_err-count c = λ text q h.
    let p = err_from_is_err_and c.from_residual.result c.from_residual.ensures.1 in
    rw (p.1, p.2) (learning_full _ c.text.ensures _ c.learn_leaf.ensures _ (not-false _ c.if-not-on.false) text c.in_err-count.was)

pub returns : goal.returns
unfolding text_in
returns c = λ text q h. learning_kept _ c.text.ensures _ c.learn_leaf.ensures _ (not-false _ c.if-not-on.false) text c.in_ok-count.was q h
