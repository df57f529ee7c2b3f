use Rattle.std.proofs.Common.{arith, ap, ◌∙◌, Ok}
use Rattle.std.proofs.lemmas.Result.{err_from_is_err_and}
use Rattle.redact_4_leaf.specs.State.{text_in}
use Rattle.redact_4_leaf.proofs.Acting.{leaf_held, acted_stays, acted_countable, acted_becomes, acted_long}
use Rattle.redact_4_leaf.proofs.leaf.act_on.Goals as goal

pub act-requires : goal.act-requires
act-requires c = (c.requires.0, leaf_held c.requires.1)

pub put_change-requires : goal.put_change-requires
put_change-requires c = let g = c.requires.1 in (c.requires.0, omega (arith, g.good.rows, g.inside), acted_countable g c.act.ensures (c.in_ok-came.was ∙ ap Ok c.in-Some.is), c.requires.2)

pub returns-in_err-came : goal.returns-in_err-came
unfolding text_in
returns-in_err-came c = let p = err_from_is_err_and c.from_residual.result c.from_residual.ensures.1 in rw (p.1, p.2) (acted_long c.requires.1 c.act.ensures _ _ c.in_err-came.was)

pub returns-in-Some : goal.returns-in-Some
unfolding text_in
returns-in-Some c = acted_becomes c.requires.1 c.act.ensures _ _ (c.in_ok-came.was ∙ ap Ok c.in-Some.is) c.put_change.ensures

pub returns-in_default : goal.returns-in_default
unfolding text_in
returns-in_default c = acted_stays c.requires.1 c.act.ensures _ _ (c.in_ok-came.was ∙ ap Ok c.in_default.is)
