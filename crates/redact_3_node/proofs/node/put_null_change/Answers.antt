use Rattle.std.proofs.Common.{arith, ap, ◌∙◌, Ok}
use Rattle.std.proofs.lemmas.Result.{err_from_is_err_and}
use Rattle.redact_3_node.proofs.Collapses.{null_stays, null_becomes, null_long, null_countable}
use Rattle.redact_3_node.proofs.node.put_null_change.Goals as goal

pub put_null-requires : goal.put_null-requires
put_null-requires c x = c.requires.1.room

pub put_change-requires : goal.put_change-requires
put_change-requires c = let g = c.requires.1 in (c.requires.0, omega (arith, g.good.rows, g.inside, g.ends), null_countable c.put_null.ensures g (c.in_ok-came.was ∙ ap Ok c.in-Some.is), c.requires.2)

pub returns-in_err-came : goal.returns-in_err-came
returns-in_err-came c = let p = err_from_is_err_and c.from_residual.result c.from_residual.ensures.1 in rw (p.1, p.2) (null_long c.put_null.ensures c.requires.1 _ _ c.in_err-came.was)

pub returns-in-Some : goal.returns-in-Some
returns-in-Some c = null_becomes c.put_null.ensures c.requires.1 _ _ (c.in_ok-came.was ∙ ap Ok c.in-Some.is) c.put_change.ensures

pub returns-in_default : goal.returns-in_default
returns-in_default c = null_stays c.put_null.ensures c.requires.1 _ _ (c.in_ok-came.was ∙ ap Ok c.in_default.is)
