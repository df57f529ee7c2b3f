use mathlib.Core.Path.{sym, ◌∙◌}
use native.Mathlib.Omega.{arith}
use Rattle.er7_redact.proofs.Actions.{answered_room}
use Rattle.er7_redact.proofs.ActionReadBack.{parsed_held}
use Rattle.vectors.proofs.actions.apply.Goals as goal

pub apply-requires : goal.apply-requires
apply-requires c = let a = c.args.a.now in let h = parsed_held a a 0 _ _ (omega arith) c.parse.ensures c.in-Ok.is in (h, omega (arith, answered_room _ (sym (c.applied_len.ensures a c.number.result h) ∙ c.in-Some.is)))
