use Rattle.std.proofs.Common.{ap}
use Rattle.std.proofs.lemmas.Result.{err_from_is_err_and}
use Rattle.redact_5_act.specs.State.{after_step}
use Rattle.redact_2_turn.proofs.Visiting.{before_first, before_rest, before_next, before_visitable, before_visited, before_stop, before_end}
use Rattle.redact_2_turn.proofs.turn.pass_leaves.Goals as goal

pub next_leaf-next-requires : goal.next_leaf-next-requires
next_leaf-next-requires c = before_rest c.requires.0 _ _ _ c.requires.1 (before_first c.requires.0 _ _ _ c.requires.1 c.requires.2 (rw c.field_of.ensures at c.start_at-start.ensures))

pub loop-next-init : goal.loop-next-init
loop-next-init c = before_next c.requires.0 _ _ _ c.requires.1 (before_first c.requires.0 _ _ _ c.requires.1 c.requires.2 (rw c.field_of.ensures at c.start_at-start.ensures)) _ c.next_leaf-next.ensures

pub visit-requires : goal.visit-requires
visit-requires c =
    let n = rw c.in-Some.is at c.loop-next.invariant in
    (c.requires.0, before_visitable c.requires.0 _ _ _ c.requires.1 n.0 n.1 n.2)

pub returns-in_err-visit : goal.returns-in_err-visit
returns-in_err-visit c =
    let n = rw c.in-Some.is at c.loop-next.invariant in
    let p = err_from_is_err_and c.from_residual.result c.from_residual.ensures.1 in
    rw (p.1, p.2) (before_stop c.requires.0 _ _ _ c.requires.1 n.0 n.1 c.visit.ensures (ap (after_step _) c.in_err-visit.was))

pub next_leaf-next-requires-in-Some : goal.next_leaf-next-requires-in-Some
next_leaf-next-requires-in-Some c =
    let n = rw c.in-Some.is at c.loop-next.invariant in
    before_rest c.requires.0 _ _ _ c.requires.1 (before_visited c.requires.0 _ _ _ c.requires.1 n.0 n.1 c.visit.ensures (ap (after_step _) c.in_ok-visit.was))

pub loop-next-preserved : goal.loop-next-preserved
loop-next-preserved c =
    let n = rw c.in-Some.is at c.loop-next.invariant in
    before_next c.requires.0 _ _ _ c.requires.1 (before_visited c.requires.0 _ _ _ c.requires.1 n.0 n.1 c.visit.ensures (ap (after_step _) c.in_ok-visit.was)) _ c.next_leaf-next-in-Some.ensures

pub returns : goal.returns
returns c = before_end c.requires.0 _ _ _ c.requires.1 (rw c.in_default.is at c.loop-next.invariant)
