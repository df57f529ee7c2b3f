use Rattle.std.proofs.Common.{ap}
use Rattle.std.proofs.lemmas.Result.{err_from_is_err_and}
use Rattle.redact_5_act.specs.State.{after_step}
use Rattle.redact_2_turn.proofs.Visiting.{through_none, through_next, through_passable, through_ahead, through_more, through_stop, through_all}
use Rattle.redact_2_turn.proofs.turn.take_turn.Goals as goal

pub loop-next-init : goal.loop-next-init
loop-next-init c = through_next c.requires.0 _ c.requires.1 _ _ (through_none c.requires.0 _ c.requires.1 _ _ c.requires.3) _ c.next_segment-next.ensures

pub pass_leaves-requires : goal.pass_leaves-requires
pass_leaves-requires c =
    let n = rw c.in-Some.is at c.loop-next.invariant in
    (c.requires.0, through_passable c.requires.0 _ c.requires.1 _ _ n.0 n.1 c.spot_of.ensures n.2 c.requires.2, through_ahead c.requires.0 _ c.requires.1 _ _ n.0 n.1 c.spot_of.ensures)

pub returns-in_err-pass_leaves : goal.returns-in_err-pass_leaves
returns-in_err-pass_leaves c =
    let n = rw c.in-Some.is at c.loop-next.invariant in
    let p = err_from_is_err_and c.from_residual.result c.from_residual.ensures.1 in
    rw (p.1, p.2) (through_stop c.requires.0 _ c.requires.1 _ _ n.0 n.1 c.spot_of.ensures c.pass_leaves.ensures (ap (after_step _) c.in_err-pass_leaves.was))

pub loop-next-preserved : goal.loop-next-preserved
loop-next-preserved c =
    let n = rw c.in-Some.is at c.loop-next.invariant in
    through_next c.requires.0 _ c.requires.1 _ _ (through_more c.requires.0 _ c.requires.1 _ _ n.0 n.1 c.spot_of.ensures c.pass_leaves.ensures (ap (after_step _) c.in_ok-pass_leaves.was)) _ c.next_segment-next-in-Some.ensures

pub returns : goal.returns
returns c = through_all c.requires.0 _ c.requires.1 _ _ (rw c.in_default.is at c.loop-next.invariant)
