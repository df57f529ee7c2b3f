use Rattle.std.proofs.Common.{rules, arith, refl}
use Rattle.std.proofs.lemmas.Result.{err_from_is_err_and}
use Rattle.text.specs.Text.{part}
use Rattle.er7_message.specs.Inner.{line}
use Rattle.er7_message.proofs.Segments.{named_long, named_no_header}
use Rattle.er7_message.proofs.Reading.{room_kept, judged, line_bad, line_too_many, line_on, line_done}
use Rattle.er7_message.proofs.message.read_rest.Goals as goal

pub lines-init : goal.lines-init
lines-init c = (omega arith, omega arith, c.requires.2, refl, c.requires.1)

pub returns-then-not-is_named : goal.returns-then-not-is_named
unfolding line part
returns-then-not-is_named c = line_bad c.lines.invariant.2 c.line_end-e.ensures (judged _ c.lines.invariant.1 _ c.is_named.ensures c.if-not-is_named.true) _ _ _

pub read_segment-requires : goal.read_segment-requires
unfolding line part
read_segment-requires c = (named_long c.args.s c.args.text.now c.lines.i _ c.line_end-e.ensures.high c.is_named.ensures (search rules), c.line_end-e.ensures.high, c.lines.invariant.2.many, c.lines.invariant.2.few, c.lines.invariant.4, c.lines.invariant.2.leaf_room, c.lines.invariant.2.numbered, named_no_header c.args.s c.args.text.now c.lines.i c.line_end-e.result c.is_named.ensures (search rules))

pub returns-in_err-n : goal.returns-in_err-n
unfolding line part
returns-in_err-n c =
    let p = err_from_is_err_and c.from_residual.result c.from_residual.ensures.1 in
    rw (p.1, p.2) (line_too_many c.lines.invariant.2 c.line_end-e.ensures (judged _ c.lines.invariant.1 _ c.is_named.ensures (search rules)) _ (rw c.in_err-n.was at c.read_segment.ensures) _ _ _)

pub returns-then-e-text : goal.returns-then-e-text
unfolding line part
returns-then-e-text c = line_done c.lines.invariant.2 c.line_end-e.ensures (judged _ c.lines.invariant.1 _ c.is_named.ensures (search rules)) (rw c.in_ok-n.was at c.read_segment.ensures) (room_kept c.lines.invariant.2.leaf_room (search rules)) c.if-e-text.true _

pub lines-preserved : goal.lines-preserved
unfolding line part
lines-preserved c =
    let w = rw c.in_ok-n.was at c.read_segment.ensures in
    (omega (arith, c.line_end-e.ensures.high, c.if-e-text.false), omega arith, line_on c.lines.invariant.2 c.line_end-e.ensures (judged _ c.lines.invariant.1 _ c.is_named.ensures (search rules)) w (room_kept c.lines.invariant.2.leaf_room (search rules)) (omega (arith, c.line_end-e.ensures.high, c.if-e-text.false)), search rules, omega (arith, w.few))
