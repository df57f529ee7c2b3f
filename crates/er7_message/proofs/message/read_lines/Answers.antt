use Rattle.std.proofs.Common.{rules, arith}
use Rattle.std.proofs.lemmas.Result.{err_from_is_err_and}
use Rattle.message_model.proofs.Faultless.{header_line}
use Rattle.er7_message.proofs.Reading.{room_kept, header_too_many, header_on, header_done}
use Rattle.er7_message.proofs.message.read_lines.Goals as goal

pub read_header-requires : goal.read_header-requires
read_header-requires c = (c.requires.0.long, c.requires.0.end.high, c.requires.0.named, search rules, (header_line _ c.requires.0.header).header)

pub returns-in_err-n : goal.returns-in_err-n
returns-in_err-n c =
    let p = err_from_is_err_and c.from_residual.result c.from_residual.ensures.1 in
    rw (p.1, p.2) (header_too_many c.requires.0.end c.requires.1 _ (rw c.in_err-n.was at c.read_header.ensures) _ _ _)

pub returns-then-e-text : goal.returns-then-e-text
returns-then-e-text c = header_done c.requires.0.end c.requires.1 (rw c.in_ok-n.was at c.read_header.ensures) (room_kept c.requires.1 (search rules)) c.if-e-text.true _

pub read_rest-requires : goal.read_rest-requires
read_rest-requires c =
    let w = rw c.in_ok-n.was at c.read_header.ensures in
    (omega (arith, c.requires.0.end.high, c.if-e-text.false), omega (arith, w.few), header_on c.requires.0.end c.requires.1 w (room_kept c.requires.1 (search rules)) (omega (arith, c.requires.0.end.high, c.if-e-text.false)))
