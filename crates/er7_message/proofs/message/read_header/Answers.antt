use Rattle.std.proofs.Common.{rules, arith, refl}
use Rattle.std.proofs.lemmas.Result.{err_from_is_err_and}
use Rattle.er7_message.proofs.Segments.{put_at, header_too_many, header_fits}
use Rattle.er7_message.proofs.Reading.{room_kept}
use Rattle.er7_message.proofs.message.read_header.Goals as goal

pub put_leaf-requires : goal.put_leaf-requires
put_leaf-requires c = c.requires.3.room 0 (omega arith) (omega (arith, c.requires.0, c.requires.1))

pub put_leaf-requires-2 : goal.put_leaf-requires-2
put_leaf-requires-2 c = search (rules, c.requires.3.room 1 (omega arith) (omega (arith, c.requires.0, c.requires.1)))

pub read_behind-requires : goal.read_behind-requires
read_behind-requires c = (omega arith, omega arith, c.requires.0, c.requires.1, omega arith, omega arith, room_kept c.requires.3 (search rules))

pub returns-in_err-n : goal.returns-in_err-n
returns-in_err-n c =
    let p = err_from_is_err_and c.from_residual.result c.from_residual.ensures.1 in
    rw (p.1, p.2) (header_too_many _ _ _ c.requires.0 c.requires.1 c.requires.2 c.requires.4 _ _ (rw c.in_err-n.was at c.read_behind.ensures) _ _)

pub returns : goal.returns
returns c = header_fits _ _ _ c.requires.0 c.requires.1 c.requires.2 c.requires.4 (put_at 1 c.at_field.ensures c.put_leaf.ensures) (put_at 2 c.at_field-2.ensures c.put_leaf-2.ensures) (rw c.in_ok-n.was at c.read_behind.ensures) refl c.label_of-label.ensures c.put_segment.ensures
