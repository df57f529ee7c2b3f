use Rattle.std.proofs.Common.{arith, refl, length-take}
use Rattle.std.proofs.lemmas.Result.{err_from_is_err_and}
use Rattle.text.specs.Text.{part}
use Rattle.er7_message.specs.Inner.{line}
use Rattle.er7_message.proofs.Names.{names_front, numbered_front}
use Rattle.er7_message.proofs.Segments.{segment_257, segment_too_many, segment_fits}
use Rattle.er7_message.proofs.message.read_segment.Goals as goal

pub returns-then-k-eq-SEGMENTS_MAX : goal.returns-then-k-eq-SEGMENTS_MAX
returns-then-k-eq-SEGMENTS_MAX c = segment_257 _ _ _ _ _ _ _ _ _ _ c.if-k-eq-SEGMENTS_MAX.true

pub returns-in_err-end : goal.returns-in_err-end
returns-in_err-end c =
    let p = err_from_is_err_and c.from_residual.result c.from_residual.ensures.1 in
    rw (p.1, p.2) (segment_too_many _ _ _ _ _ _ _ _ c.requires.7 _ (rw c.in_err-end.was at c.read_behind.ensures) _)

pub occurrence-number-requires : goal.occurrence-number-requires
occurrence-number-requires c = (simp length-take (omega arith), numbered_front _ _ (omega (arith, c.told-segments)) c.requires.6)

pub returns : goal.returns
unfolding line part
returns c =
    let o = rw (names_front c.args.segments.now c.args.k (omega (arith, c.told-segments))) at c.occurrence-number.ensures in
    segment_fits _ _ _ _ _ _ _ _ c.requires.7 (rw c.in_ok-end.was at c.read_behind.ensures) (omega arith) o refl c.label_of-label.ensures c.put_segment.ensures
