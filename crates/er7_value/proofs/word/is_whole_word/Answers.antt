use Rattle.std.proofs.Common.{◌∙◌, sym, arith}
use Rattle.er7_value.proofs.Hits.{whole_from_start, found_short, found_yes, found_no}
use Rattle.er7_value.proofs.word.is_whole_word.Goals as goal

pub returns-then-t-least : goal.returns-then-t-least
returns-then-t-least c = sym (whole_from_start _ _ ∙ found_short c.args.v.now c.args.t.now 0 (omega arith))

pub loop-place-init : goal.loop-place-init
loop-place-init c = whole_from_start _ _

pub returns-then-is_hit_at : goal.returns-then-is_hit_at
returns-then-is_hit_at c = sym (c.loop-place.invariant ∙ found_yes _ _ _ (omega arith) c.if-is_hit_at.ensures)

pub loop-place-preserved : goal.loop-place-preserved
loop-place-preserved c = c.loop-place.invariant ∙ found_no _ _ _ (omega arith) c.if-is_hit_at.ensures

pub returns : goal.returns
returns c = sym (c.loop-place.invariant ∙ found_short c.args.v.now c.args.t.now _ (omega arith))
