use Rattle.std.proofs.Common.{refl, arith}
use Rattle.er7_value.proofs.Eights.{standing_start, standing_more, standing_end, eight_differ}
use Rattle.er7_value.proofs.word.begins_by_eights.Goals as goal

pub loop-j-init : goal.loop-j-init
loop-j-init c = standing_start _ _ _

pub returns-then-not-same_eight : goal.returns-then-not-same_eight
returns-then-not-same_eight c = eight_differ _ _ _ _ (omega arith) c.if-not-same_eight.ensures

pub loop-j-preserved : goal.loop-j-preserved
loop-j-preserved c = standing_more _ _ _ c.loop-j.invariant (omega arith) c.if-not-same_eight.ensures

pub returns : goal.returns
returns c = standing_end _ _ _ c.loop-j.invariant (omega arith) refl (omega arith) c.same_eight-2.ensures
