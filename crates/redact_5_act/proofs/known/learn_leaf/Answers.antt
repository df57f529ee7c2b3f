use native.Mathlib.Omega.{arith}
use Rattle.text.proofs.Kept.{same_all, wrote_same}
use Rattle.redact_5_act.proofs.Learning.{good_same, learns_nothing, learns_as, leaf_none, leaf_short, leaf_learns, lowered_high}
use Rattle.redact_5_act.proofs.known.learn_leaf.Goals as goal

pub returns-then-is_keep-t : goal.returns-then-is_keep-t
returns-then-is_keep-t c = learns_nothing c.requires.0 same_all (λ x. leaf_none _ _ _ x _ (c.is_keep.ensures x) c.if-is_keep-t.true)

pub returns-then-end-used-lt3 : goal.returns-then-end-used-lt3
returns-then-end-used-lt3 c = learns_nothing c.requires.0 (wrote_same c.lower_value-end.ensures) (λ x. leaf_short _ _ _ x (c.is_keep.ensures x) c.if-is_keep-t.false c.lower_value-end.ensures (omega arith))

pub learn-requires : goal.learn-requires
learn-requires c = (good_same c.requires.0 (wrote_same c.lower_value-end.ensures), omega arith, lowered_high _ _ c.lower_value-end.ensures (omega (arith, c.requires.0.within)))

pub returns : goal.returns
returns c = learns_as c.requires.0 (wrote_same c.lower_value-end.ensures) (λ x. leaf_learns _ _ _ x (c.is_keep.ensures x) c.if-is_keep-t.false c.lower_value-end.ensures (omega arith)) c.learn.ensures
