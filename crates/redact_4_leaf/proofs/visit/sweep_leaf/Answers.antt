use Rattle.std.proofs.Common.{arith}
use Rattle.redact_4_leaf.specs.State.{text_in}
use Rattle.redact_4_leaf.proofs.Learnt.{lent_short}
use Rattle.redact_4_leaf.proofs.Rules.{ready_readable}
use Rattle.redact_4_leaf.proofs.Unnamed.{unnamed_none, unnamed_acted, swept_none, swept_some, swept_row}
use Rattle.redact_4_leaf.proofs.visit.sweep_leaf.Goals as goal

pub for_sweep-requires : goal.for_sweep-requires
for_sweep-requires c = (c.requires.0.good, lent_short _ _ _ c.text.ensures (ready_readable c.requires.1 c.requires.0.good).short)

pub returns-in_default : goal.returns-in_default
unfolding text_in
returns-in_default c = λ named u. unnamed_none _ _ _ named _ _ _ _ _ _ _ c.requires.1 c.requires.3 c.requires.0 (swept_none _ _ c.text.ensures c.for_sweep.ensures _ c.in_default.is) c.for_sweep.ensures.beside

pub bounds-known-k : goal.bounds-known-k
bounds-known-k c = omega (arith, c.requires.0.good.few, swept_row c.for_sweep.ensures c.in-Some.is)

pub offset_bounds-known-k : goal.offset_bounds-known-k
offset_bounds-known-k c = omega (arith, c.requires.0.good.few, swept_row c.for_sweep.ensures c.in-Some.is)

pub act_on-requires : goal.act_on-requires
act_on-requires c = (c.requires.0.held.held _ (swept_row c.for_sweep.ensures c.in-Some.is), c.requires.1, c.requires.2)

pub returns : goal.returns
unfolding text_in
returns c = λ named u. unnamed_acted _ _ _ named _ _ _ _ _ _ _ c.requires.1 c.requires.3 c.requires.0 _ u (swept_some _ _ c.text.ensures c.for_sweep.ensures _ c.in-Some.is) c.for_sweep.ensures.beside _ c.act_on.ensures
