use native.Mathlib.Omega.{arith}
use Rattle.text.proofs.Kept.{wrote_same}
use Rattle.redact_5_act.proofs.Knowing.{good_slots}
use Rattle.redact_5_act.proofs.Learning.{good_same, lowered_low, lowered_high, swept_small, swept_found}
use Rattle.redact_5_act.proofs.known.for_sweep.Goals as goal

pub returns-then-t-lt3 : goal.returns-then-t-lt3
returns-then-t-lt3 c = swept_small _ _ c.requires.0 (omega arith)

pub found-requires : goal.found-requires
found-requires c = (good_slots (good_same c.requires.0 (wrote_same c.lower_value-end.ensures)), lowered_low _ _ c.lower_value-end.ensures, lowered_high _ _ c.lower_value-end.ensures (omega (arith, c.requires.0.within)))

pub returns : goal.returns
returns c = swept_found _ _ c.requires.0 (omega arith) c.lower_value-end.ensures c.found.ensures
