use native.Mathlib.Omega.{arith}
use lib.ListN.{length-take, length-drop}
use Rattle.text.proofs.Kept.{same_all, wrote_same}
use Rattle.text.proofs.Runs.{part_slice}
use Rattle.redact_5_act.proofs.Acts.{value_decoded, value_replaced, beside_as}
use Rattle.redact_5_act.proofs.act.act_value.Goals as goal

pub put_applied-requires : goal.put_applied-requires
put_applied-requires c = (c.requires.0, c.requires.1.room, value_decoded _ _ _ c.value-to.ensures (simp (length-take, length-drop) (omega arith)) c.requires.1.room)

pub returns : goal.returns
returns c = beside_as (value_replaced _ _ _ c.value-to.ensures _ _ _ (part_slice _ _ _)) same_all (wrote_same c.value-to.ensures) c.put_applied.ensures
