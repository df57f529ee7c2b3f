use native.Mathlib.Omega.{arith}
use mathlib.Core.Path.{sym, ◌∙◌}
use Rattle.text.specs.Text.{between}
use Rattle.text.proofs.Kept.{same_all, wrote_same}
use Rattle.redact_5_act.specs.Inner.{decoded_at}
use Rattle.redact_5_act.proofs.Acts.{room_fits, read_same, read_other, written_few, beside_as}
use Rattle.redact_5_act.proofs.act.put_value.Goals as goal

pub apply-end-requires : goal.apply-end-requires
unfolding decoded_at between
apply-end-requires c = (c.requires.0, omega (arith, room_fits _ c.requires.1 c.requires.3.few))

pub returns-then-same_bytes : goal.returns-then-same_bytes
unfolding decoded_at between
returns-then-same_bytes c = record { out = (read_same _ _ _ c.apply-end.ensures (sym c.same_bytes.ensures ∙ c.if-same_bytes.true), wrote_same c.apply-end.ensures); beside = same_all }

pub put_escaped-requires : goal.put_escaped-requires
unfolding decoded_at between
put_escaped-requires c = (c.requires.1, omega (arith, c.apply-end.ensures.end, c.apply-end.ensures.high), written_few _ c.apply-end.ensures c.requires.3)

pub returns : goal.returns
unfolding decoded_at between
returns c = beside_as (read_other _ _ _ c.apply-end.ensures (sym c.same_bytes.ensures ∙ c.if-same_bytes.false)) (wrote_same c.apply-end.ensures) same_all c.put_escaped.ensures
