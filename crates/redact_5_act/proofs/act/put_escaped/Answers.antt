use Rattle.std.proofs.Common.{refl}
use native.Mathlib.Omega.{arith}
use mathlib.Core.Path.{sym, ◌∙◌}
use Rattle.text.specs.Text.{between}
use Rattle.text.proofs.Kept.{same_all, wrote_same, wrote_between}
use Rattle.text.proofs.Runs.{part_slice}
use Rattle.redact_5_act.proofs.Acts.{escaped_over, escaped_same, escaped_room, escaped_anew}
use Rattle.redact_5_act.proofs.act.put_escaped.Goals as goal

pub returns-then-is_over : goal.returns-then-is_over
returns-then-is_over c = record { out = (refl, escaped_over _ _ (part_slice _ _ _) c.encoded_len-m.ensures.0 (sym c.is_over.ensures ∙ c.if-is_over.true)); beside = same_all }

pub returns-then-m-n : goal.returns-then-m-n
returns-then-m-n c = record { out = escaped_same _ _ (part_slice _ _ _) c.encoded_len-m.ensures.0 (sym c.is_over.ensures ∙ c.if-is_over.false) (omega arith) c.if-m-n.true; beside = same_all }

pub encode-requires : goal.encode-requires
unfolding between
encode-requires c = omega (arith, escaped_room _ _ (wrote_between c.copy_at-to.ensures) c.encoded_len-m.ensures.0 (sym c.is_over.ensures ∙ c.if-is_over.false) c.requires.0)

pub returns : goal.returns
unfolding between
returns c = record { out = escaped_anew _ _ (part_slice _ _ _) c.encoded_len-m.ensures.0 (sym c.is_over.ensures ∙ c.if-is_over.false) (wrote_between c.copy_at-to.ensures) c.encode.ensures; beside = wrote_same c.copy_at-to.ensures }
