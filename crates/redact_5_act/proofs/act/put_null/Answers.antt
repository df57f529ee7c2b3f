use native.Mathlib.Omega.{arith}
use mathlib.Core.Path.{refl, sym, ◌∙◌}
use borrow.Author.Tests.{ltb-false}
use Rattle.text.specs.Text.{bytes}
use Rattle.text.proofs.Kept.{wrote_stands}
use Rattle.message_model.specs.Value.{NULL}
use Rattle.redact_5_act.proofs.Acts.{overran, became}
use Rattle.refusal.specs.Limits.{TEXT_MAX}
use Rattle.redact_5_act.proofs.act.put_null.Goals as goal

pub returns-then-is_over : goal.returns-then-is_over
unfolding NULL bytes
returns-then-is_over c = record { out = (refl, overran NULL refl (sym c.is_over.ensures ∙ c.if-is_over.true)) }

pub copy_at-requires : goal.copy_at-requires
copy_at-requires c = omega (arith, c.requires (ltb-false TEXT_MAX _ (sym c.is_over.ensures ∙ c.if-is_over.false)))

pub returns : goal.returns
unfolding NULL bytes
returns c = record { out = became NULL refl (sym c.is_over.ensures ∙ c.if-is_over.false) (wrote_stands c.copy_at.ensures) }
