use mathlib.Core.Path.{ap, ◌∙◌}
use Rattle.text.specs.Text.{same, between}
use Rattle.text.proofs.Runs.{part_slice}
use Rattle.redact_5_act.specs.Known.{value_of}
use Rattle.redact_5_act.proofs.Knowing.{other_hash}
use Rattle.redact_5_act.proofs.known.is_value.Goals as goal

pub returns-then-v-h : goal.returns-then-v-h
returns-then-v-h c = other_hash _ _ c.requires.3 c.requires.0.hash c.if-v-h.true

pub returns : goal.returns
unfolding value_of between
returns c = c.same_bytes.ensures ∙ ap (same _) (part_slice _ _ _)
