use Rattle.std.proofs.Common.{refl}
use Rattle.er7_table.specs.Table.{first_leaf, name_at, label_at, as_label}
use Rattle.redact_2_turn.proofs.turn.spot_of.Goals as goal

pub returns : goal.returns
unfolding first_leaf label_at name_at as_label
returns c = record { label = refl; first = refl; end = refl }
