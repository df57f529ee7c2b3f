use Rattle.er7_table.specs.Table.{as_label}
use Rattle.er7_table.proofs.Rows.{front_three}
use Rattle.er7_table.proofs.table.label_of.Goals as goal

pub returns : goal.returns
unfolding as_label
returns c = rw (front_three c.args.line.now c.requires)
