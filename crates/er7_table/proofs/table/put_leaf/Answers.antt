use Rattle.std.proofs.Common.{arith}
use Rattle.er7_table.proofs.Rows.{leaf_put}
use Rattle.er7_table.proofs.table.put_leaf.Goals as goal

pub returns : goal.returns
returns c = leaf_put _ _ _ _ _ (omega arith)
