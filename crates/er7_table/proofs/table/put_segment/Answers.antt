use Rattle.std.proofs.Common.{arith}
use Rattle.er7_table.proofs.Rows.{segment_put}
use Rattle.er7_table.proofs.table.put_segment.Goals as goal

pub returns : goal.returns
returns c = segment_put _ _ _ _ (omega arith)
