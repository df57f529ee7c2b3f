use native.Mathlib.Omega.{arith}
use Rattle.redact_6_row.proofs.Rows.{put_part, row_full, row_room}
use Rattle.redact_6_row.proofs.report.row_at.Goals as goal

pub returns-then-report-end : goal.returns-then-report-end
returns-then-report-end c = (row_full _ _ _ c.row_len.ensures.0 (omega arith), omega (arith, c.row_len.ensures.1))

pub returns : goal.returns
returns c = (row_room _ _ _ c.row_len.ensures.0 (omega arith) (put_part _ _ _ _ (omega arith) c.put_row.ensures), omega (arith, c.row_len.ensures.1))
