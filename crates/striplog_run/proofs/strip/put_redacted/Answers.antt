use Rattle.std.proofs.Common.{length-take, arith}
use Rattle.striplog_run.proofs.Laws.{text_end, report_end, returned_room, returned_prints}
use Rattle.striplog_run.proofs.strip.put_redacted.Goals as goal

pub slice_bounds-output-end : goal.slice_bounds-output-end
slice_bounds-output-end c = omega (arith, text_end _ _ _ _ _ _ _ c.redact-returned.ensures (omega arith))

pub slice_bounds-report-end : goal.slice_bounds-report-end
slice_bounds-report-end c = omega (arith, report_end _ _ _ _ _ _ _ c.redact-returned.ensures (omega arith))

pub slice_bounds-put_outcome-end : goal.slice_bounds-put_outcome-end
slice_bounds-put_outcome-end c = let h = text_end _ _ _ _ _ _ _ c.redact-returned.ensures (omega arith) in simp length-take (omega arith)

pub slice_bounds-put_outcome-end-2 : goal.slice_bounds-put_outcome-end-2
slice_bounds-put_outcome-end-2 c = let h = report_end _ _ _ _ _ _ _ c.redact-returned.ensures (omega arith) in simp length-take (omega arith)

pub put_outcome-requires : goal.put_outcome-requires
put_outcome-requires c = returned_room c.redact-returned.result _ _ _ (omega arith) (omega arith) (omega arith) (omega arith) (omega arith) (omega arith)

pub returns : goal.returns
returns c = rw (returned_prints _ _ _ _ _ _ _ c.redact-returned.ensures) at c.put_outcome.ensures
