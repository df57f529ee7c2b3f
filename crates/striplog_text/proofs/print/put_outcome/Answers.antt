use Rattle.striplog_text.proofs.Lines.{success_wrote, refusal_wrote}
use Rattle.striplog_text.proofs.print.put_outcome.Goals as goal

pub returns-then-number-eq0 : goal.returns-then-number-eq0
returns-then-number-eq0 c = success_wrote _ _ _ _ _ c.if-number-eq0.true c.copy_at-k.ensures c.copy_at-e.ensures c.put_rows.ensures

pub returns : goal.returns
returns c = refusal_wrote _ _ _ _ _ c.if-number-eq0.false c.put_refused.ensures
