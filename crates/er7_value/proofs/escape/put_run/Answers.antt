use Rattle.text.proofs.Writes.{wrote_then}
use Rattle.er7_value.proofs.escape.put_run.Goals as goal

pub returns : goal.returns
returns c = wrote_then c.byte_at-open.ensures (wrote_then c.byte_at-close.ensures c.byte_at.ensures)
