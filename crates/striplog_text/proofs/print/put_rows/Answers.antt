use Rattle.text.specs.Text.{bytes}
use Rattle.striplog_text.proofs.Lines.{rows_wrote}
use Rattle.striplog_text.proofs.print.put_rows.Goals as goal

pub returns : goal.returns
unfolding bytes
returns c = rows_wrote _ c.copy_at-k.ensures c.decimal_at-e.ensures c.byte_at.ensures
