use Rattle.text.specs.Text.{bytes}
use Rattle.striplog_text.proofs.Lines.{refused_wrote}
use Rattle.striplog_text.proofs.print.put_refused.Goals as goal

pub returns : goal.returns
unfolding bytes
returns c = refused_wrote _ _ c.copy_at-k.ensures c.decimal_at-m.ensures c.copy_at-w.ensures c.decimal_at-e.ensures c.byte_at.ensures
