use Rattle.std.proofs.Common.{le-leb, lt-ltb}
use borrow.Author.Tests.{lt-leb}
use Rattle.text.proofs.Laws.{and_false, and_id}
use Rattle.message_model.specs.Message.{touchable}
use Rattle.er7_table.specs.Table.{as_label}
use Rattle.redact_6_row.proofs.reach.touchable.Goals as goal

pub returns-then-p-gt2 : goal.returns-then-p-gt2
unfolding touchable as_label
returns-then-p-gt2 c = rw (lt-ltb 2 c.args.p.field c.if-p-gt2.true, lt-leb c.args.p.field 2 c.if-p-gt2.true, and_false)

pub returns-else-p-gt2 : goal.returns-else-p-gt2
unfolding touchable as_label
returns-else-p-gt2 c = rw (c.is_header_name.ensures, le-leb c.args.p.field 2 c.if-p-gt2.false, and_id)
