use Rattle.std.proofs.Common.{rules, arith, length-take}
use Rattle.er7_message.proofs.Segments.{next_at, field_within, within_behind, behind_none, behind_some}
use Rattle.er7_message.proofs.Reading.{room_front}
use Rattle.er7_message.proofs.message.read_behind.Goals as goal

pub returns-then-from-end : goal.returns-then-from-end
returns-then-from-end c = behind_none _ _ _ _ _ _ _ c.if-from-end.true (omega arith) (omega arith)

pub next-p-requires : goal.next-p-requires
next-p-requires c = field_within _ _ c.at_field.ensures (omega arith) (omega arith)

pub read_leaves-requires : goal.read_leaves-requires
read_leaves-requires c = (search rules, search rules, omega arith, room_front c.requires.6 (simp length-take (omega arith)), within_behind _ _ _ _ (next_at _ _ _ c.next-p.ensures c.at_field.ensures) (omega arith) (omega arith))

pub returns : goal.returns
returns c = behind_some c.args.s c.args.text.now c.args.from c.args.end c.args.field c.args.n _ (omega arith) (omega arith) (next_at _ _ _ c.next-p.ensures c.at_field.ensures) _ c.read_leaves.ensures
