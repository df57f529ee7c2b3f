use Rattle.std.proofs.Common.{arith}
use Rattle.er7_message.proofs.Parsing.{message_long, message_foreign, message_empty, message_ended, message_open}
use Rattle.er7_message.proofs.Reading.{room_front}
use Rattle.er7_message.proofs.message.parse.Goals as goal

pub returns-then-text-gt-INPUT_MAX : goal.returns-then-text-gt-INPUT_MAX
returns-then-text-gt-INPUT_MAX c = message_long _ (omega arith) _ _ _

pub returns-then-not-no_foreign : goal.returns-then-not-no_foreign
returns-then-not-no_foreign c = message_foreign _ (omega arith) c.no_foreign.ensures c.if-not-no_foreign.true _ _ _

pub returns-then-is_empty : goal.returns-then-is_empty
returns-then-is_empty c = message_empty _ (grind arith) (c.read_nothing.ensures _)

pub parse_lines-requires : goal.parse_lines-requires
parse_lines-requires c = room_front c.requires (omega (arith, c.in-Some.ensures.cases.2))

pub returns-in-Some : goal.returns-in-Some
returns-in-Some c = message_ended c.args.text.now (omega arith) c.no_foreign.ensures c.if-not-no_foreign.false (grind arith) c.in-Some.ensures.cases.0 c.in-Some.ensures.cases.1 c.parse_lines.ensures

pub returns-in-None : goal.returns-in-None
returns-in-None c = message_open c.args.text.now (omega arith) c.no_foreign.ensures c.if-not-no_foreign.false (grind arith) c.in-None.ensures.cases c.parse_lines-in-None.ensures
