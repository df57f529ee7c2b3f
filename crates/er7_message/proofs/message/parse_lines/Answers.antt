use Rattle.std.proofs.Common.{rules}
use Rattle.er7_message.proofs.Parsing.{header_bad, header_long, header_end, header_read}
use Rattle.er7_message.proofs.message.parse_lines.Goals as goal

pub returns-then-not-is_header : goal.returns-then-not-is_header
returns-then-not-is_header c = header_bad c.line_end-e.ensures c.is_header.ensures c.if-not-is_header.true _ _ _

pub separators_of-s-requires : goal.separators_of-s-requires
separators_of-s-requires c = header_long _ c.is_header.ensures c.if-not-is_header.false

pub read_lines-requires : goal.read_lines-requires
read_lines-requires c = (header_end c.line_end-e.ensures c.is_header.ensures c.if-not-is_header.false c.separators_of-s.ensures, search rules)

pub returns : goal.returns
returns c = header_read (header_end c.line_end-e.ensures c.is_header.ensures c.if-not-is_header.false c.separators_of-s.ensures) _ c.read_lines.ensures
