use Rattle.std.proofs.Common.{arith}
use Rattle.std.proofs.lemmas.List.{take_rest}
use Rattle.er7_message.proofs.Lines.{line_ends}
use Rattle.er7_message.proofs.message.line_end.Goals as goal

pub overflow_add-result : goal.overflow_add-result
overflow_add-result c =
    let e = line_ends c.args.text.now c.args.i c.line_len.result (omega arith) (rw take_rest at c.line_len.ensures) in
    omega (arith, e.high)

pub returns : goal.returns
returns c = line_ends _ _ _ (omega arith) (rw take_rest at c.line_len.ensures)
