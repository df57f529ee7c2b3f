use Rattle.std.proofs.Common.{arith}
use Rattle.std.proofs.lemmas.List.{take_rest}
use Rattle.er7_table.proofs.Reading.{leaf_ends}
use Rattle.er7_table.proofs.table.leaf_end.Goals as goal

pub overflow_add-result : goal.overflow_add-result
overflow_add-result c =
    let e = leaf_ends c.args.s c.args.text.now c.args.i c.leaf_len.result (omega arith) (rw take_rest at c.leaf_len.ensures) in
    omega (arith, e.high)

pub returns : goal.returns
returns c = leaf_ends _ _ _ _ (omega arith) (rw take_rest at c.leaf_len.ensures)
