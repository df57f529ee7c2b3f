use native.Mathlib.Omega.{arith}
use Rattle.er7_redact.specs.Action.{as_action}
use Rattle.text.proofs.Writes.{wrote_then}
use Rattle.redact_6_row.proofs.Rows.{leaf_held, row_text, row_length}
use Rattle.redact_6_row.proofs.report.put_row.Goals as goal

pub print-b-requires : goal.print-b-requires
print-b-requires c =
    rw c.path_of.ensures (leaf_held _ _, omega (arith, row_length c.args.g c.args.p (as_action c.args.text.now c.args.a)))

pub byte_at-c-requires : goal.byte_at-c-requires
byte_at-c-requires c =
    let w = rw c.path_of.ensures at c.print-b.ensures in
    omega (arith, w.end, row_length c.args.g c.args.p (as_action c.args.text.now c.args.a))

pub print-d-requires : goal.print-d-requires
print-d-requires c =
    let w = rw c.path_of.ensures at c.print-b.ensures in
    (c.requires.0, omega (arith, w.end, row_length c.args.g c.args.p (as_action c.args.text.now c.args.a)))

pub byte_at-requires : goal.byte_at-requires
byte_at-requires c =
    let w = rw c.path_of.ensures at c.print-b.ensures in
    omega (arith, w.end, row_length c.args.g c.args.p (as_action c.args.text.now c.args.a))

pub returns : goal.returns
returns c =
    let w = rw c.path_of.ensures at c.print-b.ensures in
    rw (row_text c.args.g c.args.p (as_action c.args.text.now c.args.a)) (wrote_then w (wrote_then c.byte_at-c.ensures (wrote_then c.print-d.ensures c.byte_at.ensures)))
