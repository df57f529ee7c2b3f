use native.Mathlib.Omega.{arith}
use Prim.Native.Nat.{◌+◌, ◌≤◌}
use lib.ListN.{length}
use mathlib.Core.Path.{◌≡◌, refl}
use Rattle.er7_redact.specs.declared.action.Action.TheVariants as Held
use Rattle.er7_redact.specs.Action.{as_action}
use Rattle.run_model.specs.Redact.{row, print_row}
use Rattle.er7_table.specs.Table.{as_label}
use Rattle.redact_6_row.proofs.Rows.{leaf_held, row_length, row_most, CountBits}
use Rattle.er7_redact.specs.declared.action.Action.{Action as HeldAction}
use Rattle.redact_6_row.proofs.report.row_len.Goals as goal

-- what is known of the action's count where the length is reckoned
count_bits : (c : goal.After-printed_len-2) → CountBits c.args.a
count_bits c = go c.args.a refl
  where
    go : (a : HeldAction) → c.args.a ≡ a → CountBits a
    go Held.Keep e = tt
    go Held.Clear e = tt
    go Held.Null e = tt
    go (Held.Replace i n) e = tt
    go (Held.Mask x) e = tt
    go (Held.First n) e = let h = rw e at c.well_formed.1.1.0 in omega (arith, h)
    go (Held.Last n) e = let h = rw e at c.well_formed.1.1.0 in omega (arith, h)
    go Held.Pseudonym e = tt
    go (Held.Shift z) e = let h = rw e at c.well_formed.1.1.0 in omega (arith, h)

most : (c : goal.After-printed_len-2) → length (print_row (row (as_label c.args.g) c.args.p (as_action c.args.text.now c.args.a))) ≤ length c.args.text.now + 138
most c = row_most c.args.g c.args.p c.args.text.now c.args.a (record {
  occurrence = omega (arith, c.well_formed.0);
  field = omega (arith, c.well_formed.1.0);
  repetition = omega (arith, c.well_formed.1.0);
  component = omega (arith, c.well_formed.1.0);
  subcomponent = omega (arith, c.well_formed.1.0);
}) c.requires (count_bits c)

pub printed_len-requires : goal.printed_len-requires
printed_len-requires c = rw c.path_of.ensures (leaf_held _ _)

pub overflow_add-result : goal.overflow_add-result
overflow_add-result c =
    let l = rw c.path_of.ensures at c.printed_len.ensures in
    omega (arith, l, c.printed_len-2.ensures, most c, row_length c.args.g c.args.p (as_action c.args.text.now c.args.a))

pub overflow_add-result-2 : goal.overflow_add-result-2
overflow_add-result-2 c =
    let l = rw c.path_of.ensures at c.printed_len.ensures in
    omega (arith, l, c.printed_len-2.ensures, most c, row_length c.args.g c.args.p (as_action c.args.text.now c.args.a))

pub returns : goal.returns
returns c =
    let l = rw c.path_of.ensures at c.printed_len.ensures in
    let n = row_length c.args.g c.args.p (as_action c.args.text.now c.args.a) in
    (omega (arith, l, n, c.printed_len-2.ensures), omega (arith, l, n, c.printed_len-2.ensures, most c))
