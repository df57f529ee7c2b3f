use borrow.Author.Rules.{rules}
use native.Mathlib.Omega.{arith}
use mathlib.Core.Path.{◌≡◌}
use mir.Syntax.{w64}
use mir.Val.{to_z, of_z}
use Rattle.text.specs.Text.{bytes}
use Rattle.er7_redact.specs.Action.{print_action, as_action}
use Rattle.er7_redact.proofs.action.printed_len.Goals as goal

pub overflow_add-result : goal.overflow_add-result
unfolding print_action as_action bytes
overflow_add-result c =
    let p = rw c.in-Replace.is at c.requires in
    omega (arith, p, c.replacement_len.ensures.1, c.well_formed)

pub returns-in-Keep : goal.returns-in-Keep
unfolding print_action as_action bytes
returns-in-Keep c = rw c.in-Keep.is

pub returns-in-Clear : goal.returns-in-Clear
unfolding print_action as_action bytes
returns-in-Clear c = rw c.in-Clear.is

pub returns-in-Null : goal.returns-in-Null
unfolding print_action as_action bytes
returns-in-Null c = rw c.in-Null.is

pub returns-in-Replace : goal.returns-in-Replace
unfolding print_action as_action bytes
returns-in-Replace c =
    let p = rw c.in-Replace.is at c.requires in
    rw c.in-Replace.is (omega (arith, c.replacement_len.ensures.0 c.args.text.now c.in-Replace.start p))

pub returns-in-Mask : goal.returns-in-Mask
unfolding print_action as_action bytes
returns-in-Mask c = rw c.in-Mask.is

pub returns-in-First : goal.returns-in-First
unfolding print_action as_action bytes
returns-in-First c = rw c.in-First.is (omega (arith, c.decimal_len.ensures.0))

pub returns-in-Last : goal.returns-in-Last
unfolding print_action as_action bytes
returns-in-Last c = rw c.in-Last.is (omega (arith, c.decimal_len-in-Last.ensures.0))

pub returns-in-Pseudonym : goal.returns-in-Pseudonym
unfolding print_action as_action bytes
returns-in-Pseudonym c = rw c.in-Pseudonym.is

pub returns-in-Shift : goal.returns-in-Shift
unfolding print_action as_action bytes
returns-in-Shift c = let n = c.in-Shift.n in
    let i : to_z w64 (of_z w64 n) ≡ n = search rules in
    rw (c.in-Shift.is, ← i) (omega (arith, c.days_len.ensures.0))
