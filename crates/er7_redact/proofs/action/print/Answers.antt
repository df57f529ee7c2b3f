use borrow.Author.Rules.{rules}
use native.Mathlib.Omega.{arith}
use mathlib.Core.Path.{◌≡◌}
use mir.Syntax.{w64}
use mir.Val.{to_z, of_z}
use Rattle.text.specs.Text.{bytes}
use Rattle.text.proofs.Writes.{wrote_then}
use Rattle.er7_redact.specs.Action.{print_action, as_action}
use Rattle.er7_redact.proofs.action.print.Goals as goal

pub copy_at-requires : goal.copy_at-requires
unfolding print_action as_action bytes
copy_at-requires c = omega (arith, rw c.in-Keep.is at c.requires.1)

pub copy_at-requires-in-Clear : goal.copy_at-requires-in-Clear
unfolding print_action as_action bytes
copy_at-requires-in-Clear c = omega (arith, rw c.in-Clear.is at c.requires.1)

pub copy_at-requires-in-Null : goal.copy_at-requires-in-Null
unfolding print_action as_action bytes
copy_at-requires-in-Null c = omega (arith, rw c.in-Null.is at c.requires.1)

pub copy_at-k-requires : goal.copy_at-k-requires
unfolding print_action as_action bytes
copy_at-k-requires c = omega (arith, rw c.in-Replace.is at c.requires.1)

pub put_replacement-requires : goal.put_replacement-requires
unfolding print_action as_action bytes
put_replacement-requires c =
    let p = rw c.in-Replace.is at c.requires in
    (p.0, omega (arith, p.1))

pub copy_at-k-requires-in-Mask : goal.copy_at-k-requires-in-Mask
unfolding print_action as_action bytes
copy_at-k-requires-in-Mask c = omega (arith, rw c.in-Mask.is at c.requires.1)

pub byte_at-requires : goal.byte_at-requires
unfolding print_action as_action bytes
byte_at-requires c = omega (arith, rw c.in-Mask.is at c.requires.1)

pub copy_at-k-requires-in-First : goal.copy_at-k-requires-in-First
unfolding print_action as_action bytes
copy_at-k-requires-in-First c = omega (arith, rw c.in-First.is at c.requires.1)

pub decimal_at-requires : goal.decimal_at-requires
unfolding print_action as_action bytes
decimal_at-requires c = omega (arith, rw c.in-First.is at c.requires.1)

pub copy_at-k-requires-in-Last : goal.copy_at-k-requires-in-Last
unfolding print_action as_action bytes
copy_at-k-requires-in-Last c = omega (arith, rw c.in-Last.is at c.requires.1)

pub decimal_at-requires-in-Last : goal.decimal_at-requires-in-Last
unfolding print_action as_action bytes
decimal_at-requires-in-Last c = omega (arith, rw c.in-Last.is at c.requires.1)

pub copy_at-requires-in-Pseudonym : goal.copy_at-requires-in-Pseudonym
unfolding print_action as_action bytes
copy_at-requires-in-Pseudonym c = omega (arith, rw c.in-Pseudonym.is at c.requires.1)

pub copy_at-k-requires-in-Shift : goal.copy_at-k-requires-in-Shift
unfolding print_action as_action bytes
copy_at-k-requires-in-Shift c = omega (arith, rw c.in-Shift.is at c.requires.1)

pub days_at-requires : goal.days_at-requires
unfolding print_action as_action bytes
days_at-requires c =
    let i : to_z w64 (of_z w64 c.in-Shift.n) ≡ c.in-Shift.n = search rules in
    rw i (omega (arith, rw c.in-Shift.is at c.requires.1))

pub returns-in-Keep : goal.returns-in-Keep
unfolding print_action as_action bytes
returns-in-Keep c = rw c.in-Keep.is c.copy_at.ensures

pub returns-in-Clear : goal.returns-in-Clear
unfolding print_action as_action bytes
returns-in-Clear c = rw c.in-Clear.is c.copy_at-in-Clear.ensures

pub returns-in-Null : goal.returns-in-Null
unfolding print_action as_action bytes
returns-in-Null c = rw c.in-Null.is c.copy_at-in-Null.ensures

pub returns-in-Replace : goal.returns-in-Replace
unfolding print_action as_action bytes
returns-in-Replace c = rw c.in-Replace.is (wrote_then c.copy_at-k.ensures c.put_replacement.ensures)

pub returns-in-Mask : goal.returns-in-Mask
unfolding print_action as_action bytes
returns-in-Mask c = rw c.in-Mask.is (wrote_then c.copy_at-k-in-Mask.ensures c.byte_at.ensures)

pub returns-in-First : goal.returns-in-First
unfolding print_action as_action bytes
returns-in-First c = rw c.in-First.is (wrote_then c.copy_at-k-in-First.ensures c.decimal_at.ensures)

pub returns-in-Last : goal.returns-in-Last
unfolding print_action as_action bytes
returns-in-Last c = rw c.in-Last.is (wrote_then c.copy_at-k-in-Last.ensures c.decimal_at-in-Last.ensures)

pub returns-in-Pseudonym : goal.returns-in-Pseudonym
unfolding print_action as_action bytes
returns-in-Pseudonym c = rw c.in-Pseudonym.is c.copy_at-in-Pseudonym.ensures

pub returns-in-Shift : goal.returns-in-Shift
unfolding print_action as_action bytes
returns-in-Shift c =
    let i : to_z w64 (of_z w64 c.in-Shift.n) ≡ c.in-Shift.n = search rules in
    rw (c.in-Shift.is, ← i) (wrote_then c.copy_at-k-in-Shift.ensures c.days_at.ensures)
