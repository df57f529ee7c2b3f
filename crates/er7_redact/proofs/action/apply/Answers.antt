use borrow.Author.Rules.{rules}
use native.Mathlib.Omega.{arith}
use mathlib.Core.Path.{◌≡◌}
use mir.Syntax.{w64}
use mir.Val.{to_z, of_z}
use lib.ListN.{length-replicate}
use Rattle.text.proofs.Spelling.{hexadecimal_length}
use Rattle.text.proofs.Writes.{wrote_none}
use Rattle.er7_redact.specs.Action.{apply, as_action, written, room}
use Rattle.pseudonym.specs.Pseudonym as P
use Rattle.er7_redact.proofs.action.apply.Goals as goal

pub put_replacement-requires : goal.put_replacement-requires
unfolding apply as_action room
put_replacement-requires c =
    let p = rw c.in-Replace.is at c.requires in
    (p.0, omega (arith, p.1))

pub fill_at-requires : goal.fill_at-requires
unfolding apply as_action room
fill_at-requires c =
    let p = rw c.in-Mask.is at c.requires.1 in
    omega (arith, simp length-replicate at p)

pub keep_first-requires : goal.keep_first-requires
unfolding apply as_action room
keep_first-requires c = rw c.in-First.is at c.requires.1

pub keep_last-requires : goal.keep_last-requires
unfolding apply as_action room
keep_last-requires c = rw c.in-Last.is at c.requires.1

pub pseudonym-requires : goal.pseudonym-requires
unfolding apply as_action room P.pseudonym
pseudonym-requires c =
    let p = rw c.in-Pseudonym.is at c.requires.1 in
    omega (arith, rw (hexadecimal_length _) at p)

pub shift_at-requires : goal.shift_at-requires
unfolding apply as_action room
shift_at-requires c = let n = c.in-Shift.n in
    let i : to_z w64 (of_z w64 n) ≡ n = search rules in
    rw i (rw c.in-Shift.is at c.requires.1)

pub returns-in-Keep : goal.returns-in-Keep
unfolding apply as_action written
returns-in-Keep c = rw c.in-Keep.is (wrote_none _ _ (omega (arith, c.requires.1)))

pub returns-in-Clear : goal.returns-in-Clear
unfolding apply as_action written
returns-in-Clear c = rw c.in-Clear.is (wrote_none _ _ (omega (arith, c.requires.1)))

pub returns-in-Null : goal.returns-in-Null
unfolding apply as_action written
returns-in-Null c = rw c.in-Null.is (wrote_none _ _ (omega (arith, c.requires.1)))

pub returns-in-Replace : goal.returns-in-Replace
unfolding apply as_action written
returns-in-Replace c = rw c.in-Replace.is c.put_replacement.ensures

pub returns-in-Mask : goal.returns-in-Mask
unfolding apply as_action written
returns-in-Mask c = rw c.in-Mask.is c.fill_at.ensures

pub returns-in-First : goal.returns-in-First
unfolding apply as_action written
returns-in-First c = rw c.in-First.is c.keep_first.ensures

pub returns-in-Last : goal.returns-in-Last
unfolding apply as_action written
returns-in-Last c = rw c.in-Last.is c.keep_last.ensures

pub returns-in-Pseudonym : goal.returns-in-Pseudonym
unfolding apply as_action written
returns-in-Pseudonym c = rw c.in-Pseudonym.is c.pseudonym.ensures

pub returns-in-Shift : goal.returns-in-Shift
unfolding apply as_action written
returns-in-Shift c = let n = c.in-Shift.n in
    let i : to_z w64 (of_z w64 n) ≡ n = search rules in
    rw (c.in-Shift.is, ← i) c.shift_at.ensures
