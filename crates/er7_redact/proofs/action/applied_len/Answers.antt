use borrow.Author.Rules.{rules}
use mathlib.Core.Path.{◌≡◌, ap}
use native.Mathlib.Omega.{arith}
use mir.Syntax.{w64}
use mir.Val.{to_z, of_z}
use lib.ListN.{length-replicate, length-take, length-drop}
use Rattle.text.proofs.Spelling.{hexadecimal_length}
use Rattle.std.proofs.Common.{Some}
use Rattle.er7_redact.specs.Action.{apply, as_action, answer}
use Rattle.pseudonym.specs.Pseudonym as P
use Rattle.er7_redact.proofs.action.applied_len.Goals as goal

pub returns-in-Keep : goal.returns-in-Keep
unfolding apply as_action answer
returns-in-Keep c = λ t key h. rw c.in-Keep.is

pub returns-in-Clear : goal.returns-in-Clear
unfolding apply as_action answer
returns-in-Clear c = λ t key h. rw c.in-Clear.is

pub returns-in-Null : goal.returns-in-Null
unfolding apply as_action answer
returns-in-Null c = λ t key h. rw c.in-Null.is

pub returns-in-Replace : goal.returns-in-Replace
unfolding apply as_action answer
returns-in-Replace c = λ t key h.
    let p = rw c.in-Replace.is at h in
    rw c.in-Replace.is (ap Some (c.replacement_len.ensures.0 t c.in-Replace.start p))

pub returns-in-Mask : goal.returns-in-Mask
unfolding apply as_action answer
returns-in-Mask c = λ t key h. rw (c.in-Mask.is, length-replicate)

pub returns-in-First : goal.returns-in-First
unfolding apply as_action answer
returns-in-First c = λ t key h. rw (c.in-First.is, length-take, c.kept_len.ensures)

pub returns-in-Last : goal.returns-in-Last
unfolding apply as_action answer
returns-in-Last c = λ t key h. rw c.in-Last.is (ap Some (simp length-drop (omega (arith, c.kept_len-in-Last.ensures))))

pub returns-in-Pseudonym : goal.returns-in-Pseudonym
unfolding apply as_action answer P.pseudonym
returns-in-Pseudonym c = λ t key h. rw (c.in-Pseudonym.is, hexadecimal_length)

pub returns-in-Shift : goal.returns-in-Shift
unfolding apply as_action answer
returns-in-Shift c = λ t key h. let n = c.in-Shift.n in
    let i : to_z w64 (of_z w64 n) ≡ n = search rules in
    rw (c.in-Shift.is, ← i) (ap Some c.shifted_len.ensures)
