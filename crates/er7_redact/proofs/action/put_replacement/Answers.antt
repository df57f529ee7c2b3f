use native.Mathlib.Omega.{arith}
use Rattle.er7_redact.proofs.Actions.{replacement_bare, replacement_part}
use Rattle.text.specs.Text.{bytes}
use Rattle.text.proofs.Runs.{part_slice}
use Rattle.er7_redact.proofs.action.put_replacement.Goals as goal

pub copy_at-requires : goal.copy_at-requires
unfolding bytes
copy_at-requires c = omega (arith, rw (replacement_bare c.args.text.now c.args.start c.args.len c.if-len-eq0.true) at c.requires.1)

pub returns-then-len-eq0 : goal.returns-then-len-eq0
unfolding bytes
returns-then-len-eq0 c = rw (replacement_bare c.args.text.now c.args.start c.args.len c.if-len-eq0.true) c.copy_at.ensures

pub copy_at-requires-2 : goal.copy_at-requires-2
copy_at-requires-2 c =
    let s = c.before.before.before.before.before in
    rw (part_slice s.args.text.now s.args.start s.args.len, ← replacement_part s.args.text.now s.args.start s.args.len c.if-len-eq0.false) s.requires.1

pub returns : goal.returns
returns c =
    let s = c.before.before.before.before.before.before.before.before in
    rw (replacement_part s.args.text.now s.args.start s.args.len c.if-len-eq0.false) (rw (part_slice s.args.text.now s.args.start s.args.len) at c.copy_at-2.ensures)
