use Rattle.std.proofs.Common.{◌+◌, sym, arith}
use Rattle.std.proofs.lemmas.List.{length-replicate}
use native.Mathlib.Nat.{add-sub_cancel_left}
use Rattle.text.specs.Text.{between}
use Rattle.text.proofs.Runs.{between_length}
use Rattle.text.proofs.Writes.{wrote_part}
use Rattle.text.proofs.bytes.fill_at.Goals as goal

pub returns : goal.returns
unfolding between
returns c =
    rw (c.fill.ensures.after (λ y e. e), between_length c.args.buf.now c.args.at (c.args.at + c.args.n) (omega arith), add-sub_cancel_left c.args.at c.args.n)
    (wrote_part _ _ _ (sym (length-replicate _ _)) (simp length-replicate (omega arith)) (omega arith))
