use Rattle.std.proofs.Common.{arith, length, refl}
use Rattle.text.specs.Text.{between}
use Rattle.text.proofs.Runs.{between_length}
use Rattle.text.proofs.Writes.{zeros_to_end}
use Rattle.text.proofs.bytes.zero_from.Goals as goal

pub returns : goal.returns
unfolding between
returns c = rw (c.fill.ensures.after (λ y e. e), between_length c.args.buf.now c.args.at (length c.args.buf.now) (omega arith)) (zeros_to_end _ _ _ c.requires refl)
