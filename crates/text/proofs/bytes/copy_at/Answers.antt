use Rattle.std.proofs.Common.{refl, ◌∙◌, length-set, arith}
use Rattle.std.proofs.lemmas.List.Edits.{paste_none}
use Rattle.text.proofs.Writes.{copied_more, copied_all}
use Rattle.text.proofs.bytes.copy_at.Goals as goal

pub loop-j-init : goal.loop-j-init
loop-j-init c = (paste_none c.args.dst.now c.args.at c.args.src.now, refl)

pub loop-j-preserved : goal.loop-j-preserved
loop-j-preserved c = (copied_more _ _ _ _ c.loop-j.invariant.0 (omega arith) (omega arith), length-set _ _ _ ∙ c.loop-j.invariant.1)

pub returns : goal.returns
returns c = copied_all _ _ _ c.loop-j.invariant.0 (omega arith) (omega arith)
