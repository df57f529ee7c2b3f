use Rattle.std.proofs.Common.{arith}
use Rattle.text.specs.Text.{part}
use Rattle.er7_value.proofs.Decoding.{decoding_start, decoding_stretch, decoding_unpaired, decoding_paired, decoding_end}
use Rattle.er7_value.proofs.escape.decode.Goals as goal

pub loop-i-init : goal.loop-i-init
loop-i-init c = decoding_start _ _ _ _ (omega arith)

pub returns-then-open-text : goal.returns-then-open-text
unfolding part
returns-then-open-text c = decoding_end (decoding_stretch c.loop-i.invariant c.run_end-open.ensures c.copy_at-k.ensures) (omega arith)

pub returns-then-close-text : goal.returns-then-close-text
unfolding part
returns-then-close-text c = decoding_unpaired (decoding_stretch c.loop-i.invariant c.run_end-open.ensures c.copy_at-k.ensures) c.run_end-open.ensures (omega arith) c.run_end-close.ensures c.if-close-text.true c.copy_at.ensures

pub loop-i-preserved : goal.loop-i-preserved
unfolding part
loop-i-preserved c = decoding_paired (decoding_stretch c.loop-i.invariant c.run_end-open.ensures c.copy_at-k.ensures) c.run_end-open.ensures (omega arith) c.run_end-close.ensures (omega arith) c.put_pair-k.ensures

pub returns : goal.returns
returns c = decoding_end c.loop-i.invariant (omega arith)
