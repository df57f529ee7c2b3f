use Rattle.std.proofs.Common.{arith}
use Rattle.er7_value.proofs.Encoding.{encoding_start, encoding_room, encoding_more, encoding_end}
use Rattle.er7_value.proofs.escape.encode.Goals as goal

pub loop-b-init : goal.loop-b-init
loop-b-init c = encoding_start _ _ _ _ (omega arith)

pub put_byte-k-requires : goal.put_byte-k-requires
put_byte-k-requires c = encoding_room c.loop-b.invariant (omega arith) c.requires

pub loop-b-preserved : goal.loop-b-preserved
loop-b-preserved c = encoding_more c.loop-b.invariant (omega arith) c.put_byte-k.ensures

pub returns : goal.returns
returns c = encoding_end c.loop-b.invariant (omega arith)
