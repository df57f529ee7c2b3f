use Rattle.std.proofs.Common.{arith}
use Rattle.message_model.specs.Message.{separators_of}
use Rattle.er7_message.proofs.Parsing.{nothing_read}
use Rattle.er7_message.proofs.message.read_nothing.Goals as goal

pub returns : goal.returns
unfolding separators_of
returns c = nothing_read c.args.segments.now _ (omega (arith, c.told-segments))
