use Rattle.text.proofs.Writes.{wrote_byte}
use Rattle.text.proofs.bytes.byte_at.Goals as goal

pub returns : goal.returns
returns c = wrote_byte _ _ _ c.requires
