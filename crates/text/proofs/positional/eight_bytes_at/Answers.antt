use Rattle.std.proofs.Common.{◌∙◌}
use Rattle.text.proofs.Spelling.{eight_bytes_are}
use Rattle.text.proofs.positional.eight_bytes_at.Goals as goal

pub returns : goal.returns
returns c = rw (← (c.to_be_bytes.ensures ∙ eight_bytes_are c.args.n)) c.copy_at.ensures
