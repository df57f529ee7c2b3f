use borrow.Author.Rules.{rules}
use native.Mathlib.Omega.{arith}
use Rattle.redact.proofs.Laws.{short_room, full_room}
use Rattle.redact.proofs.redact.redact_message.Goals as goal

pub redact_in-requires : goal.redact_in-requires
redact_in-requires c = (c.requires.0, c.requires.1, short_room _ _ (omega (arith, c.if-message-le1024.true)), c.requires.2)

pub redact_in-requires-2 : goal.redact_in-requires-2
redact_in-requires-2 c = (c.requires.0, c.requires.1, full_room _ _ (search rules), c.requires.2)
