use Rattle.two_calls.proofs.Laws.{redacted_twice}
use Rattle.two_calls.proofs.redact_twice.Goals as goal

pub returns : goal.returns
returns c = redacted_twice c.redact-one.ensures c.redact-two.ensures
