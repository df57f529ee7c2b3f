use Rattle.redact_5_act.proofs.Knowing.{first_mark}
use Rattle.redact_5_act.proofs.known.may_have.Goals as goal

pub returns : goal.returns
returns c = first_mark _ c.requires
