use Rattle.std.proofs.Common.{◌∙◌}
use Rattle.er7_redact.proofs.Actions.{count_read}
use Rattle.er7_redact.proofs.action.read_count.Goals as goal

pub returns : goal.returns
returns c = c.ok_or.ensures.value ∙ count_read c.without_plus.ensures c.read_whole.ensures
