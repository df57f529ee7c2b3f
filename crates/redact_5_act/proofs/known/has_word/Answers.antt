use Rattle.text.specs.Text.{between}
use Rattle.redact_5_act.specs.Known.{value_of}
use Rattle.redact_5_act.proofs.Knowing.{word_of_part}
use Rattle.redact_5_act.proofs.known.has_word.Goals as goal

pub returns : goal.returns
unfolding value_of between
returns c = word_of_part _ _ _ _ c.is_whole_word.ensures
