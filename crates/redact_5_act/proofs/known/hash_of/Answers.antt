use borrow.Author.Rules.{rules}
use Rattle.text.specs.Text.{between}
use Rattle.redact_5_act.specs.Known.{hash_of}
use Rattle.redact_5_act.proofs.known.hash_of.Goals as goal

pub returns : goal.returns
unfolding hash_of between
returns c = (c.fold.ensures, search rules)
