use Rattle.std.proofs.Common.{◌∙◌, rules}
use Rattle.std.proofs.lemmas.Iterator.{YieldsList-from_slice}
use Rattle.std.proofs.lemmas.Iterator.Consumers.{fold_from_yields_List}
use Rattle.striplog_text.specs.Key.{fed_byte}
use Rattle.striplog_text.proofs.Keys.{fed_fold}
use Rattle.striplog_text.proofs.key.feed.Goals as goal

pub returns : goal.returns
returns c = fold_from_yields_List _ fed_byte _ _ c.fold.ensures.ran (YieldsList-from_slice c.args.chunk.now cc) (λ a x b q k. search rules) ∙ fed_fold _ _
