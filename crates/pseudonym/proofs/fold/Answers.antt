use Rattle.std.proofs.Common.{◌≡◌, ◌∙◌, rules}
use Rattle.std.specs.List as Lists
use Rattle.std.proofs.iter.runs.Made.{chains}
use Rattle.pseudonym.specs.Pseudonym.{step}
use Rattle.pseudonym.proofs.Hashes.{fold_lem}
use Rattle.pseudonym.proofs.fold.Goals as goal

pub returns : goal.returns
returns c = let e : c.fold.result ≡ Lists.fold step c.args.hash c.args.s.now = search (rules, chains) in e ∙ fold_lem _ _
