use Rattle.std.proofs.Common.{◌≡◌, true, false, rules, ◌∙◌}
use Rattle.std.proofs.lemmas.Iterator.{first_from_Range}
use Rattle.redact_6_row.specs.Reach.{as_reach}
use Rattle.redact_3_node.specs.Node.{opens}
use Rattle.redact_3_node.proofs.Nodes.{end_found}
use Rattle.redact_3_node.proofs.node.node_end.Goals as goal

pub returns : goal.returns
returns c =
    let r = as_reach c.args.reach in
    let held = c.args.leaves.now in
    c.unwrap_or.ensures ∙ end_found r held c.args.i c.args.end c.requires.0 c.find.result
    (first_from_Range _ _ _ _ (λ j. opens r held j ≡ true) (λ j. opens r held j ≡ false) c.find.ensures.ran
    (λ x q k. search rules)
    (λ x q k. (search rules, search rules)))
