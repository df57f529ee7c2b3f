use Rattle.std.proofs.Common.{arith, sym, ◌∙◌}
use Rattle.redact_4_leaf.specs.State.{text_in}
use Rattle.redact_3_node.proofs.Collapses.{already_is, went_is, node_stays, node_becomes, rest_ready, rest_fits, ready_learnable}
use Rattle.redact_3_node.proofs.node.null_node.Goals as goal

pub leaves_size-rest-requires : goal.leaves_size-rest-requires
leaves_size-rest-requires c = rest_ready c.requires.1

pub returns-then-is_null-rest : goal.returns-then-is_null-rest
unfolding text_in
returns-then-is_null-rest c = node_stays c.requires.1 _ _ (sym (already_is _ _ _ _ c.leaves_size-rest.ensures c.text.ensures c.is_null.ensures) ∙ c.if-is_null-rest.true)

pub overflow_add-went : goal.overflow_add-went
overflow_add-went c = omega (arith, c.leaves_size-rest.ensures, rest_fits c.requires.1, (ready_learnable c.requires.1).inside c.args.at.index c.requires.1.inside)

pub returns : goal.returns
unfolding text_in
returns c = node_becomes c.requires.1 _ _ (sym (already_is _ _ _ _ c.leaves_size-rest.ensures c.text.ensures c.is_null.ensures) ∙ c.if-is_null-rest.false) (went_is _ _ _ _ c.leaves_size-rest.ensures c.requires.1) c.put_null_change.ensures
