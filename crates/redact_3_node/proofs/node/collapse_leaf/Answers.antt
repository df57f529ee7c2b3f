use Rattle.std.proofs.Common.{refl, sym, ◌∙◌}
use Rattle.er7_table.specs.Table.{place_at}
use Rattle.redact_3_node.proofs.NodeVisits.{visit_inner}
use Rattle.redact_3_node.proofs.node.collapse_leaf.Goals as goal

pub returns-then-not-starts : goal.returns-then-not-starts
unfolding place_at
returns-then-not-starts c = λ named. visit_inner _ _ _ _ named _ _ _ _ _ _ c.requires.3 c.requires.6 c.requires.4 c.requires.2 _ refl c.requires.1 (rw (← c.reach_of.ensures _) (sym c.starts.ensures ∙ c.if-not-starts.true)) c.set_gone.ensures

pub collapse_node-requires : goal.collapse_node-requires
unfolding place_at
collapse_node-requires c = (c.requires.0, c.requires.1, c.requires.2, rw (← c.reach_of.ensures _) (sym c.starts.ensures ∙ c.if-not-starts.false), c.requires.3, c.requires.4, c.requires.5, c.requires.6)
