-- What the enum of reaches stands for, and a rule's reach within a segment. Assumes nothing: these are definitions.
use Rattle.std.specs.Prelude.{Bool, true, ◌&&◌}
use Rattle.er7.specs.Path.{Path}
use Rattle.er7.specs.declared.message.Place.{Place}
use Rattle.run_model.specs.Redact.{fits, Reach, each_leaf, each_node, by_field, by_repetition, by_component, starts}
use Rattle.redact_6_row.specs.declared.reach.Reach.{Reach as HeldReach}
use Rattle.redact_6_row.specs.declared.reach.Reach.TheVariants as Held

-- a path reaches the leaf at a place of a segment that it reaches into
unfoldable pub reaches_place : Path → Place → Bool
reaches_place w p =
    fits w.field p.field && fits w.repetition p.repetition && fits w.component p.component
    && fits w.subcomponent p.subcomponent

-- the reach that an enum stands for
unfoldable pub as_reach : HeldReach → Reach
as_reach Held.EachLeaf = each_leaf
as_reach Held.EachField = each_node by_field
as_reach Held.EachRepetition = each_node by_repetition
as_reach Held.EachComponent = each_node by_component

-- what a rule acts on begins here: a leaf, or a node
unfoldable pub starts_at : Reach → Place → Bool
starts_at each_leaf p = true
starts_at (each_node d) p = starts d p
