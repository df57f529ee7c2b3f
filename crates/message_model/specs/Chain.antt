-- Leaves that stand next to each other: what holds of every message that was read. Assumes nothing: these are definitions.
use Rattle.std.specs.Prelude.{◌≡◌, List, [], ◌∷◌, ◌+◌}
use Rattle.std.proofs.Math.Option.{none, some}
use Rattle.er7.specs.declared.message.Place.{Place}
use Rattle.message_model.specs.Message.{Leaf, leaf, Segment, segment, at_field}

-- what a delimiter begins
pub data Piece : Type 0 where
  a_field a_repetition a_component a_subcomponent : Piece

-- where the first leaf of the next piece stands, behind a leaf at p
abbrev pub next_place : Piece → Place → Place
next_place a_field p = record { field = p.field + 1; repetition = 1; component = 1; subcomponent = 1 }
next_place a_repetition p = record { field = p.field; repetition = p.repetition + 1; component = 1; subcomponent = 1 }
next_place a_component p = record { field = p.field; repetition = p.repetition; component = p.component + 1; subcomponent = 1 }
next_place a_subcomponent p = record { field = p.field; repetition = p.repetition; component = p.component; subcomponent = p.subcomponent + 1 }

-- each leaf that has not vanished stands next to the one before it, the first next to p
abbrev pub Chain : Place → List Leaf → Type 0
Chain p [] = Unit {0}
Chain p (leaf q n none ∷ xs) = Chain p xs
Chain p (leaf q n (some t) ∷ xs) = ((k : Piece) × (q ≡ next_place k p)) × Chain q xs

-- the leaves of each segment stand next to each other, the first next to where a name stands
abbrev pub Chained : List Segment → Type 0
Chained [] = Unit {0}
Chained (segment g xs ∷ ss) = Chain (at_field 0) xs × Chained ss
