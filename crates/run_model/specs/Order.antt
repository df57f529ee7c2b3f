-- Where the fields of a segment begin: what holds of every message that was read, and of what a run leaves. Assumes nothing: these are definitions.
use Rattle.std.specs.Prelude.{◌≡◌, true, List, [], ◌∷◌}
use Rattle.std.proofs.Math.Option.{none, some}
use Rattle.message_model.specs.Message.{Leaf, leaf, Segment, segment}
use Rattle.run_model.specs.Redact.{by_field, starts}

-- the first leaf that has not vanished, if there is one, begins a field
abbrev pub FieldFirst : List Leaf → Type 0
FieldFirst [] = Unit {0}
FieldFirst (leaf p n none ∷ xs) = FieldFirst xs
FieldFirst (leaf p n (some t) ∷ xs) = starts by_field p ≡ true

-- .. of each segment
abbrev pub FieldsFirst : List Segment → Type 0
FieldsFirst [] = Unit {0}
FieldsFirst (segment g xs ∷ ss) = FieldFirst xs × FieldsFirst ss
