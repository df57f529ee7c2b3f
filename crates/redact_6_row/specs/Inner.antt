-- What the contracts of private functions cite; no public contract rests on it. Assumes nothing: these are definitions.
use Rattle.er7.specs.declared.message.Label.{Label as HeldLabel}
use Rattle.er7.specs.declared.message.Place.{Place}
use Rattle.er7.specs.declared.path.Path.{Path as HeldPath}

-- the path of a row, whose name is the first three bytes of a text
unfoldable pub leaf_path : HeldLabel → Place → HeldPath
leaf_path g p = record {
  segment = 0;
  segment_len = 3;
  segment_occurrence = g.occurrence;
  field = p.field;
  repetition = p.repetition;
  component = p.component;
  subcomponent = p.subcomponent;
}
