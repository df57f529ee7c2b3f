use Rattle.std.proofs.Common.{◌≡◌, map, ◌++◌, take, drop}
use Rattle.text.specs.Text.{lower_byte}
use Rattle.er7_value.proofs.word.lower_part.Given as goal

abbrev pub invariant-loop-b : goal.invariant-loop-b
invariant-loop-b l = l.b-items ≡ map lower_byte (take l.b-index l.initial.b-items) ++ drop l.b-index l.initial.b-items
