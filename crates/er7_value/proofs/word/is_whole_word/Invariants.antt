use Rattle.std.proofs.Common.{◌≡◌}
use Rattle.message_model.specs.Value.{is_whole_word}
use Rattle.er7_value.proofs.Hits.{found_from}
use Rattle.er7_value.proofs.word.is_whole_word.Given as goal

abbrev pub invariant-loop-place : goal.invariant-loop-place
invariant-loop-place l = is_whole_word l.v l.t ≡ found_from l.v l.t l.place
