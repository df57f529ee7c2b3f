use Rattle.std.proofs.Common.{[], ◌≡◌, ◌+◌, ◌-◌, ◌≤◌, length, drop}
use Rattle.message_model.specs.Message.{segment_lines}
use Rattle.er7_message.specs.Inner.{Reading}
use Rattle.er7_message.proofs.message.read_rest.Given as goal

abbrev pub invariant-lines : goal.invariant-lines
invariant-lines l =
    (l.i ≤ length l.text) × (1 ≤ l.k) × Reading l.s l.text l.segments l.leaves l.k l.n (segment_lines [] (drop l.i l.text)) × (length l.leaves ≡ length l.initial.leaves) × (l.n ≤ l.i)

abbrev pub decreases-lines : goal.decreases-lines
decreases-lines l = length l.text + 1 - l.i
