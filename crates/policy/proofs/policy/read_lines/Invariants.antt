use Rattle.std.proofs.Common.{◌+◌, ◌-◌, length}
use Rattle.policy.proofs.Reading.{ReadingFrom}
use Rattle.policy.proofs.policy.read_lines.Given as goal

abbrev pub invariant-loop-i : goal.invariant-loop-i
invariant-loop-i l = ReadingFrom l.text l.policy l.line l.i

abbrev pub decreases-loop-i : goal.decreases-loop-i
decreases-loop-i l = length l.text + 1 - l.i
