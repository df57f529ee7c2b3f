use Rattle.std.proofs.Common.{◌-◌}
use Rattle.er7_value.proofs.Eights.{Standing}
use Rattle.er7_value.proofs.word.begins_by_eights.Given as goal

abbrev pub invariant-loop-j : goal.invariant-loop-j
invariant-loop-j l = Standing l.v l.t l.i l.j

abbrev pub decreases-loop-j : goal.decreases-loop-j
decreases-loop-j l = l.last - l.j
