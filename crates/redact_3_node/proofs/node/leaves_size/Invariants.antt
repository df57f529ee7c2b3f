use Rattle.redact_3_node.proofs.Nodes.{Adding}
use Rattle.redact_3_node.proofs.node.leaves_size.Given as goal

abbrev pub invariant-loop-i : goal.invariant-loop-i
invariant-loop-i l = Adding l.leaves l.first l.end l.i l.sum
