use Rattle.er7_render.specs.Inner.{segment_text}
use Rattle.er7_render.proofs.Laws.{Joining}
use Rattle.er7_render.proofs.render.render.Given as goal

abbrev pub invariant-loop-k : goal.invariant-loop-k
invariant-loop-k l = Joining (segment_text l.layout.separators l.layout.last_cr l.segments l.leaves l.store l.layout.segments) 0 l.layout.segments l.initial.out 0 l.k l.out l.at
