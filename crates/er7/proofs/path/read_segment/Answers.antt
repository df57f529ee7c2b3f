use native.Mathlib.Omega.{arith}
use Rattle.er7.proofs.Paths.{segment_alone, segment_bad, segment_then}
use mathlib.Core.Path.{sym, ◌∙◌}
use Rattle.er7.proofs.path.read_segment.Goals as goal

pub returns-then-i-s : goal.returns-then-i-s
returns-then-i-s c = segment_alone _ c.if-i-s.true

pub returns-then-not-is_join : goal.returns-then-not-is_join
returns-then-not-is_join c = segment_bad _ (omega arith) (sym c.is_join.ensures ∙ c.if-not-is_join.true)

pub returns : goal.returns
returns c = segment_then _ (omega arith) (sym c.is_join.ensures ∙ c.if-not-is_join.false) c.read_field.ensures
