use native.Mathlib.Omega.{arith}
use mathlib.Core.Path.{sym, ◌∙◌}
use Rattle.redact_5_act.proofs.Knowing.{good_slots}
use Rattle.redact_5_act.proofs.Learning.{learns_known, learns_full, learns_more, not_many}
use Rattle.redact_5_act.proofs.known.learn.Goals as goal

pub knows-requires : goal.knows-requires
knows-requires c = (good_slots c.requires.0, omega arith, c.requires.2, c.hash_of-h.ensures.0)

pub returns-then-knows : goal.returns-then-knows
returns-then-knows c = learns_known _ _ c.requires.0 (λ t. sym (c.knows.ensures t) ∙ c.if-knows.true)

pub returns-then-n-e : goal.returns-then-n-e
returns-then-n-e c = learns_full _ _ c.requires.0 c.requires.1 c.hash_of-h.ensures.1 (λ t. sym (c.knows.ensures t) ∙ c.if-knows.false) c.if-n-e.true

pub bounds-known-n : goal.bounds-known-n
bounds-known-n c = omega (arith, not_many c.args.n c.args.e c.if-n-e.false)

pub offset_bounds-known-n : goal.offset_bounds-known-n
offset_bounds-known-n c = omega (arith, not_many c.args.n c.args.e c.if-n-e.false)

pub returns : goal.returns
returns c = learns_more _ _ c.requires.0 c.requires.1 c.hash_of-h.ensures.1 (λ t. sym (c.knows.ensures t) ∙ c.if-knows.false) c.if-n-e.false c.hash_of-h.ensures.0 (omega (arith, not_many c.args.n c.args.e c.if-n-e.false))
