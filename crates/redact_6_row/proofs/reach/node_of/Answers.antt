use borrow.Author.Tests.{eq-eqb, ne_eqb}
use Rattle.er7.specs.Path.{as_path}
use Rattle.run_model.specs.Redact.{depth}
use Rattle.redact_6_row.specs.Reach.{as_reach}
use Rattle.redact_6_row.proofs.reach.node_of.Goals as goal

pub returns-then-path-ne0 : goal.returns-then-path-ne0
unfolding as_reach depth as_path
returns-then-path-ne0 c = λ t. rw (ne_eqb c.args.path.component 0 c.if-path-ne0.true)

pub returns-then-path-ne0-2 : goal.returns-then-path-ne0-2
unfolding as_reach depth as_path
returns-then-path-ne0-2 c = λ t. rw (eq-eqb c.args.path.component 0 c.if-path-ne0.false, ne_eqb c.args.path.repetition 0 c.if-path-ne0-2.true)

pub returns : goal.returns
unfolding as_reach depth as_path
returns c = λ t. rw (eq-eqb c.args.path.component 0 c.if-path-ne0.false, eq-eqb c.args.path.repetition 0 c.if-path-ne0-2.false)
