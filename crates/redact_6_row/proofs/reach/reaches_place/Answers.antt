use Rattle.er7.specs.Path.{as_path}
use Rattle.redact_6_row.specs.Reach.{reaches_place}
use Rattle.redact_6_row.proofs.reach.reaches_place.Goals as goal

pub returns : goal.returns
unfolding reaches_place as_path
returns c = λ t. rw (c.index_fits.ensures, c.index_fits-2.ensures, c.index_fits-3.ensures, c.index_fits-4.ensures)
