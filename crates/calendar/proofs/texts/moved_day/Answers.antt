use Rattle.std.proofs.Common.{◌∙◌, ap, ◌+ℤ◌}
use Rattle.calendar.specs.Shift.{target}
use Rattle.calendar.proofs.SignedLaws.{sum_fits, sum_back}
use Rattle.calendar.proofs.TextLaws.{moved_of, moved_fits}
use Rattle.calendar.proofs.texts.moved_day.Goals as goal

pub day_of-requires : goal.day_of-requires
day_of-requires c = (moved_of _ _ c.requires).dated

pub overflow_add-result : goal.overflow_add-result
overflow_add-result c = sum_fits c.day_of.result c.args.n (record { sfits = c.day_of.type_inv }) c.ranges.n (moved_fits _ _ c.requires c.day_of.ensures)

pub returns : goal.returns
unfolding target
returns c =
    sum_back c.day_of.result c.args.n (record { sfits = c.day_of.type_inv }) c.ranges.n (moved_fits _ _ c.requires c.day_of.ensures)
    ∙ ap (λ z. z +ℤ c.args.n) c.day_of.ensures
