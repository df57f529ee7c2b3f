use Rattle.std.proofs.Common.{sym, ◌∙◌}
use Rattle.calendar.proofs.SignedLaws.{back}
use Rattle.calendar.proofs.TextLaws.{day_in_years}
use Rattle.calendar.proofs.texts.is_moved.Goals as goal

pub stays-requires : goal.stays-requires
stays-requires c =
    day_in_years _ (sym c.is_dated.ensures ∙ c.if-is_dated.true) (back _ c.day_of.type_inv) c.day_of.ensures
