use Rattle.calendar.specs.Shift.{digit, date_text}
use Rattle.text.proofs.Spelling.{wrote_digits}
use Rattle.calendar.proofs.texts.put_date.Goals as goal

pub stamp_of-requires : goal.stamp_of-requires
stamp_of-requires c = c.requires.1

pub returns : goal.returns
unfolding date_text digit
returns c = rw (← c.stamp_of.ensures) (wrote_digits 10 digit 8 _ c.requires.0 (c.put_digits.ensures digit (λ d r h e. e)))
