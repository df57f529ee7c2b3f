use Rattle.std.proofs.Common.{refl}
use Rattle.entries.specs.Inner.{answer_of}
use Rattle.entries.proofs.returned.answer.Goals as goal

pub returns-in-Ok : goal.returns-in-Ok
unfolding answer_of
returns-in-Ok c = rw c.in-Ok.is (c.finish.ensures _ refl)

pub returns-in-Err : goal.returns-in-Err
unfolding answer_of
returns-in-Err c = rw c.in-Err.is c.refuse.ensures
