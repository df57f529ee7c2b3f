use Rattle.std.proofs.Common.{arith}
use Rattle.text.specs.Text.{bytes}
use Rattle.policy_print.proofs.Parts.{accept_wrote, reject_room, reject_wrote}
use Rattle.policy_print.proofs.display.put_posture.Goals as goal

pub copy_at-k-requires : goal.copy_at-k-requires
copy_at-k-requires c = let h = reject_room c.args.text.now _ c.in-Reject.is in omega (arith, h, c.requires.1)

pub returns-in-Accept : goal.returns-in-Accept
unfolding bytes
returns-in-Accept c = accept_wrote c.args.text.now _ c.in-Accept.is c.copy_at.ensures

pub returns-in-Reject : goal.returns-in-Reject
unfolding bytes
returns-in-Reject c = reject_wrote c.args.text.now _ c.in-Reject.is c.copy_at-k.ensures c.print-e.ensures c.byte_at.ensures
