use Rattle.text.specs.Text.{bytes}
use Rattle.text.proofs.Writes.{wrote_then}
use Rattle.policy_print.proofs.Parts.{pass_text, refuse_text, apply_text, unrecognised_wrote}
use Rattle.policy_print.proofs.display.put_unrecognised.Goals as goal

pub returns-in-Pass : goal.returns-in-Pass
unfolding bytes
returns-in-Pass c = unrecognised_wrote c.args.text.now _ _ (pass_text c.args.text.now _ c.in-Pass.is) c.copy_at-k.ensures c.copy_at.ensures

pub returns-in-Refuse : goal.returns-in-Refuse
unfolding bytes
returns-in-Refuse c = unrecognised_wrote c.args.text.now _ _ (refuse_text c.args.text.now _ c.in-Refuse.is) c.copy_at-k.ensures c.copy_at-in-Refuse.ensures

pub returns-in-Apply : goal.returns-in-Apply
unfolding bytes
returns-in-Apply c = unrecognised_wrote c.args.text.now _ _ (apply_text c.args.text.now _ c.in-Apply.is) c.copy_at-k.ensures (wrote_then c.print-e.ensures c.byte_at.ensures)
