use Rattle.entries.proofs.Payloads.{answer_pass, answer_refuse, answer_apply, apply_held, apply_short, wrote_answers, refused_answers}
use Rattle.entries.proofs.payload.put_payload.Goals as goal

pub put_applied-requires : goal.put_applied-requires
put_applied-requires c = (apply_held _ _ c.in-Apply.is c.requires.0, apply_short _ _ _ c.in-Apply.is c.requires.1, c.requires.2, c.requires.3)

pub returns-in-Pass : goal.returns-in-Pass
returns-in-Pass c = wrote_answers c.copy_at.ensures c.copy_at.auto.dst (answer_pass _ _ _ _ c.in-Pass.is)

pub returns-in-Refuse : goal.returns-in-Refuse
returns-in-Refuse c = rw c.into.ensures (refused_answers _ _ (answer_refuse _ _ _ _ c.in-Refuse.is))

pub returns-in-Apply : goal.returns-in-Apply
returns-in-Apply c = wrote_answers c.put_applied.ensures c.put_applied.auto.output (answer_apply _ _ _ _ c.in-Apply.is)
