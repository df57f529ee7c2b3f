use Rattle.std.proofs.Common.{sym, ◌∙◌, arith}
use Rattle.policy_print.proofs.Whole.{read_as, refused_as}
use Rattle.refusal.specs.Refusal.{without_line}
use Rattle.policy.specs.Policy.{as_policy}
use Rattle.entries.proofs.Rooms.{unrecognised_short}
use Rattle.entries.proofs.Outcomes.{refuses_policy, policy_read}
use Rattle.entries.proofs.Payloads.{hands_on, fault, no_fault, same_answer}
use Rattle.entries.proofs.payload.answer_payload.Goals as goal

pub returns-in_err-held : goal.returns-in_err-held
returns-in_err-held c = hands_on _ _ c.from_residual.ensures.1 (sym (refuses_policy _ _ (refused_as c.in_err-held.ensures)))

pub returns-in_err-judge : goal.returns-in_err-judge
unfolding as_policy without_line
returns-in_err-judge c =
    hands_on _ _ c.from_residual-in_err-judge.ensures.1 (sym (policy_read _ _ _ (read_as c.in_ok-held.ensures)) ∙ fault _ _ _ c.in_err-judge.ensures.fault)

pub put_payload-requires : goal.put_payload-requires
put_payload-requires c =
    (c.in_ok-held.ensures.held.unrecognised, unrecognised_short _ _ c.in_ok-held.held (read_as c.in_ok-held.ensures), omega (arith, c.in_ok-judge.ensures.short), c.requires)

pub returns : goal.returns
unfolding as_policy
returns c = same_answer (sym (policy_read _ _ _ (read_as c.in_ok-held.ensures)) ∙ no_fault _ _ c.in_ok-judge.ensures.fault) c.put_payload.ensures
