use Rattle.std.proofs.Common.{sym, ◌∙◌, arith}
use Rattle.refusal.specs.Refusal.{without_line}
use Rattle.run_model.specs.Entries.{payload_answer, payload_outcome}
use Rattle.entries.proofs.Outcomes.{same_lent, wide_output, with_short, with_wide}
use Rattle.entries.proofs.payload.payload.Goals as goal

pub returns-then-is_short : goal.returns-then-is_short
unfolding payload_outcome payload_answer without_line
returns-then-is_short c = rw c.into.ensures at c.refuse.ensures ∙ with_short _ _ (sym c.is_short.ensures ∙ c.if-is_short.true)

pub answer_payload-written-requires : goal.answer_payload-written-requires
answer_payload-written-requires c = omega (arith, wide_output _ _ (sym c.is_short.ensures ∙ c.if-is_short.false))

pub answer-requires : goal.answer-requires
answer-requires c = c.answer_payload-written.ensures.inside

pub returns : goal.returns
unfolding payload_outcome payload_answer
returns c =
    c.answer.ensures ∙ same_lent _ _ c.answer_payload-written.auto.output ∙ with_wide _ _ (sym c.is_short.ensures ∙ c.if-is_short.false) c.answer_payload-written.ensures.is
