use Rattle.std.proofs.Common.{sym, ◌∙◌, arith}
use Rattle.refusal.specs.Refusal.{without_line}
use Rattle.run_model.specs.Entries.{append_answer, append_outcome}
use Rattle.entries.proofs.Outcomes.{same_lent, wide_output, with_short, with_wide}
use Rattle.entries.proofs.Printing.{printed_answers, appended_answer}
use Rattle.entries.proofs.print.append.Goals as goal

pub returns-then-is_short : goal.returns-then-is_short
unfolding append_outcome append_answer without_line
returns-then-is_short c = rw c.into.ensures at c.refuse.ensures ∙ with_short _ _ (sym c.is_short.ensures ∙ c.if-is_short.true)

pub append-printed-requires : goal.append-printed-requires
append-printed-requires c = omega (arith, wide_output _ _ (sym c.is_short.ensures ∙ c.if-is_short.false))

pub answer-requires : goal.answer-requires
answer-requires c = (printed_answers _ c.append-printed.ensures c.append-printed.auto.out).inside

pub returns : goal.returns
unfolding append_outcome append_answer
returns c =
    let h = printed_answers _ c.append-printed.ensures c.append-printed.auto.out in
    c.answer.ensures ∙ same_lent _ _ c.append-printed.auto.out ∙ with_wide _ _ (sym c.is_short.ensures ∙ c.if-is_short.false) (h.is ∙ sym (appended_answer _ _))
