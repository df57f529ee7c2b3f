use Rattle.std.proofs.Common.{sym, ◌∙◌, arith}
use Rattle.refusal.specs.Refusal.{without_line}
use Rattle.run_model.specs.Entries.{builtin_answer, builtin_outcome}
use Rattle.entries.proofs.Outcomes.{same_lent, wide_output, with_short, with_wide}
use Rattle.entries.proofs.Printing.{printed_answers, builtin_answer_lem}
use Rattle.entries.proofs.print.builtin.Goals as goal

pub returns-then-is_short : goal.returns-then-is_short
unfolding builtin_outcome builtin_answer without_line
returns-then-is_short c = rw c.into.ensures at c.refuse.ensures ∙ with_short _ _ (sym c.is_short.ensures ∙ c.if-is_short.true)

pub builtin-printed-requires : goal.builtin-printed-requires
builtin-printed-requires c = omega (arith, wide_output _ _ (sym c.is_short.ensures ∙ c.if-is_short.false))

pub answer-requires : goal.answer-requires
answer-requires c = (printed_answers _ c.builtin-printed.ensures c.builtin-printed.auto.out).inside

pub returns : goal.returns
unfolding builtin_outcome builtin_answer
returns c =
    let h = printed_answers _ c.builtin-printed.ensures c.builtin-printed.auto.out in
    c.answer.ensures ∙ same_lent _ _ c.builtin-printed.auto.out ∙ with_wide _ _ (sym c.is_short.ensures ∙ c.if-is_short.false) (h.is ∙ sym (builtin_answer_lem _))
