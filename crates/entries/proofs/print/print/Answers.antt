use Rattle.std.proofs.Common.{refl, sym, ◌∙◌, arith}
use Rattle.refusal.specs.Refusal.{without_line}
use Rattle.run_model.specs.Entries.{print_answer, print_outcome}
use Rattle.entries.proofs.Outcomes.{same_lent, wide_output, with_short, with_wide}
use Rattle.entries.proofs.Printing.{printed_answers}
use Rattle.entries.proofs.print.print.Goals as goal

pub returns-then-is_short : goal.returns-then-is_short
unfolding print_outcome print_answer without_line
returns-then-is_short c = rw c.into.ensures at c.refuse.ensures ∙ with_short _ _ (sym c.is_short.ensures ∙ c.if-is_short.true)

pub print_text-printed-requires : goal.print_text-printed-requires
print_text-printed-requires c = omega (arith, wide_output _ _ (sym c.is_short.ensures ∙ c.if-is_short.false))

pub answer-requires : goal.answer-requires
answer-requires c = (printed_answers _ c.print_text-printed.ensures c.print_text-printed.auto.out).inside

pub returns : goal.returns
unfolding print_outcome print_answer
returns c =
    let h = printed_answers _ c.print_text-printed.ensures c.print_text-printed.auto.out in
    c.answer.ensures ∙ same_lent _ _ c.print_text-printed.auto.out ∙ with_wide _ _ (sym c.is_short.ensures ∙ c.if-is_short.false) (h.is ∙ refl)
