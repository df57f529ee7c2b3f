use Rattle.std.proofs.Common.{rules, refl}
use Rattle.std.proofs.lemmas.Result.{err_from_is_err_and}
use Rattle.redact_1_run.proofs.Whole.{message_room, run_lent, run_begun, end_most, end_printable, end_ran, end_refused}
use Rattle.redact_1_run.proofs.from_tables.redact_from.Goals as goal

pub run_turns-requires : goal.run_turns-requires
run_turns-requires c = (c.requires.0, refl, run_lent c.requires.1 _ _, run_begun c.requires.1 _ _ c.copy_at-used.ensures _ _ _)

pub returns-in_err-counters : goal.returns-in_err-counters
returns-in_err-counters c = λ m w.
    let p = err_from_is_err_and c.from_residual.result c.from_residual.ensures.1 in
    rw (p.1, p.2) (end_refused _ _ _ w c.copy_at-used.ensures _ _ _ _ _ _ _ _ _ _ c.run_turns.ensures c.in_err-counters.was _ _)

pub overflow_add-counters : goal.overflow_add-counters
overflow_add-counters c = search (rules, end_most _ _ _ c.requires.1.loaded c.copy_at-used.ensures _ _ _ _ _ _ _ _ _ _ c.run_turns.ensures c.in_ok-counters.was, c.copy_at-used.ensures.end, message_room c.requires.1)

pub print_text-requires : goal.print_text-requires
print_text-requires c = end_printable _ _ _ c.requires.1.loaded c.copy_at-used.ensures _ _ _ _ _ _ _ _ _ _ c.run_turns.ensures c.in_ok-counters.was c.saturating_sub-len.ensures

pub returns : goal.returns
returns c = λ m w. c.print_text.ensures _ _ (end_ran _ _ _ w c.copy_at-used.ensures _ _ _ _ _ _ _ _ _ _ c.run_turns.ensures c.in_ok-counters.was)
