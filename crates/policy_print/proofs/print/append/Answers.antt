use Rattle.std.proofs.Common.{◌∙◌, arith}
use Rattle.policy_print.proofs.Whole.{printed_is, refused_is, without_line_is, read_as, refused_as, appended_first, appended_second, appended_both, many_merged, few_merged, merged_room}
use Rattle.policy_print.proofs.print.append.Goals as goal

pub returns-in_err-p : goal.returns-in_err-p
returns-in_err-p c = refused_is _ _ (appended_first _ _ (refused_as c.in_err-p.ensures)) c.from_residual.ensures.1

pub returns-in_err-q : goal.returns-in_err-q
returns-in_err-q c = refused_is _ _ (appended_second _ _ (read_as c.in_ok-p.ensures) (refused_as c.in_err-q.ensures)) c.from_residual-in_err-q.ensures.1

pub returns-then-len-gt-RULES_MAX : goal.returns-then-len-gt-RULES_MAX
returns-then-len-gt-RULES_MAX c =
    rw c.into.ensures (without_line_is _ _ (appended_both _ _ (read_as c.in_ok-p.ensures) (read_as c.in_ok-q.ensures) ∙ many_merged _ _ _ _ c.in_ok-p.ensures.held c.in_ok-q.ensures.held (omega arith)))

pub print_merged-requires : goal.print_merged-requires
print_merged-requires c =
    let h = merged_room _ _ _ _ c.in_ok-p.ensures.held c.in_ok-q.ensures.held (read_as c.in_ok-p.ensures) (read_as c.in_ok-q.ensures) (omega arith) in
    (c.in_ok-p.ensures.held, c.in_ok-q.ensures.held, omega (arith, h, c.requires))

pub returns : goal.returns
returns c = printed_is _ (appended_both _ _ (read_as c.in_ok-p.ensures) (read_as c.in_ok-q.ensures) ∙ few_merged _ _ _ _ c.in_ok-p.ensures.held c.in_ok-q.ensures.held (omega arith)) c.print_merged.ensures
