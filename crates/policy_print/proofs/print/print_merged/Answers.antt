use Rattle.policy_print.proofs.Whole.{merged_wrote, both_widths}
use Rattle.policy_print.proofs.print.print_merged.Goals as goal

pub returns : goal.returns
returns c =
    merged_wrote _ _ _ _ c.requires.0 c.requires.1 (both_widths c.max-n.ensures c.width.ensures c.width-2.ensures) c.put_rules-a.ensures c.put_rules-b.ensures
    (rw (c.len.ensures.value, c.len-2.ensures.value) at c.put_blank-k.ensures) c.put_merged.ensures
