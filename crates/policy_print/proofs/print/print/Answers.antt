use Rattle.policy_print.proofs.Whole.{print_wrote}
use Rattle.policy_print.proofs.print.print.Goals as goal

pub returns : goal.returns
returns c = print_wrote _ _ c.requires.0 c.width-n.ensures c.put_rules-a.ensures (rw c.len.ensures.value at c.put_blank-b.ensures) c.put_defaults.ensures
