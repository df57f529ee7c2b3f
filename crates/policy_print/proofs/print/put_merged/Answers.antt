use Rattle.policy_print.proofs.Whole.{stricter_accept, stricter_reject}
use Rattle.policy_print.proofs.print.put_merged.Goals as goal

pub put_defaults-requires : goal.put_defaults-requires
put_defaults-requires c = (c.requires.0, c.requires.2, rw (stricter_accept _ _ _ _ c.in-Accept.is) at c.requires.3)

pub put_defaults-requires-in-Reject : goal.put_defaults-requires-in-Reject
put_defaults-requires-in-Reject c = (c.requires.1, c.requires.2, rw (stricter_reject _ _ _ _ c.in-Reject.is) at c.requires.3)

pub returns-in-Accept : goal.returns-in-Accept
returns-in-Accept c = rw (stricter_accept _ _ _ _ c.in-Accept.is) c.put_defaults.ensures

pub returns-in-Reject : goal.returns-in-Reject
returns-in-Reject c = rw (stricter_reject _ _ _ _ c.in-Reject.is) c.put_defaults-in-Reject.ensures
