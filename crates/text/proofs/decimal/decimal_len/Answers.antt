use Rattle.std.proofs.Common.{arith, sym}
use Rattle.text.proofs.Decimals.{length_is, length_small}
use Rattle.text.proofs.decimal.decimal_len.Goals as goal

pub returns-in-Some : goal.returns-in-Some
returns-in-Some c = let e = c.in-Some.ensures in (sym (length_is c.in-Some.k c.args.n e.power_le e.next_power_gt), omega (arith, e.bound))

pub returns-in-None : goal.returns-in-None
returns-in-None c = let e = c.in-None.ensures in (sym (length_small c.args.n (omega (arith, e.none))), omega arith)
