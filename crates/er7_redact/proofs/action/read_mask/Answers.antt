use Rattle.std.proofs.Common.{arith}
use Rattle.er7_redact.proofs.Actions.{mask_bare, mask_one, mask_more}
use Rattle.er7_redact.proofs.action.read_mask.Goals as goal

pub returns-then-i-s : goal.returns-then-i-s
returns-then-i-s c j n = mask_bare _ _ _ _ c.if-i-s.true

pub returns-then-i-s-2 : goal.returns-then-i-s-2
returns-then-i-s-2 c j n = mask_one _ _ _ _ c.if-i-s-2.true

pub returns : goal.returns
returns c j n = mask_more c.args.s.now c.args.i _ _ (omega arith)
