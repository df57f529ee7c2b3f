use Rattle.std.proofs.Common.{arith}
use Rattle.er7_render.proofs.Laws.{lead_none, lead_length, lead_one}
use Rattle.er7_render.proofs.render.put_lead.Goals as goal

pub returns-then-header-p : goal.returns-then-header-p
returns-then-header-p c = lead_none _ _ _ c.if-header-p.true _ _ (omega arith)

pub byte_at-requires : goal.byte_at-requires
byte_at-requires c = omega (arith, lead_length c.args.s c.args.header c.args.p c.if-header-p.false)

pub returns : goal.returns
returns c = lead_one _ _ _ c.if-header-p.false c.delimiter_before.ensures c.byte_at.ensures
