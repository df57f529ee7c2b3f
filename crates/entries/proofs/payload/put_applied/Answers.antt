use Rattle.std.proofs.Common.{sym, ◌∙◌, arith}
use Rattle.entries.proofs.Payloads.{written_or_lem, nothing_or}
use Rattle.entries.proofs.payload.put_applied.Goals as goal

pub apply-requires : goal.apply-requires
apply-requires c = (c.requires.0, omega (arith, c.requires.1 c.args.payload.now c.requires.2))

pub returns-in-Some : goal.returns-in-Some
returns-in-Some c =
    rw (written_or_lem _ c.args.payload.now (sym (c.applied_len.ensures c.args.policy.now c.args.key c.requires.0) ∙ c.in-Some.is)) c.apply.ensures

pub returns-in-None : goal.returns-in-None
returns-in-None c =
    rw (nothing_or _ c.args.payload.now (sym (c.applied_len.ensures c.args.policy.now c.args.key c.requires.0) ∙ c.in-None.is)) c.copy_at.ensures
