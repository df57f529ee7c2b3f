use Rattle.std.proofs.Common.{◌≡◌, true, false, rules, arith}
use Rattle.std.proofs.lemmas.Iterator.{cases_from_any, YieldsList-from_slice}
use Rattle.std.proofs.lemmas.Iterator.Adapters.{serves_from_places}
use Rattle.text.specs.Text.{same, between}
use Rattle.redact_5_act.specs.Known.{value_of}
use Rattle.redact_5_act.proofs.Knowing.{slot_read, knows_any}
use Rattle.redact_5_act.proofs.known.knows.Goals as goal

pub any-requires : goal.any-requires
any-requires c =
    let s = c.requires.0 in
    let l = c.requires.1 in
    let m = c.requires.2 in
    let q = c.requires.3 in
    record { can = tt; finite = tt; callable = serves_from_places (YieldsList-from_slice _ c.iter.ensures.rest) (λ x q k. search rules) (λ x k h e. search (rules, slot_read s x.now h e, l, m, q)) }

pub returns : goal.returns
returns c =
    let b = c.args.bytes.now in
    let w = between b c.args.i c.args.e in
    knows_any _ c.requires.0 (omega (arith, c.requires.0.few)) c.any.result
    (cases_from_any _ _ _ (λ v. same w (value_of b v) ≡ true) (λ v. same w (value_of b v) ≡ false) c.any.ensures.ran (YieldsList-from_slice _ c.iter.ensures.rest) (λ x q k. search rules) (λ x q k. search rules))
