use Rattle.std.proofs.Common.{◌≡◌, ◌∙◌, ◌<◌, ◌^◌, arith, rules}
use Rattle.std.specs.List.{sum_by}
use Rattle.std.proofs.iter.runs.Made.{chains}
use Rattle.er7_value.proofs.Encoding.{run_len, encode_sum, encode_long}
use Rattle.er7_value.proofs.escape.encoded_len.Goals as goal

pub sum-requires-clause-fits : goal.sum-requires-clause-fits
sum-requires-clause-fits c =
    let h : sum_by (run_len c.args.s) c.args.v.now < 2 ^ 64 = omega (arith, encode_sum c.args.s c.args.v.now, encode_long c.args.s c.args.v.now) in
    search (rules, chains)

pub returns : goal.returns
returns c =
    let s = c.args.s in
    let v = c.args.v.now in
    let e : c.sum.result ≡ sum_by (run_len s) v = search (rules, chains) in
    (e ∙ encode_sum s v, omega (arith, e, encode_sum s v, encode_long s v))
