use Rattle.std.proofs.Common.{arith, ℕ, ◌+◌, ◌-◌}
use Rattle.std.proofs.lemmas.List.{length-replicate}
use Rattle.text.proofs.Writes.{wrote_length}
use Rattle.er7_redact.specs.Policy.{as_rule}
use Rattle.policy_print.proofs.Parts.{rule_length, rule_wrote}
use Rattle.policy_print.proofs.display.put_rule.Goals as goal

pub print-e-requires : goal.print-e-requires
unfolding as_rule
print-e-requires c = let h = rule_length c.args.n (as_rule c.args.text.now c.args.rule) in (c.requires.0.action, omega (arith, h, c.requires.2, c.print-w.ensures.end, c.requires.1, wrote_length c.print-w.ensures, wrote_length c.fill_at-k.ensures, c.fill_at-k.ensures.end, length-replicate {A = ℕ} (c.args.n - (c.print-w.result - c.args.at) + 2) 0x20))

pub byte_at-requires : goal.byte_at-requires
unfolding as_rule
byte_at-requires c = let h = rule_length c.args.n (as_rule c.args.text.now c.args.rule) in omega (arith, h, c.requires.2, c.print-w.ensures.end, c.requires.1, wrote_length c.print-w.ensures, wrote_length c.fill_at-k.ensures, c.fill_at-k.ensures.end, length-replicate {A = ℕ} (c.args.n - (c.print-w.result - c.args.at) + 2) 0x20, wrote_length c.print-e.ensures, c.print-e.ensures.end)

pub returns : goal.returns
unfolding as_rule
returns c = rule_wrote c.args.n (as_rule c.args.text.now c.args.rule) _ _ _ _ _ c.print-w.ensures c.fill_at-k.ensures c.print-e.ensures c.byte_at.ensures
