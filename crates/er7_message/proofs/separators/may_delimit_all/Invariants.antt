use Rattle.std.proofs.Common.{◌≡◌, drop}
use Rattle.message_model.specs.Message.{may_delimit_all}
use Rattle.er7_message.proofs.separators.may_delimit_all.Given as goal

abbrev pub invariant-loop-i : goal.invariant-loop-i
invariant-loop-i l = may_delimit_all l.bytes ≡ may_delimit_all (drop l.i l.bytes)
