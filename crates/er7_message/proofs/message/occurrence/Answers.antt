use Rattle.std.proofs.Common.{rules, take}
use Rattle.er7_message.proofs.Names.{last_found, none_found, names_most}
use Rattle.er7_message.proofs.message.occurrence.Goals as goal

pub overflow_add-result : goal.overflow_add-result
overflow_add-result c =
    let e = last_found _ _ c.last_named.ensures c.requires.1 c.in-Some.is in
    search (rules, e, names_most c.args.before.now (take 3 c.args.line.now), c.requires.0)

pub returns-in-Some : goal.returns-in-Some
returns-in-Some c = rw (last_found _ _ c.last_named.ensures c.requires.1 c.in-Some.is)

pub returns-in-None : goal.returns-in-None
returns-in-None c = rw (none_found _ _ c.last_named.ensures c.in-None.is)
