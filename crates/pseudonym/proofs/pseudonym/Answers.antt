use Rattle.std.proofs.Common.{refl}
use Rattle.pseudonym.specs.Pseudonym.{pseudonym}
use Rattle.pseudonym.proofs.Hashes.{key_then_value}
use Rattle.pseudonym.proofs.pseudonym.Goals as goal

pub returns : goal.returns
unfolding pseudonym
returns c =
    let h = key_then_value c.args.key c.args.value.now _ _ _ _ _ refl c.eight_bytes_at.ensures c.fold-keyed.ensures c.fold-hash.ensures in
    rw (← h) c.hexadecimal_at.ensures
