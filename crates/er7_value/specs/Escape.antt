-- The std's Option for what the definitions of escapes give. Assumes nothing: these are definitions.
use Rattle.std.proofs.Math.Option as maybe
use Rattle.std.proofs.Math.Option.{none, some}
use Rattle.std.specs.Prelude.{Option, Some, None}

-- the same, as the functions return it
unfoldable pub held : {A : Type 0} → maybe.Option A → Option A
held none = None
held (some x) = Some x
