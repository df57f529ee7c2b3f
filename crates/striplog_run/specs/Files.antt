-- What is handed in of a file. Assumes nothing: these are definitions.
use Rattle.std.specs.Prelude.{Option as HeldOption, Some, None}
use Rattle.std.specs.Borrow.{Bor}
use Rattle.std.proofs.Math.Option.{Option, none, some}
use Rattle.text.specs.Text.{Text}

-- a file's bytes, none if it is missing
unfoldable pub file_if : HeldOption (Bor Text) → Option Text
file_if (Some t) = some t.now
file_if None = none
