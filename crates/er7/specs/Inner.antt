-- What the contracts of private functions cite; no public contract rests on it. Assumes nothing: these are definitions.
use Rattle.std.specs.Prelude.{◌≡◌, ℕ, drop}
use Rattle.std.proofs.Math.Option.{Option}
use Rattle.text.specs.Text.{Text}
use Rattle.std.specs.Prelude as Std
use Rattle.er7.specs.declared.path.Path.{Path as HeldPath}
use Rattle.er7.specs.Path.{Path, held_path}

-- a is what f reads from index i of s on, whatever the name w; the struct's name is n bytes at index at
pub record ParsedAt (f : Text → Text → Option Path) (s : Text) (i at n : ℕ) (a : Std.Option HeldPath) : Type 0 where
  pub is : (w : Text) → a ≡ held_path at n (f w (drop i s))
