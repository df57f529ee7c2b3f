-- What the contracts of private functions cite; no public contract rests on it. Assumes nothing: these are definitions.
use Rattle.std.specs.Prelude.{◌≡◌, [], ◌∷◌, ℕ, ◌≤◌, ℤ, length, drop}
use Rattle.std.specs.Prelude as Std
use Rattle.std.proofs.Math.Option.{Option, none, some}
use Rattle.text.specs.Text.{Text}
use Rattle.er7_redact.specs.declared.action.Action.{Action as HeldAction}
use Rattle.refusal.specs.declared.Refusal.{Refusal}
use Rattle.refusal.specs.declared.Refusal.TheVariants.{BadAction, BadDayCount}

-- what is given for an action a that takes no argument, where s stands in the argument's place
unfoldable pub held_bare : HeldAction → Text → Std.Result HeldAction Refusal
held_bare a [] = Std.Ok a
held_bare a (x ∷ s) = Std.Err BadAction

-- .. for a number, a count and days that were read
unfoldable pub held_number : Option ℕ → Std.Option ℕ
held_number none = Std.None
held_number (some n) = Std.Some n

unfoldable pub held_count : Option ℕ → Std.Result ℕ Refusal
held_count none = Std.Err BadAction
held_count (some n) = Std.Ok n

unfoldable pub held_days : Option ℤ → Std.Result ℤ Refusal
held_days none = Std.Err BadDayCount
held_days (some z) = Std.Ok z

-- r is where what stands in s from index i on begins without its sign: without a plus, or without a sign of either kind
pub record Unsigned (without : Text → Text) (s : Text) (i r : ℕ) : Type 0 where
  pub high : r ≤ length s
  pub is : drop r s ≡ without (drop i s)
