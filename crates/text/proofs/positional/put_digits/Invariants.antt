use Rattle.std.proofs.Common.{◌≡◌, ℕ, ◌<◌}
use Rattle.text.proofs.Spelling.{Spelling}
use Rattle.text.proofs.positional.put_digits.Given as goal

abbrev pub invariant-loop-i : goal.invariant-loop-i
invariant-loop-i g l = (f : ℕ → ℕ) → ((d r : ℕ) → d < l.base → goal.F-post g l.digit d r → r ≡ f d) → Spelling l.base f l.n l.initial.out l.out l.i l.m
