-- What the contracts of private functions cite that read a policy; no public contract rests on it. Assumes nothing: these are definitions.
use Rattle.std.specs.Prelude.{◌≡◌, ℕ, Result, Ok, Err, IfOk}
use Rattle.text.specs.Text.{Text}
use Rattle.refusal.specs.declared.Refusal.{Refusal}
use Rattle.refusal.specs.declared.Refused.{Refused}
use Rattle.policy_model.specs.Policy.{Policy, PolicyRead, LineRead, refused, start, after_line, policy_lines, read_lines}
use Rattle.policy.specs.declared.policy.Policy.{Policy as HeldPolicy}
use Rattle.policy.specs.Policy.{as_read, as_policy, PolicyHeld}

-- p says nothing, in any text
pub record Starts (p : HeldPolicy) : Type 0 where
  pub is : (t : Text) → as_policy t p ≡ start
  pub held : (t : Text) → PolicyHeld t p

-- what reading gives behind line n: it goes on with the policy p, or the line is refused
unfoldable pub goes_on : ℕ → Policy → (Policy → PolicyRead) → Result (Unit {0}) Refusal → PolicyRead
goes_on n p f (Ok u) = f p
goes_on n p f (Err e) = refused e n

-- what a line says was taken into the policy p, which left q; its names and replacements stand in the text t
pub record LineTaken (t : Text) (said : LineRead) (p q : HeldPolicy) (r : Result (Unit {0}) Refusal) : Type 0 where
  pub is : PolicyHeld t p → (n : ℕ) (f : Policy → PolicyRead) → after_line n (as_policy t p) said f ≡ goes_on n (as_policy t q) f r
  pub held : PolicyHeld t p → PolicyHeld t q

-- r is what the lines of t say
pub record LinesRead (t : Text) (r : Result HeldPolicy Refused) : Type 0 where
  pub is : as_read t r ≡ read_lines 1 start (policy_lines t)
  pub held : IfOk r (PolicyHeld t)
