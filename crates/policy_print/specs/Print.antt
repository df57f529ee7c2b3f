-- What is printed, and where. Assumes nothing: these are definitions.
use Rattle.std.specs.Prelude.{◌≡◌, cond, ℕ, ◌+◌, length, ltb, Result, Ok, Err}
use Rattle.text.specs.Text.{Text, put}
use Rattle.refusal.specs.declared.Refusal.TheVariants.{TooMany, NoSuchBuiltin}
use Rattle.refusal.specs.declared.Refused.{Refused}
use Rattle.refusal.specs.Limits.{RULES_MAX}
use Rattle.policy_model.specs.Policy.{Policy, PolicyRead, read, refused, read_policy, merged, print_policy}
use Rattle.policy_model.specs.Builtin.{builtin_text}

-- "each policy whole ..; the merged rule count": what two policies read as
unfoldable pub merged_read : Policy → Policy → PolicyRead
merged_read p q = cond (ltb RULES_MAX (length p.rules + length q.rules)) (refused TooMany 0) (read (merged p q))

unfoldable pub appended : PolicyRead → PolicyRead → PolicyRead
appended (read p) (read q) = merged_read p q
appended (read p) (refused e n) = refused e n
appended (refused e n) o = refused e n

-- "number above 3"
unfoldable pub builtin_read : ℕ → PolicyRead
builtin_read n = cond (ltb 3 n) (refused NoSuchBuiltin 0) (read_policy (builtin_text n))

-- the answer for what was read, and the buffer d then: the printed policy at its front, or nothing new
unfoldable pub printed_of : PolicyRead → Result ℕ Refused
printed_of (read p) = Ok (length (print_policy p))
printed_of (refused e n) = Err (record { refusal = e; line = n })

unfoldable pub buffer_of : Text → PolicyRead → Text
buffer_of d (read p) = put d 0 (print_policy p)
buffer_of d (refused e n) = d

pub record PrintedIs (o : PolicyRead) (d d' : Text) (r : Result ℕ Refused) : Type 0 where
  pub result : r ≡ printed_of o
  pub buffer : d' ≡ buffer_of d o
