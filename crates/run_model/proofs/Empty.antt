-- A message of no bytes comes to nothing under every policy. Assumes nothing.
use mathlib.Core.Path.{◌≡◌, refl, ap}
use mathlib.Core.List.{List, [], ◌∷◌}
use mathlib.Core.Option.{none}
use Prim.Native.Nat.{ℕ}
use native.Mathlib.Omega.{arith}
use borrow.Author.Tests.{le-ltb}
use Rattle.er7.specs.declared.separators.Separators.{Separators}
use Rattle.er7_redact.specs.Policy.{Rule}
use Rattle.refusal.specs.Refusal.{too_long, no_foreign}
use Rattle.message_model.specs.Message.{message_lines, is_opened, head_of, segments_fault, message_fault, message_of, print_segments}
use Rattle.message_model.proofs.Faultless.{no_segments}
use Rattle.policy_model.specs.Policy as Q
use Rattle.policy_model.specs.Policy.{Policy, PolicyRead, read, read_policy}
use Rattle.run_model.specs.Redact as R
use Rattle.run_model.specs.Redact.{after_events, after_rule, after_rules, rules_events, before_sweep, events_before_sweep, progress_before_sweep, redacted_as, swept, redact_from, redact, print_rows}
use Rattle.run_model.specs.Entries.{done, with_buffers, with_policy, without_fault, reported, redact_answer}
use Rattle.run_model.specs.Empty.{EmptyMessage}

module _ (key : ℕ) (s : Separators) where
  none_after : (rs : List Rule) → after_rules key s rs [] ≡ []
  unfolding after_rules after_rule
  none_after [] = refl
  none_after (r ∷ rs) = none_after rs

  none_said : (rs : List Rule) → rules_events key s rs [] ≡ []
  unfolding rules_events after_rule
  none_said [] = refl
  none_said (r ∷ rs) = none_said rs

no_fault : message_fault [] ≡ none
unfolding message_fault message_lines is_opened head_of segments_fault too_long no_foreign
no_fault = refl

nothing_changes : (key : ℕ) (P : Policy) → redact key P (message_of []) ≡ R.done [] []
unfolding redact redact_from swept redacted_as progress_before_sweep events_before_sweep before_sweep after_events print_segments
nothing_changes key P = rw (no_segments, none_after key (message_of []).separators P.rules, none_said key (message_of []).separators P.rules)

pub empty_message : EmptyMessage
unfolding redact_answer
empty_message b policy key = ap (with_buffers b.buffers) (by_policy (read_policy policy))
  where
    by_policy : (p : PolicyRead)
        → with_policy p (λ P. without_fault (message_fault []) (reported b.report (redact key P (message_of [])))) ≡ with_policy p (λ P. done (record { text = []; rows = [] }))
    by_policy (read P) = unfold with_policy without_fault reported print_rows in rw (no_fault, nothing_changes key P, le-ltb b.report 0 (omega arith))
    by_policy (Q.refused e n) = unfold with_policy in refl
