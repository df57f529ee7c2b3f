-- Laws of the turn that a rule, a posture or the sweep has. Assumes nothing.
use mathlib.Core.Path.{◌≡◌, refl, sym, ap, ◌∙◌}
use mathlib.Core.Bool.{true}
use Rattle.text.specs.Text.{Text}
use Rattle.er7_redact.specs.Policy.{as_rule, as_posture}
use Rattle.er7_redact.specs.declared.action.Action.{Action as HeldAction}
use Rattle.er7_redact.specs.declared.policy.Rule.{Rule as HeldRule}
use Rattle.er7_redact.specs.declared.policy.Posture.{Posture as HeldPosture}
use Rattle.er7_redact.specs.declared.policy.Posture.TheVariants as Held
use Rattle.run_model.specs.Redact.{reach, is_node, for_posture}
use Rattle.redact_6_row.specs.Reach.{as_reach}
use Rattle.redact_6_row.specs.declared.reach.Reach.{Reach as HeldReach}
use Rattle.redact_6_row.specs.declared.reach.Reach.TheVariants.{EachLeaf}
use Rattle.redact_2_turn.specs.Turn.{pass_of}
use Rattle.redact_2_turn.specs.declared.turn.Turn.TheVariants.{Apply, Collapse, Reject, Idle}
use Rattle.redact_1_run.specs.Turns.{RuleTurn, PostureTurn}

module _ (rule : HeldRule) {d : HeldReach} (f : (t : Text) → as_reach d ≡ reach (as_rule t rule)) where
  pub leaf_turn : d ≡ EachLeaf → RuleTurn rule (Apply rule)
  unfolding pass_of as_reach
  leaf_turn e = record { held = λ t p a. (p, a, sym (f t) ∙ rw e); pass = λ key s t ks. refl }

  pub node_turn : {d' : HeldReach} → d ≡ d' → is_node (as_reach d') ≡ true → RuleTurn rule (Collapse rule)
  unfolding pass_of
  node_turn e q = record { held = λ t p a. (p, a, ap is_node (sym (f t) ∙ ap as_reach e) ∙ q); pass = λ key s t ks. refl }

pub accept_turn : {p : HeldPosture} → p ≡ Held.Accept → PostureTurn p Idle
unfolding pass_of as_posture for_posture
accept_turn e = rw e (record { held = λ t h. tt; pass = λ key s t ks. refl })

pub reject_turn : {p : HeldPosture} {a : HeldAction} → p ≡ Held.Reject a → PostureTurn p (Reject a)
unfolding pass_of as_posture
reject_turn e = rw e (record { held = λ t h. h; pass = λ key s t ks. refl })
