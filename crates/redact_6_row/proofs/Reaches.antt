-- Laws of a rule's reach. Assumes nothing.
use mathlib.Core.Path.{◌≡◌, refl, sym}
use mathlib.Core.Bool.{Bool, true, false, ◌&&◌}
use lib.Dec.{eqb}
use Rattle.text.specs.Text.{Text, same}
use Rattle.er7.specs.Path.{Path, as_path}
use Rattle.er7.specs.declared.message.Place.{Place}
use Rattle.er7_redact.specs.Action.{is_null_action, as_action}
use Rattle.er7_redact.specs.Policy.{Rule, as_rule}
use Rattle.er7_redact.specs.declared.policy.Rule.{Rule as HeldRule}
use Rattle.message_model.specs.Message.{Label, touchable}
use Rattle.run_model.specs.Redact.{fits, reaches, covers, each_leaf, each_node, depth, reach}
use Rattle.redact_6_row.specs.Reach.{reaches_place}

-- a path reaches a leaf if it reaches into the segment and, there, the place
pub reaches_steps : (w : Path) (g : Label) (p : Place) → reaches w g p ≡ (same w.segment g.name && fits w.occurrence g.occurrence) && reaches_place w p
unfolding reaches reaches_place
reaches_steps w g p =
    let s = same w.segment g.name && fits w.occurrence g.occurrence in
    let f = fits w.field p.field in
    let r = fits w.repetition p.repetition in
    let c = fits w.component p.component in
    let u = fits w.subcomponent p.subcomponent in
    go s f r c u
  where
    go : (s f r c u : Bool) → s && f && r && c && u ≡ s && (f && r && c && u)
    go true f r c u = refl
    go false f r c u = refl

-- so a rule covers it if, besides, it may be touched
pub covers_steps : (r : Rule) (g : Label) (p : Place)
    → covers r g p ≡ touchable g p && ((same r.path.segment g.name && fits r.path.occurrence g.occurrence) && reaches_place r.path p)
unfolding covers
covers_steps r g p = rw (reaches_steps r.path g p)

-- ---- where a rule acts, by its test

module _ (t : Text) (r : HeldRule) {b : Bool} (e : b ≡ is_null_action (as_action t r.action)) where
  pub reach_node : b && eqb r.path.subcomponent 0 ≡ true → each_node (depth (as_path t r.path)) ≡ reach (as_rule t r)
  unfolding reach as_rule as_path
  reach_node h = sym (rw (← e, h))

  pub reach_leaf : b && eqb r.path.subcomponent 0 ≡ false → each_leaf ≡ reach (as_rule t r)
  unfolding reach as_rule as_path
  reach_leaf h = sym (rw (← e, h))
