-- Laws of what a turn looks at. Assumes nothing.
use Rattle.std.proofs.Common.{◌≡◌, refl, sym, ap, ◌∙◌, Bool, true, false, not, cond, ◌&&◌, ◌||◌, [], ◌∷◌, ℕ, ◌+◌, ◌≤◌, eqb, eqb-true, length, get_or, arith, Some, None}
use Rattle.std.proofs.Common.{Option as Maybe}
use Rattle.std.proofs.lemmas.Bool.{eqb-false}
use borrow.Author.Tests.{not-true}
use Rattle.text.specs.Text.{Text, same, part}
use Rattle.text.proofs.Laws.{clash, and_false, and_id, and_left, and_right}
use Rattle.text.proofs.Words.{same_longer}
use Rattle.text.proofs.Runs.{drop_step}
use Rattle.text.proofs.Kept.{part_length}
use Rattle.er7.specs.Path.{as_path, PathHeld}
use Rattle.er7.specs.declared.message.Label.{Label as HeldLabel}
use Rattle.er7.specs.declared.message.Place.{Place}
use Rattle.er7.specs.declared.path.Path.{Path as HeldPath}
use Rattle.er7_redact.specs.Policy.{as_rule}
use Rattle.er7_redact.specs.declared.policy.Rule.{Rule as HeldRule}
use Rattle.message_model.specs.Message.{Label, touchable}
use Rattle.run_model.specs.Redact.{fits, covers}
use Rattle.er7_table.specs.declared.table.Leaf.{Leaf as HeldLeaf}
use Rattle.er7_table.specs.Table.{as_label}
use Rattle.redact_6_row.specs.Reach.{reaches_place}
use Rattle.redact_6_row.proofs.Reaches.{covers_steps}
use Rattle.redact_2_turn.specs.Turn.{name_of, aim_at, field_of, enters, is_touched, looks_at, works}
use Rattle.redact_2_turn.specs.declared.turn.Aim.{Aim}
use Rattle.redact_2_turn.specs.declared.turn.Aim.TheVariants.{Reached, Unnamed, Nothing}

-- ---- a name of three bytes

three_bytes : (t : Text) (i n : ℕ) → i + n ≤ length t → n ≡ 3 → part t i n ≡ get_or t i 0 ∷ get_or t (i + 1) 0 ∷ get_or t (i + 2) 0 ∷ []
unfolding part
three_bytes t i n h e =
    let two : i + 1 + 1 ≡ i + 2 = omega arith in
    rw (e, drop_step t i (omega arith), drop_step t (i + 1) (omega arith), drop_step t (i + 1 + 1) (omega arith), two)

-- a rule's aim enters the segments into which its path reaches
module _ (t : Text) (w : HeldPath) (h : PathHeld t w) (g : Label) {x y z : ℕ} (n : g.name ≡ x ∷ y ∷ z ∷ []) where
  pub aim_enters : enters (aim_at t w) g ≡ same (as_path t w).segment g.name && fits (as_path t w).occurrence g.occurrence
  unfolding enters aim_at name_of as_path
  aim_enters = go (eqb w.segment_len 3) refl
    where
      go : (b : Bool) → eqb w.segment_len 3 ≡ b
          → enters (Reached (cond b (Some (get_or t w.segment 0, get_or t (w.segment + 1) 0, get_or t (w.segment + 2) 0)) None) w) g
          ≡ same (part t w.segment w.segment_len) g.name && fits w.segment_occurrence g.occurrence
      go true e = sym (rw (three_bytes t w.segment w.segment_len h.inside (eqb-true w.segment_len 3 e)))
      go false e = sym (rw (same_longer (part t w.segment w.segment_len) g.name (λ q. eqb-false w.segment_len 3 e (sym (part_length t w.segment w.segment_len h.inside) ∙ q ∙ rw n))))

-- ---- the leaves of such a segment

pub works_rule : (t : Text) (w : HeldPath) (g : Label) (named : Bool) (x : HeldLeaf) → works (aim_at t w) g named x ≡ is_touched g x && reaches_place (as_path [] w) x.place
unfolding works aim_at looks_at
works_rule t w g named x = refl

pub works_unnamed : (empty : Bool) (g : Label) (named : Bool) (x : HeldLeaf) → works (Unnamed empty) g named x ≡ is_touched g x && not named && (empty || not (eqb x.len 0))
unfolding works looks_at
works_unnamed empty g named x = go (is_touched g x) (not named) (empty || not (eqb x.len 0))
  where
    go : (a b c : Bool) → a && (b && c) ≡ a && b && c
    go true b c = refl
    go false b c = refl

-- a rule covers a leaf with which its aim has to do
module _ (t : Text) (r : HeldRule) (g : Label) (p : Place) where
  place_as : reaches_place (as_rule t r).path p ≡ reaches_place (as_path [] r.path) p
  unfolding as_rule as_path reaches_place
  place_as = refl

  pub covers_is : covers (as_rule t r) g p ≡ touchable g p && ((same (as_path t r.path).segment g.name && fits (as_path t r.path).occurrence g.occurrence) && reaches_place (as_path [] r.path) p)
  unfolding as_rule
  covers_is = rw (← place_as) (covers_steps (as_rule t r) g p)

  pub covers_not : touchable g p && reaches_place (as_path [] r.path) p ≡ false → covers (as_rule t r) g p ≡ false
  covers_not e = covers_is ∙ go (touchable g p) (same (as_path t r.path).segment g.name && fits (as_path t r.path).occurrence g.occurrence) (reaches_place (as_path [] r.path) p) e
    where
      go : (a b c : Bool) → a && c ≡ false → a && (b && c) ≡ false
      go true b c q = rw q (and_false b)
      go false b c q = refl

  module _ (h : PathHeld t r.path) {x y z : ℕ} (n : g.name ≡ x ∷ y ∷ z ∷ []) where
    pub covers_elsewhere : enters (aim_at t r.path) g ≡ false → covers (as_rule t r) g p ≡ false
    covers_elsewhere e = covers_is ∙ rw (sym (aim_enters t r.path h g n) ∙ e) (and_false (touchable g p))

    pub covers_here : enters (aim_at t r.path) g ≡ true → touchable g p && reaches_place (as_path [] r.path) p ≡ true → covers (as_rule t r) g p ≡ true
    covers_here e q = covers_is ∙ rw (sym (aim_enters t r.path h g n) ∙ e) q

-- ---- by the answers of the code

module _ (g : Label) (x : HeldLeaf) where
  pub touched_live : is_touched g x ≡ true → x.gone ≡ false
  unfolding is_touched
  touched_live e = not-true x.gone (and_left (not x.gone) (touchable g x.place) e)

  pub touched_place : is_touched g x ≡ true → touchable g x.place ≡ true
  unfolding is_touched
  touched_place e = and_right (not x.gone) (touchable g x.place) e

-- a segment of the table
pub enters_is : (n : ℕ × ℕ × ℕ) (w : HeldPath) (g : HeldLabel) {f : Bool} → f ≡ fits w.segment_occurrence g.occurrence
    → eqb n.0 g.a && eqb n.1 g.b && eqb n.2 g.c && f ≡ enters (Reached (Some n) w) (as_label g)
unfolding enters as_label same
enters_is n w g {f} e = rw e (ap (λ b. b && fits w.segment_occurrence g.occurrence) (go (eqb n.0 g.a) (eqb n.1 g.b) (eqb n.2 g.c)))
  where
    go : (a b c : Bool) → a && b && c ≡ a && (b && (c && true))
    go true true c = sym (and_id c)
    go true false c = refl
    go false b c = refl

-- a leaf of another field is not worked on
pub works_elsewhere : (name : Maybe (ℕ × ℕ × ℕ)) (w : HeldPath) (g : Label) (named : Bool) (x : HeldLeaf) → fits w.field x.place.field ≡ false → works (Reached name w) g named x ≡ false
unfolding works looks_at reaches_place as_path
works_elsewhere name w g named x e = rw (e, and_false (is_touched g x))

-- .. by the field to which an aim keeps
pub works_other : (aim : Aim) (g : Label) (named : Bool) (x : HeldLeaf) → fits (field_of aim) x.place.field ≡ false → works aim g named x ≡ false
unfolding field_of fits
works_other (Reached name w) g named x e = works_elsewhere name w g named x e
works_other (Unnamed empty) g named x e = clash e
works_other Nothing g named x e = clash e
