-- Laws of the leaves and segments that a turn leaves as they are. Assumes nothing.
use mathlib.Core.Path.{◌≡◌, refl, sym, ◌∙◌}
use mathlib.Core.Bool.{Bool, true, false, not, cond, ◌&&◌, ◌||◌}
use mathlib.Core.List.{List, [], ◌∷◌}
use mathlib.Core.Option.{Option, none, some}
use Prim.Native.Nat.{ℕ}
use borrow.Author.Tests.{eqb-true, not-false}
use lib.Dec.{eqb}
use Rattle.text.specs.Text.{Text, part, is_empty}
use Rattle.text.proofs.Laws.{clash, or_id}
use Rattle.er7.specs.Path.{as_path}
use Rattle.er7.specs.declared.message.Place.{Place}
use Rattle.er7.specs.declared.separators.Separators.{Separators}
use Rattle.er7_redact.specs.Action.{Action, as_action, is_null_action}
use Rattle.er7_redact.specs.Policy.{Rule, as_rule, reject}
use Rattle.er7_redact.specs.declared.policy.Rule.{Rule as HeldRule}
use Rattle.message_model.specs.Message.{Leaf, leaf, Label, touchable}
use Rattle.message_model.specs.Value.{is_empty_or_null}
use Rattle.run_model.specs.Redact.{covers, after, effect, stays, act, act_or, changing, changing_or, is_unnamed, rule_leaf, rule_events, unnamed_leaf, unnamed_events, Known, for_posture, for_sweep}
use Rattle.er7_table.specs.declared.table.Leaf.{Leaf as HeldLeaf}
use Rattle.er7_table.specs.Table.{leaf_row, place_at, stored_text, leaf_at}
use Rattle.redact_6_row.specs.Reach.{reaches_place}
use Rattle.redact_4_leaf.specs.Walk.{Pass}
use Rattle.redact_4_leaf.specs.State.{text_in}
use Rattle.redact_4_leaf.specs.Visit.{rule_pass, unnamed_pass}
use Rattle.redact_4_leaf.proofs.Unnamed.{pick_none}
use Rattle.redact_2_turn.specs.Turn.{pass_of, aim_at, aim_of, enters, is_touched, works, TurnHeld}
use Rattle.redact_2_turn.specs.declared.turn.Turn.{Turn}
use Rattle.redact_2_turn.specs.declared.turn.Turn.TheVariants.{Apply, Collapse, Reject, Sweep, Idle}
use Rattle.redact_2_turn.proofs.Aims.{works_rule, works_unnamed, covers_not, covers_elsewhere}

-- a pass leaves a leaf, and says nothing of it
pub record Still (P : Pass) (g : Label) (x : Leaf) (xs : List Leaf) : Type 0 where
  pub same : P.leaf g x xs ≡ x
  pub silent : P.says g x xs ≡ []

-- ---- a rule: what has vanished, and what it does not cover

module _ (key : ℕ) (s : Separators) (r : Rule) (g : Label) (p : Place) (b : Bool) where
  gone_rule : (xs : List Leaf) → Still (rule_pass key s r) g (leaf p b none) xs
  unfolding rule_pass rule_leaf rule_events
  gone_rule xs = record { same = refl; silent = refl }

  pub uncovered : (o : Option Text) (xs : List Leaf) → covers r g p ≡ false → Still (rule_pass key s r) g (leaf p b o) xs
  unfolding rule_pass rule_leaf rule_events effect after changing
  uncovered none xs e = record { same = refl; silent = refl }
  uncovered (some t) xs e = record { same = rw (e, or_id b); silent = rw e }

-- ---- a pass over unnamed leaves: what has vanished, what is named or may not be touched, and what has no action or one that leaves it

module _ (key : ℕ) (s : Separators) (pick : Text → Option Action) (g : Label) (p : Place) (b : Bool) where
  gone_unnamed : (xs : List Leaf) → Still (unnamed_pass key s pick) g (leaf p b none) xs
  unfolding unnamed_pass unnamed_leaf unnamed_events
  gone_unnamed xs = record { same = refl; silent = refl }

  kept_named : (o : Option Text) (xs : List Leaf) → is_unnamed g p b ≡ false → Still (unnamed_pass key s pick) g (leaf p b o) xs
  unfolding unnamed_pass unnamed_leaf unnamed_events after
  kept_named none xs e = record { same = refl; silent = refl }
  kept_named (some t) xs e = record { same = rw e; silent = rw e }

  pub unpicked : (o : Option Text) (xs : List Leaf) → ((t : Text) → o ≡ some t → pick t ≡ none) → Still (unnamed_pass key s pick) g (leaf p b o) xs
  unfolding unnamed_pass unnamed_leaf unnamed_events
  unpicked none xs e = record { same = refl; silent = refl }
  unpicked (some t) xs e = let q = pick_none key s pick g p b t xs (e t refl) in record { same = q.0; silent = q.1 }

  left : (t : Text) (a : Action) (xs : List Leaf) → pick t ≡ some a → act key s a t ≡ stays → Still (unnamed_pass key s pick) g (leaf p b (some t)) xs
  unfolding unnamed_pass unnamed_leaf unnamed_events after act_or changing_or changing
  left t a xs q e = record { same = go (is_unnamed g p b); silent = go' (is_unnamed g p b) }
    where
      go : (u : Bool) → leaf p b (after (cond u (act_or key s (pick t) t) stays) t) ≡ leaf p b (some t)
      go true = rw (q, e)
      go false = refl

      go' : (u : Bool) → cond u (changing_or key s (pick t) g p t) [] ≡ []
      go' true = rw (q, e)
      go' false = refl

-- ---- empty leaves

-- an action other than null leaves them
act_empty : (key : ℕ) (s : Separators) (a : Action) → is_null_action a ≡ false → act key s a [] ≡ stays
unfolding act is_empty_or_null is_empty
act_empty key s a e = rw e

-- and so does the sweep
sweep_empty : (s : Separators) (ks : List Known) → for_sweep s ks [] ≡ none
unfolding for_sweep is_empty_or_null is_empty
sweep_empty s ks = refl

empty_text : (held : List HeldLeaf) (store : Text) (i : ℕ) → eqb (leaf_row held i).len 0 ≡ true → text_in held store i ≡ []
unfolding text_in part
empty_text held store i e = rw (eqb-true (leaf_row held i).len 0 e)

neither : (a b : Bool) → a || not b ≡ false → (a ≡ false) × (b ≡ true)
neither true b e = clash e
neither false true e = (refl, refl)
neither false false e = clash e

-- ---- the leaves of the tables

module _ (key : ℕ) (s : Separators) (text : Text) (ks : List Known) (g : Label) (m : ℕ → Bool) (held : List HeldLeaf) (store : Text) (i : ℕ) (xs : List Leaf) where
  still_rule : (r : HeldRule) → works (aim_at text r.path) g (m i) (leaf_row held i) ≡ false → Still (rule_pass key s (as_rule text r)) g (leaf_at m held store i) xs
  unfolding leaf_at place_at stored_text is_touched
  still_rule r e = go (leaf_row held i).gone (sym (works_rule text r.path g (m i) (leaf_row held i)) ∙ e)
    where
      go : (b : Bool) → not b && touchable g (place_at held i) && reaches_place (as_path [] r.path) (place_at held i) ≡ false → Still (rule_pass key s (as_rule text r)) g (leaf (place_at held i) (m i) (cond b none (some (part store (leaf_row held i).start (leaf_row held i).len)))) xs
      go true q = gone_rule key s (as_rule text r) g (place_at held i) (m i) xs
      go false q = uncovered key s (as_rule text r) g (place_at held i) (m i) _ xs (covers_not text r g (place_at held i) q)

  -- x says whether its text matters
  still_unnamed : (pick : Text → Option Action) (x : Bool) → is_touched g (leaf_row held i) && not (m i) && x ≡ false
      → (x ≡ false → Still (unnamed_pass key s pick) g (leaf (place_at held i) (m i) (some (text_in held store i))) xs) → Still (unnamed_pass key s pick) g (leaf_at m held store i) xs
  unfolding leaf_at place_at stored_text text_in is_touched
  still_unnamed pick x e k = go (leaf_row held i).gone (touchable g (place_at held i) && not (m i)) refl e
    where
      go : (b u : Bool) → touchable g (place_at held i) && not (m i) ≡ u → not b && touchable g (place_at held i) && not (m i) && x ≡ false
          → Still (unnamed_pass key s pick) g (leaf (place_at held i) (m i) (cond b none (some (part store (leaf_row held i).start (leaf_row held i).len)))) xs
      go true u q v = gone_unnamed key s pick g (place_at held i) (m i) xs
      go false false q v = kept_named key s pick g (place_at held i) (m i) _ xs (unfold is_unnamed in q)
      go false true q v = k (rw q at v)

  pub still_leaf : (turn : Turn) → works (aim_of text turn) g (m i) (leaf_row held i) ≡ false → Still (pass_of key s text ks turn) g (leaf_at m held store i) xs
  unfolding pass_of aim_of
  still_leaf (Apply r) e = still_rule r e
  still_leaf (Collapse r) e = still_rule r e
  still_leaf (Reject a) e = still_unnamed (for_posture (reject (as_action text a))) (is_null_action (as_action text a) || not (eqb (leaf_row held i).len 0)) (sym (works_unnamed (is_null_action (as_action text a)) g (m i) (leaf_row held i)) ∙ e) (λ q.
      let w = neither (is_null_action (as_action text a)) (eqb (leaf_row held i).len 0) q in
      left key s (for_posture (reject (as_action text a))) g (place_at held i) (m i) (text_in held store i) (as_action text a) xs (unfold for_posture in refl)
      (rw (empty_text held store i w.1) (act_empty key s (as_action text a) w.0)))
  still_leaf Sweep e = still_unnamed (for_sweep s ks) (not (eqb (leaf_row held i).len 0)) (sym (works_unnamed false g (m i) (leaf_row held i)) ∙ e) (λ q.
      unpicked key s (for_sweep s ks) g (place_at held i) (m i) (some (text_in held store i)) xs (λ t f.
      let z : text_in held store i ≡ t = cc in rw (← z, empty_text held store i (not-false (eqb (leaf_row held i).len 0) q)) (sweep_empty s ks)))
  still_leaf Idle e = unfold leaf_at in unpicked key s (λ t. none) g (place_at held i) (m i) (stored_text held store i) xs (λ t f. refl)

-- ---- the segments that a turn does not enter

module _ (key : ℕ) (s : Separators) (text : Text) (ks : List Known) (g : Label) {x y z : ℕ} (n : g.name ≡ x ∷ y ∷ z ∷ []) where
  pub still_segment : (turn : Turn) → TurnHeld text turn → enters (aim_of text turn) g ≡ false → (l : Leaf) (xs : List Leaf) → Still (pass_of key s text ks turn) g l xs
  unfolding pass_of aim_of
  still_segment (Apply r) h e (leaf p b o) xs = uncovered key s (as_rule text r) g p b o xs (covers_elsewhere text r g p h.0 n e)
  still_segment (Collapse r) h e (leaf p b o) xs = uncovered key s (as_rule text r) g p b o xs (covers_elsewhere text r g p h.0 n e)
  still_segment (Reject a) h e l xs = clash (unfold enters in e)
  still_segment Sweep h e l xs = clash (unfold enters in e)
  still_segment Idle h e (leaf p b o) xs = unpicked key s (λ t. none) g p b o xs (λ t f. refl)
