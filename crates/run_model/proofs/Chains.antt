-- A pass keeps the leaves of a segment next to each other, also a pass that takes leaves away. Assumes nothing.
use mathlib.Core.Path.{◌≡◌, refl, sym, ap, ◌∙◌}
use mathlib.Core.Bool.{Bool, true, false, not, cond, ◌&&◌, ◌||◌}
use mathlib.Core.Option.{Option, none, some}
use mathlib.Core.List.{List, [], ◌∷◌, ◌++◌}
use Prim.Native.Nat.{ℕ, ◌+◌, ◌≤◌}
use native.Mathlib.Omega.{arith}
use borrow.Author.Tests.{ne_eqb}
use lib.Dec.{eqb}
use lib.ListN.{length, take, drop}
use Rattle.text.specs.Text.{Text}
use Rattle.text.proofs.Laws.{clash, and_false, and_true, by_cond}
use Rattle.er7.specs.Path.{Path}
use Rattle.er7.specs.declared.message.Place.{Place}
use Rattle.er7.specs.declared.separators.Separators.{Separators}
use Rattle.er7_redact.specs.Action.{Action, is_null_action}
use Rattle.er7_redact.specs.Policy.{Rule}
use Rattle.message_model.specs.Message.{Leaf, leaf, Label, Segment, segment, ends_leaf, next, leaves, leaves_behind, at_field, is_header_name, header_leaves, leaves_of, is_named, segments, message_of, segments_fault, message_fault, touchable}
use Rattle.message_model.proofs.Places.{Positive, positive_field, positive_piece}
use Rattle.message_model.proofs.Faultless.{three, header_line, named_line, faultless_lines, faultless, segments_are, no_segments}
use Rattle.message_model.specs.Chain.{Piece, a_field, a_repetition, a_component, a_subcomponent, next_place, Chain, Chained}
use Rattle.run_model.specs.Order.{FieldFirst, FieldsFirst}
use Rattle.run_model.specs.Redact.{fits, reaches, covers, Depth, by_field, by_repetition, by_component, Reach, each_leaf, each_node, depth, reach, is_node, starts, Effect, stays, vanishes, becomes, after, effect, rule_leaf, is_unnamed, act_or, unnamed_leaf, over_leaves, over_segments, after_rule}
use Rattle.run_model.proofs.InStep.{is_gone, vanishing, act_gone, effect_in_gone}

-- ---- the nodes of a depth

-- the first place of the node of a place
abbrev pub node_place : Depth → Place → Place
node_place by_field p = record { field = p.field; repetition = 1; component = 1; subcomponent = 1 }
node_place by_repetition p = record { field = p.field; repetition = p.repetition; component = 1; subcomponent = 1 }
node_place by_component p = record { field = p.field; repetition = p.repetition; component = p.component; subcomponent = 1 }

-- q stands next to p
abbrev pub Next : Place → Place → Type 0
Next p q = (k : Piece) × (q ≡ next_place k p)

-- the place q that is next to p is in the node of p, or begins the next node
data NextNode (d : Depth) (p q : Place) : Type 0 where
  same_node : starts d q ≡ false → node_place d q ≡ node_place d p → NextNode d p q
  new_node : starts d q ≡ true → Next (node_place d p) q → node_place d q ≡ q → NextNode d p q

not_one : (n : ℕ) → 1 ≤ n → eqb (n + 1) 1 ≡ false
not_one n h = ne_eqb (n + 1) 1 (λ e. omega arith)

next_is : (d : Depth) (k : Piece) (p : Place) → Positive p → NextNode d p (next_place k p)
unfolding starts
next_is by_field a_field p h = new_node refl (a_field, refl) refl
next_is by_field a_repetition p h = same_node (rw (not_one p.repetition h.repetition)) refl
next_is by_field a_component p h = same_node (rw (not_one p.component h.component, and_false)) refl
next_is by_field a_subcomponent p h = same_node (rw (not_one p.subcomponent h.subcomponent, and_false)) refl
next_is by_repetition a_field p h = new_node refl (a_field, refl) refl
next_is by_repetition a_repetition p h = new_node refl (a_repetition, refl) refl
next_is by_repetition a_component p h = same_node (rw (not_one p.component h.component)) refl
next_is by_repetition a_subcomponent p h = same_node (rw (not_one p.subcomponent h.subcomponent, and_false)) refl
next_is by_component a_field p h = new_node refl (a_field, refl) refl
next_is by_component a_repetition p h = new_node refl (a_repetition, refl) refl
next_is by_component a_component p h = new_node refl (a_component, refl) refl
next_is by_component a_subcomponent p h = same_node (rw (not_one p.subcomponent h.subcomponent)) refl

next_node : (d : Depth) (p q : Place) → Positive p → Next p q → NextNode d p q
next_node d p q h (k, e) = rw e (next_is d k p h)

pub positive_at : (p q : Place) → Positive p → Next p q → Positive q
positive_at p q h (k, e) = rw e (positive_piece k p h)

-- ---- a rule that collapses nodes covers all of a node or none of it

-- the path's indices below the depth are absent
abbrev Absent : Reach → Path → Type 0
Absent each_leaf w = Unit {0}
Absent (each_node by_field) w = (eqb w.subcomponent 0 ≡ true) × (eqb w.component 0 ≡ true) × (eqb w.repetition 0 ≡ true)
Absent (each_node by_repetition) w = (eqb w.subcomponent 0 ≡ true) × (eqb w.component 0 ≡ true)
Absent (each_node by_component) w = eqb w.subcomponent 0 ≡ true

absent : (r : Rule) → Absent (reach r) r.path
unfolding reach depth
absent r = go (is_null_action r.action) (eqb r.path.subcomponent 0) (eqb r.path.component 0) (eqb r.path.repetition 0) refl refl refl
  where
    go : (a b c d : Bool) → eqb r.path.subcomponent 0 ≡ b → eqb r.path.component 0 ≡ c → eqb r.path.repetition 0 ≡ d
        → Absent (cond (a && b) (each_node (cond c (cond d by_field by_repetition) by_component)) each_leaf) r.path
    go true true true true e f h = (e, f, h)
    go true true true false e f h = (e, f)
    go true true false d e f h = e
    go true false c d e f h = tt
    go false b c d e f h = tt

fits_any : (w x y : ℕ) → eqb w 0 ≡ true → fits w x ≡ fits w y
unfolding fits
fits_any w x y e = rw e

covers_node : (r : Rule) (g : Label) (d : Depth) (p : Place) → reach r ≡ each_node d → covers r g p ≡ covers r g (node_place d p)
unfolding covers touchable reaches
covers_node r g by_field p e =
    let f = rw e at (absent r) in
    rw (
      fits_any r.path.subcomponent p.subcomponent 1 f.0,
      fits_any r.path.component p.component 1 f.1,
      fits_any r.path.repetition p.repetition 1 f.2,
    )
covers_node r g by_repetition p e =
    let f = rw e at (absent r) in
    rw (fits_any r.path.subcomponent p.subcomponent 1 f.0, fits_any r.path.component p.component 1 f.1)
covers_node r g by_component p e = rw (fits_any r.path.subcomponent p.subcomponent 1 (rw e at (absent r)))

pub covers_next : (r : Rule) (g : Label) (d : Depth) (p q : Place) → reach r ≡ each_node d → Positive p → Next p q → starts d q ≡ false
    → covers r g q ≡ covers r g p
covers_next r g d p q e h n i = go (next_node d p q h n)
  where
    go : NextNode d p q → covers r g q ≡ covers r g p
    go (same_node a f) = covers_node r g d q e ∙ ap (covers r g) f ∙ sym (covers_node r g d p e)
    go (new_node a k f) = clash (sym a ∙ i)

-- ---- a leaf in its pass

after_live : (F : Effect) (t : Text) → is_gone F ≡ false → (u : Text) × (after F t ≡ some u)
unfolding after
after_live stays t e = (t, refl)
after_live (becomes w) t e = (w, refl)
after_live vanishes t e = clash e

after_gone : (F : Effect) (t : Text) → is_gone F ≡ true → after F t ≡ none
unfolding after
after_gone stays t e = clash (sym e)
after_gone (becomes w) t e = clash (sym e)
after_gone vanishes t e = refl

gone_is : (b v : Bool) (F : Effect) → is_gone F ≡ v → is_gone (cond b F stays) ≡ b && v
gone_is true v F e = e
gone_is false v F e = refl

pub field_starts : (d : Depth) (p : Place) → starts by_field p ≡ true → starts d p ≡ true
unfolding starts
field_starts by_field p e = e
field_starts by_repetition p e =
    let f = three (eqb p.repetition 1) (eqb p.component 1) (eqb p.subcomponent 1) e in and_true _ _ f.1 f.2
field_starts by_component p e = (three (eqb p.repetition 1) (eqb p.component 1) (eqb p.subcomponent 1) e).2

-- ---- a pass that keeps every leaf

module _ (f : Label → Leaf → List Leaf → Leaf) (g : Label) where
  record Keeps : Type 0 where
    vanished : (p : Place) (n : Bool) (xs : List Leaf) → f g (leaf p n none) xs ≡ leaf p n none
    live : (p : Place) (n : Bool) (t : Text) (xs : List Leaf) → (m : Bool) × (u : Text) × (f g (leaf p n (some t)) xs ≡ leaf p m (some u))

  keeps_chain : Keeps → (xs : List Leaf) (p : Place) → Chain p xs → Chain p (over_leaves f g xs)
  keeps_chain k [] p c = tt
  keeps_chain k (leaf q n none ∷ xs) p c = rw (k.vanished q n xs) (keeps_chain k xs p c)
  keeps_chain k (leaf q n (some t) ∷ xs) p c = rw (k.live q n t xs).2 (c.0, keeps_chain k xs q c.1)

  keeps_first : Keeps → (xs : List Leaf) → FieldFirst xs → FieldFirst (over_leaves f g xs)
  keeps_first k [] h = tt
  keeps_first k (leaf q n none ∷ xs) h = rw (k.vanished q n xs) (keeps_first k xs h)
  keeps_first k (leaf q n (some t) ∷ xs) h = rw (k.live q n t xs).2 h

-- ---- a rule

node_zero : (d : Depth) → node_place d (at_field 0) ≡ at_field 0
unfolding at_field
node_zero by_field = refl
node_zero by_repetition = refl
node_zero by_component = refl

pub cond_both : {X : Type 0} (b : Bool) (x : X) → cond b x x ≡ x
cond_both true x = refl
cond_both false x = refl

-- a leaf at q, next to p, in a rule that collapses nodes; b and c say whether the rule covers p and q
module _ (d : Depth) (p q : Place) (m : Bool) (F : Effect) (t : Text) (zs : List Leaf) where
  chain_node : NextNode d p q → Next p q → (b c : Bool) → (starts d q ≡ false → c ≡ b)
      → is_gone F ≡ c && not (starts d q) → Chain (cond c (node_place d q) q) zs → Chain (cond b (node_place d p) p) (leaf q m (after F t) ∷ zs)
  chain_node (same_node a f) k true true w v ch = rw (after_gone F t (rw a at v)) (rw f at ch)
  chain_node (same_node a f) k true false w v ch = clash (sym (w a))
  chain_node (same_node a f) k false true w v ch = clash (w a)
  chain_node (same_node a f) k false false w v ch = rw (after_live F t v).1 (k, ch)
  chain_node (new_node a j f) k true c w v ch = rw (after_live F t (v ∙ rw (a, and_false))).1 (j, rw (f, cond_both) at ch)
  chain_node (new_node a j f) k false c w v ch = rw (after_live F t (v ∙ rw (a, and_false))).1 (k, rw (f, cond_both) at ch)

module _ (key : ℕ) (s : Separators) (r : Rule) (g : Label) where
  pub rule_gone : (p : Place) (t : Text) (xs : List Leaf) → is_gone (effect key s r g p t xs) ≡ covers r g p && vanishing (reach r) p
  unfolding effect
  rule_gone p t xs = gone_is (covers r g p) _ _ (effect_in_gone key s (reach r) r.action p t xs)

  pub rule_live : reach r ≡ each_leaf → (p : Place) (t : Text) (xs : List Leaf) → is_gone (effect key s r g p t xs) ≡ false
  rule_live e p t xs = rule_gone p t xs ∙ rw (e, and_false)

  rule_keeps : reach r ≡ each_leaf → Keeps (rule_leaf key s r) g
  unfolding rule_leaf
  rule_keeps e =
      record {
        vanished = λ p n xs. refl;
        live = λ p n t xs.
            let u = after_live (effect key s r g p t xs) t (rule_live e p t xs) in
            (n || covers r g p && not (is_node (reach r)), u.0, rw u.1);
      }

  pub node_chain : (d : Depth) → reach r ≡ each_node d → (xs : List Leaf) (p : Place) → Positive p → Chain p xs
      → Chain (cond (covers r g p) (node_place d p) p) (over_leaves (rule_leaf key s r) g xs)
  unfolding rule_leaf
  node_chain d e [] p h c = tt
  node_chain d e (leaf q n none ∷ xs) p h c = node_chain d e xs p h c
  node_chain d e (leaf q n (some t) ∷ xs) p h c =
      let m = n || covers r g q && not (is_node (reach r)) in
      chain_node d p q m (effect key s r g q t xs) t (over_leaves (rule_leaf key s r) g xs)
      (next_node d p q h c.0) c.0 (covers r g p) (covers r g q) (covers_next r g d p q e h c.0)
      (rule_gone q t xs ∙ rw e) (node_chain d e xs q (positive_at p q h c.0) c.1)

  node_first : (d : Depth) → reach r ≡ each_node d → (xs : List Leaf) → FieldFirst xs → FieldFirst (over_leaves (rule_leaf key s r) g xs)
  unfolding rule_leaf
  node_first d e [] h = tt
  node_first d e (leaf q n none ∷ xs) h = node_first d e xs h
  node_first d e (leaf q n (some t) ∷ xs) h =
      rw (after_live (effect key s r g q t xs) t (rule_gone q t xs ∙ rw (e, field_starts d q h, and_false))).1 h

  rule_chain : (q : Reach) → reach r ≡ q → (xs : List Leaf) → Chain (at_field 0) xs → Chain (at_field 0) (over_leaves (rule_leaf key s r) g xs)
  rule_chain each_leaf e xs c = keeps_chain (rule_leaf key s r) g (rule_keeps e) xs (at_field 0) c
  rule_chain (each_node d) e xs c = rw (node_zero d, cond_both) at (node_chain d e xs (at_field 0) (positive_field 0) c)

  rule_first : (q : Reach) → reach r ≡ q → (xs : List Leaf) → FieldFirst xs → FieldFirst (over_leaves (rule_leaf key s r) g xs)
  rule_first each_leaf e xs h = keeps_first (rule_leaf key s r) g (rule_keeps e) xs h
  rule_first (each_node d) e xs h = node_first d e xs h

-- ---- unnamed leaves

module _ (key : ℕ) (s : Separators) (f : Text → Option Action) (g : Label) where
  act_or_gone : (o : Option Action) (t : Text) → is_gone (act_or key s o t) ≡ false
  unfolding act_or
  act_or_gone none t = refl
  act_or_gone (some a) t = act_gone key s a t

  unnamed_gone : (p : Place) (n : Bool) (t : Text) → is_gone (cond (is_unnamed g p n) (act_or key s (f t) t) stays) ≡ false
  unnamed_gone p n t = gone_is (is_unnamed g p n) false _ (act_or_gone (f t) t) ∙ and_false (is_unnamed g p n)

  unnamed_keeps : Keeps (unnamed_leaf key s f) g
  unfolding unnamed_leaf
  unnamed_keeps =
      record {
        vanished = λ p n xs. refl;
        live = λ p n t xs. let u = after_live (cond (is_unnamed g p n) (act_or key s (f t) t) stays) t (unnamed_gone p n t) in (n, u.0, rw u.1);
      }

-- ---- segments

module _ (f : Label → Leaf → List Leaf → Leaf) where
  over_chained : ((g : Label) (xs : List Leaf) → Chain (at_field 0) xs → Chain (at_field 0) (over_leaves f g xs)) → (ss : List Segment)
      → Chained ss → Chained (over_segments f ss)
  over_chained h [] c = tt
  over_chained h (segment g xs ∷ ss) c = (h g xs c.0, over_chained h ss c.1)

  over_first : ((g : Label) (xs : List Leaf) → FieldFirst xs → FieldFirst (over_leaves f g xs)) → (ss : List Segment)
      → FieldsFirst ss → FieldsFirst (over_segments f ss)
  over_first h [] c = tt
  over_first h (segment g xs ∷ ss) c = (h g xs c.0, over_first h ss c.1)

module _ (key : ℕ) (s : Separators) (r : Rule) where
  pub rule_chained : (ss : List Segment) → Chained ss → Chained (after_rule key s r ss)
  unfolding after_rule
  rule_chained ss c = over_chained (rule_leaf key s r) (λ g. rule_chain key s r g (reach r) refl) ss c

  pub rule_fields_first : (ss : List Segment) → FieldsFirst ss → FieldsFirst (after_rule key s r ss)
  unfolding after_rule
  rule_fields_first ss h = over_first (rule_leaf key s r) (λ g. rule_first key s r g (reach r) refl) ss h

module _ (key : ℕ) (s : Separators) (f : Text → Option Action) where
  pub unnamed_chained : (ss : List Segment) → Chained ss → Chained (over_segments (unnamed_leaf key s f) ss)
  unnamed_chained ss c =
      over_chained (unnamed_leaf key s f) (λ g xs. keeps_chain (unnamed_leaf key s f) g (unnamed_keeps key s f g) xs (at_field 0)) ss c

  pub unnamed_fields_first : (ss : List Segment) → FieldsFirst ss → FieldsFirst (over_segments (unnamed_leaf key s f) ss)
  unnamed_fields_first ss h = over_first (unnamed_leaf key s f) (λ g. keeps_first (unnamed_leaf key s f) g (unnamed_keeps key s f g)) ss h

-- ---- a message that was read

module _ (s : Separators) where
  leaves_first : (t w : Text) (p : Place) → starts by_field p ≡ true → FieldFirst (leaves s p w t)
  unfolding leaves
  leaves_first [] w p h = h
  leaves_first (x ∷ t) w p h = by_cond FieldFirst (ends_leaf s x) _ _ (λ _. h) (λ _. leaves_first t (w ++ x ∷ []) p h)

  field_begins : (x : ℕ) (p : Place) → eqb x s.field ≡ true → starts by_field (next s x p) ≡ true
  unfolding next starts
  field_begins x p e = rw e

  behind_first : (l : Text) → is_named s l ≡ true → FieldFirst (leaves_behind s (at_field 0) (drop 3 l))
  unfolding leaves_behind
  behind_first [] e = tt
  behind_first (a ∷ []) e = tt
  behind_first (a ∷ b ∷ []) e = tt
  behind_first (a ∷ b ∷ c ∷ []) e = tt
  behind_first (a ∷ b ∷ c ∷ x ∷ t) e =
      let f = (named_line s (a ∷ b ∷ c ∷ x ∷ t) e).behind in
      leaves_first t [] _ (field_begins x (at_field 0) (rw (ne_eqb (length (a ∷ b ∷ c ∷ x ∷ t)) 3 (λ q. omega arith)) at f))

  pub named_first : (l : Text) → is_named s l ≡ true → FieldFirst (leaves_of s l)
  unfolding leaves_of
  named_first l e = rw (named_line s l e).no_header (behind_first l e)

  pub others_first : (ls seen : List Text) (k n : ℕ) → 1 ≤ k → segments_fault s k n ls ≡ none → FieldsFirst (segments s seen ls)
  unfolding segments
  others_first [] seen k n h e = tt
  others_first (l ∷ ls) seen k n h e =
      let f = faultless_lines s k n l ls e in
      let z : eqb k 0 ≡ false = ne_eqb k 0 (λ e. omega arith) in
      (named_first l (rw z at f.named_or_first), others_first ls (seen ++ take 3 l ∷ []) (k + 1) _ (omega arith) f.others)

  header_first : (l : Text) (ls : List Text) → is_header_name (take 3 l) ≡ true → segments_fault s 0 0 (l ∷ ls) ≡ none → FieldsFirst (segments s [] (l ∷ ls))
  unfolding segments leaves_of header_leaves at_field starts
  header_first l ls h e = (rw h refl, others_first ls (take 3 l ∷ []) 1 _ (omega arith) (faultless_lines s 0 0 l ls e).others)

pub message_fields_first : (t : Text) → message_fault t ≡ none → FieldsFirst (message_of t).segments
message_fields_first [] e = rw no_segments tt
message_fields_first (x ∷ t) e = let f = faultless x t e in rw (segments_are (x ∷ t) f) (header_first _ f.line f.others (header_line f.line f.header).header f.no_fault)
