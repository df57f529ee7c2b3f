-- The size that the progress carries is at every stage the length of the message as it prints, and a redacted message fits. Assumes nothing.
use mathlib.Core.Path.{◌≡◌, refl, sym, ap, ◌∙◌, subst}
use mathlib.Core.Bool.{Bool, true, false, not, cond, ◌&&◌, ◌||◌}
use mathlib.Core.Option.{Option, none, some}
use mathlib.Core.List.{List, [], ◌∷◌, ◌++◌}
use Prim.Native.Nat.{ℕ, ◌+◌, ◌-◌, ◌≤◌}
use native.Mathlib.Omega.{arith}
use borrow.Author.Tests.{ltb-false}
use lib.Dec.{leb, ltb}
use lib.ListN.{length, length-append}
use Rattle.text.specs.Text.{Text, bytes, lower}
use Rattle.text.proofs.Laws.{clash, and_left, and_right, by_cond}
use Rattle.er7.specs.declared.message.Place.{Place}
use Rattle.er7.specs.declared.separators.Separators.{Separators}
use Rattle.er7_redact.specs.Action.{Action, is_keep}
use Rattle.er7_redact.specs.Policy.{Rule}
use Rattle.refusal.specs.Refusal.{too_long}
use Rattle.refusal.specs.Limits.{INPUT_MAX, LEARNT_BYTES_MAX, LEARNT_MAX, TEXT_MAX}
use Rattle.message_model.specs.Message.{Leaf, leaf, Label, Segment, segment, at_field, message_of, message_fault, touchable, lead, print_leaves, print_segments, print_message}
use Rattle.message_model.specs.Value.{NULL, is_null, is_empty_or_null, value}
use Rattle.message_model.proofs.Places.{Positive, positive_field}
use Rattle.message_model.proofs.Faultless.{not_too_long}
use Rattle.message_model.proofs.Messages.{message_chains}
use Rattle.message_model.proofs.PrintBack.{message_prints}
use Rattle.message_model.specs.Chain.{Chain, Chained}
use Rattle.run_model.specs.Order.{FieldFirst, FieldsFirst}
use Rattle.policy_model.specs.Policy.{Policy}
use Rattle.run_model.specs.Redact.{reaches, covers, Depth, Reach, each_leaf, each_node, reach, starts, rest_of_node, Effect, stays, vanishes, becomes, after, act, is_nil, collapse, effect_in, effect, Row, row, Event, learn, change, changing, learning, texts_at, size, rule_leaf, rule_events, is_unnamed, act_or, unnamed_leaf, changing_or, unnamed_events, over_leaves, over_segments, leaves_events, segments_events, Known, Progress, running, stopped, knows, known_bytes, after_event, after_events, after_rule, after_rules, rules_events, for_posture, for_sweep, before_sweep, events_before_sweep, progress_before_sweep, done, redacted_as, swept, redact_from, redact}
use Rattle.run_model.proofs.InStep.{is_gone, act_gone}
use Rattle.run_model.proofs.Chains.{positive_at, covers_next, field_starts, cond_both, rule_live, rule_chained, rule_fields_first, message_fields_first}

-- ---- what events do to a size

abbrev pub size_after : List Event → ℕ → ℕ
size_after [] z = z
size_after (learn v a ∷ es) z = size_after es z
size_after (change ρ went came ∷ es) z = size_after es (z - went + came)

pub size_after_append : (es fs : List Event) (z : ℕ) → size_after (es ++ fs) z ≡ size_after fs (size_after es z)
size_after_append [] fs z = refl
size_after_append (learn v a ∷ es) fs z = size_after_append es fs z
size_after_append (change ρ went came ∷ es) fs z = size_after_append es fs _

-- events change a size as a text's length goes from a to b, with x bytes beside the text
abbrev pub Moves : List Event → ℕ → ℕ → Type 0
Moves es a b = (x z : ℕ) → z ≡ x + a → size_after es z ≡ x + b

-- of two texts side by side
pub moves_both : (es fs : List Event) (a b c d : ℕ) → Moves es a b → Moves fs c d → Moves (es ++ fs) (a + c) (b + d)
moves_both es fs a b c d h k x z e =
    size_after_append es fs z ∙ k (x + b) (size_after es z) (h (x + c) z (omega arith) ∙ omega arith) ∙ omega arith

-- of one text, twice
pub moves_then : (es fs : List Event) (a b c : ℕ) → Moves es a b → Moves fs b c → Moves (es ++ fs) a c
moves_then es fs a b c h k x z e = size_after_append es fs z ∙ k x (size_after es z) (h x z e)

-- of the text alone
pub moves_alone : (es : List Event) (a b : ℕ) → Moves es a b → size_after es a ≡ b
moves_alone es a b h = h 0 a (omega arith) ∙ omega arith

size_after_cond : (b : Bool) (es fs : List Event) (z : ℕ) → size_after es z ≡ z → size_after fs z ≡ z → size_after (cond b es fs) z ≡ z
size_after_cond true es fs z h k = h
size_after_cond false es fs z h k = k

size_after_learning : (s : Separators) (a : Action) (ts : List Text) (z : ℕ) → size_after (learning s a ts) z ≡ z
unfolding learning
size_after_learning s a [] z = refl
size_after_learning s a (t ∷ ts) z =
    size_after_cond (is_keep a || is_empty_or_null t || ltb (length (lower (value s t))) 3) _ _ z (size_after_learning s a ts z) (size_after_learning s a ts z)

-- ---- the length of a leaf

-- a leaf's text behind a lead of n bytes
abbrev pub text_size : ℕ → Option Text → ℕ
text_size n none = 0
text_size n (some t) = n + length t

abbrev pub leaf_size : Separators → Label → Leaf → ℕ
leaf_size s g (leaf p n o) = text_size (length (lead s g p)) o

pub leaf_size_lem : (s : Separators) (g : Label) (x : Leaf) (xs : List Leaf)
    → length (print_leaves s g (x ∷ xs)) ≡ leaf_size s g x + length (print_leaves s g xs)
unfolding print_leaves
leaf_size_lem s g (leaf p n none) xs = omega arith
leaf_size_lem s g (leaf p n (some t)) xs = simp length-append (omega arith)

-- a leaf that does not vanish
effect_moves : (ρ : Row) (n : ℕ) (t : Text) (F : Effect) → is_gone F ≡ false → Moves (changing ρ (length t) F) (n + length t) (text_size n (after F t))
unfolding changing after
effect_moves ρ n t stays h x z e = e
effect_moves ρ n t (becomes w) h x z e = omega arith
effect_moves ρ n t vanishes h x z e = clash h

-- a pass that is settled leaf by leaf
leaves_move : (s : Separators) (f : Label → Leaf → List Leaf → Leaf) (e : Label → Leaf → List Leaf → List Event) (g : Label)
    → ((x : Leaf) (xs : List Leaf) → Moves (e g x xs) (leaf_size s g x) (leaf_size s g (f g x xs))) → (xs : List Leaf)
    → Moves (leaves_events e g xs) (length (print_leaves s g xs)) (length (print_leaves s g (over_leaves f g xs)))
leaves_move s f e g h [] = λ x z q. q
leaves_move s f e g h (x ∷ xs) =
    rw (leaf_size_lem s g x xs, leaf_size_lem s g (f g x xs) (over_leaves f g xs))
    (moves_both (e g x xs) (leaves_events e g xs) _ _ _ _ (h x xs) (leaves_move s f e g h xs))

-- ---- a rule

-- what the rule says of a leaf: its change alone counts
rule_size_after : (key : ℕ) (s : Separators) (r : Rule) (g : Label) (p : Place) (n : Bool) (t : Text) (xs : List Leaf) (z : ℕ)
    → size_after (rule_events key s r g (leaf p n (some t)) xs) z
    ≡ size_after (changing (row g p r.action) (size (texts_at (reach r) p t xs) - 1) (effect key s r g p t xs)) z
unfolding rule_events
rule_size_after key s r g p n t xs z =
    size_after_append (cond (covers r g p) (learning s r.action (texts_at (reach r) p t xs)) []) _ z
    ∙ ap (size_after (changing (row g p r.action) (size (texts_at (reach r) p t xs) - 1) (effect key s r g p t xs)))
    (size_after_cond (covers r g p) _ _ z (size_after_learning s r.action (texts_at (reach r) p t xs) z) refl)

-- one that acts on each leaf
module _ (key : ℕ) (s : Separators) (r : Rule) (g : Label) where
  each_went : reach r ≡ each_leaf → (p : Place) (t : Text) (xs : List Leaf) → size (texts_at (reach r) p t xs) - 1 ≡ length t
  unfolding texts_at size
  each_went e p t xs = rw e (omega arith)

  pub leaf_moves : reach r ≡ each_leaf → (x : Leaf) (xs : List Leaf)
      → Moves (rule_events key s r g x xs) (leaf_size s g x) (leaf_size s g (rule_leaf key s r g x xs))
  unfolding rule_leaf
  leaf_moves e (leaf p n none) xs x z h = unfold rule_events in h
  leaf_moves e (leaf p n (some t)) xs x z h =
      rule_size_after key s r g p n t xs z
      ∙ rw (each_went e p t xs)
      (effect_moves (row g p r.action) (length (lead s g p)) t (effect key s r g p t xs) (rule_live key s r g e p t xs) x z h)

-- ---- one that collapses nodes

and_zero : (b : Bool) (ts : List Text) → b && is_nil ts ≡ true → size ts ≡ 0
unfolding size
and_zero b [] e = refl
and_zero b (t ∷ ts) e = clash (sym (and_right b false e))

lead_one : (s : Separators) (r : Rule) (g : Label) (p : Place) → covers r g p ≡ true → length (lead s g p) ≡ 1
unfolding covers lead
lead_one s r g p e = rw (and_left (touchable g p) (reaches r.path g p) e)

-- a leaf behind a lead of n bytes, before leaves of the length l that get the length l' and of which the node still has the texts ts;
-- b: it begins a node; c and c': the leaf before it is covered, and this one
module _ (es : List Event) (ρ : Row) (n l l' : ℕ) (t : Text) (ts : List Text) where
  node_step : (b c c' already : Bool) → (b ≡ false → c' ≡ c) → (c' ≡ true → n ≡ 1) → (c' ≡ true → size ts ≤ l) → (already ≡ true → size ts ≡ 0)
      → ((x z : ℕ) → z + cond c' (size ts) 0 ≡ x + l → size_after es z ≡ x + l') → (x z : ℕ)
      → z + cond c (size (cond b [] (t ∷ ts))) 0 ≡ x + (n + length t + l)
      → size_after es (size_after (changing ρ (size (cond b (t ∷ ts) []) - 1) (cond c' (collapse b already) stays)) z)
      ≡ x + (text_size n (after (cond c' (collapse b already) stays) t) + l')
  unfolding size collapse changing after NULL bytes
  node_step true c true true v one le nil ih x z h =
      let o = cond_both {X = ℕ} c 0 in let k = nil refl in ih (x + (n + length t)) z (omega arith) ∙ omega arith
  node_step true c true false v one le nil ih x z h =
      let o = cond_both {X = ℕ} c 0 in let k = le refl in ih (x + (n + 2)) _ (omega arith) ∙ omega arith
  node_step true c false already v one le nil ih x z h =
      let o = cond_both {X = ℕ} c 0 in ih (x + (n + length t)) z (omega arith) ∙ omega arith
  node_step false c true already v one le nil ih x z h =
      let k = rw (sym (v refl)) at h in let o = one refl in ih x z (omega arith) ∙ omega arith
  node_step false c false already v one le nil ih x z h =
      let k = rw (sym (v refl)) at h in ih (x + (n + length t)) z (omega arith) ∙ omega arith

module _ (s : Separators) (r : Rule) (g : Label) (d : Depth) (e : reach r ≡ each_node d) where
  step_le : (b : Bool) (n l : ℕ) (t : Text) (ts : List Text) → (b ≡ false → n ≡ 1) → (b ≡ false → size ts ≤ l)
      → size (cond b [] (t ∷ ts)) ≤ n + length t + l
  unfolding size
  step_le true n l t ts one le = omega arith
  step_le false n l t ts one le = let o = one refl in let k = le refl in omega arith

  -- what is left of a covered node is no longer than the leaves that follow
  rest_le : (xs : List Leaf) (p : Place) → Positive p → Chain p xs → covers r g p ≡ true → size (rest_of_node d xs) ≤ length (print_leaves s g xs)
  unfolding rest_of_node size print_leaves
  rest_le [] p h c k = omega arith
  rest_le (leaf q n none ∷ xs) p h c k = rest_le xs p h c k
  rest_le (leaf q n (some t) ∷ xs) p h c k =
      let on : starts d q ≡ false → covers r g q ≡ true = λ i. covers_next r g d p q e h c.0 i ∙ k in
      rw (leaf_size_lem s g (leaf q n (some t)) xs)
      (step_le (starts d q) (length (lead s g q)) (length (print_leaves s g xs)) t (rest_of_node d xs)
      (λ i. lead_one s r g q (on i)) (λ i. rest_le xs q (positive_at p q h c.0) c.1 (on i)))

module _ (key : ℕ) (s : Separators) (r : Rule) (g : Label) (d : Depth) (e : reach r ≡ each_node d) where
  abbrev node_effect : Place → Text → List Leaf → Effect
  node_effect p t xs = cond (covers r g p) (collapse (starts d p) (is_null t && is_nil (rest_of_node d xs))) stays

  node_effect_lem : (p : Place) (t : Text) (xs : List Leaf) → effect key s r g p t xs ≡ node_effect p t xs
  unfolding effect effect_in
  node_effect_lem p t xs = rw e

  node_own_texts : (p : Place) (t : Text) (xs : List Leaf) → texts_at (reach r) p t xs ≡ cond (starts d p) (t ∷ rest_of_node d xs) []
  unfolding texts_at
  node_own_texts p t xs = rw e

  -- the first leaf's change, then what is said of the others
  node_events : (q : Place) (n : Bool) (t : Text) (xs : List Leaf) (z : ℕ)
      → size_after (leaves_events (rule_events key s r) g (leaf q n (some t) ∷ xs)) z
      ≡ size_after (leaves_events (rule_events key s r) g xs)
      (size_after (changing (row g q r.action) (size (cond (starts d q) (t ∷ rest_of_node d xs) []) - 1) (node_effect q t xs)) z)
  node_events q n t xs z =
      size_after_append (rule_events key s r g (leaf q n (some t)) xs) (leaves_events (rule_events key s r) g xs) z
      ∙ ap (size_after (leaves_events (rule_events key s r) g xs)) (rule_size_after key s r g q n t xs z ∙ rw (node_effect_lem q t xs, node_own_texts q t xs))

  node_after : (q : Place) (n : Bool) (t : Text) (xs : List Leaf)
      → length (print_leaves s g (over_leaves (rule_leaf key s r) g (leaf q n (some t) ∷ xs)))
      ≡ text_size (length (lead s g q)) (after (node_effect q t xs) t) + length (print_leaves s g (over_leaves (rule_leaf key s r) g xs))
  unfolding rule_leaf
  node_after q n t xs = leaf_size_lem s g _ (over_leaves (rule_leaf key s r) g xs) ∙ rw (node_effect_lem q t xs)

  node_end_lem : (b : Bool) (x z : ℕ) → z + cond b (size []) 0 ≡ x + 0 → z ≡ x + 0
  unfolding size
  node_end_lem b x z k = let o = cond_both {X = ℕ} b 0 in omega arith

  -- the bytes of the node of p that are still to come have gone from z already
  pub node_size : (xs : List Leaf) (p : Place) → Positive p → Chain p xs → (x z : ℕ)
      → z + cond (covers r g p) (size (rest_of_node d xs)) 0 ≡ x + length (print_leaves s g xs)
      → size_after (leaves_events (rule_events key s r) g xs) z ≡ x + length (print_leaves s g (over_leaves (rule_leaf key s r) g xs))
  unfolding rest_of_node rule_leaf rule_events print_leaves
  node_size [] p h c x z k = node_end_lem (covers r g p) x z k
  node_size (leaf q n none ∷ xs) p h c x z k = node_size xs p h c x z k
  node_size (leaf q n (some t) ∷ xs) p h c x z k =
      node_events q n t xs z
      ∙ node_step (leaves_events (rule_events key s r) g xs) (row g q r.action) (length (lead s g q)) (length (print_leaves s g xs))
      (length (print_leaves s g (over_leaves (rule_leaf key s r) g xs))) t (rest_of_node d xs)
      (starts d q) (covers r g p) (covers r g q) (is_null t && is_nil (rest_of_node d xs))
      (covers_next r g d p q e h c.0) (lead_one s r g q)
      (rest_le s r g d e xs q (positive_at p q h c.0) c.1) (and_zero (is_null t) (rest_of_node d xs))
      (node_size xs q (positive_at p q h c.0) c.1) x z (k ∙ ap (λ (y : ℕ). x + y) (leaf_size_lem s g (leaf q n (some t)) xs))
      ∙ sym (ap (λ (y : ℕ). x + y) (node_after q n t xs))

-- ---- a rule over a segment

rest_none : (d : Depth) (xs : List Leaf) → FieldFirst xs → rest_of_node d xs ≡ []
unfolding rest_of_node
rest_none d [] h = refl
rest_none d (leaf p n none ∷ xs) h = rest_none d xs h
rest_none d (leaf p n (some t) ∷ xs) h = rw (field_starts d p h)

pub rule_size : (key : ℕ) (s : Separators) (r : Rule) (g : Label) (xs : List Leaf) (p : Place) → Positive p → Chain p xs → FieldFirst xs
    → Moves (leaves_events (rule_events key s r) g xs) (length (print_leaves s g xs)) (length (print_leaves s g (over_leaves (rule_leaf key s r) g xs)))
rule_size key s r g xs p h c f x z q = go (reach r) refl
  where
    go : (d : Reach) → reach r ≡ d → size_after (leaves_events (rule_events key s r) g xs) z ≡ x + length (print_leaves s g (over_leaves (rule_leaf key s r) g xs))
    go each_leaf e = leaves_move s (rule_leaf key s r) (rule_events key s r) g (leaf_moves key s r g e) xs x z q
    go (each_node d) e =
        let o : size (rest_of_node d xs) ≡ 0 = ap size (rest_none d xs f) ∙ unfold size in refl in
        node_size key s r g d e xs p h c x z (rw (o, cond_both {X = ℕ} (covers r g p) 0) (omega arith))

-- ---- unnamed leaves

module _ (key : ℕ) (s : Separators) (f : Text → Option Action) (g : Label) where
  unnamed_changing : (b : Bool) (o : Option Action) (n : ℕ) (p : Place) (t : Text)
      → Moves (cond b (changing_or key s o g p t) []) (n + length t) (text_size n (after (cond b (act_or key s o t) stays) t))
  unfolding changing_or act_or
  unnamed_changing true none n p t = unfold after in (λ x z h. h)
  unnamed_changing true (some a) n p t = effect_moves (row g p a) n t (act key s a t) (act_gone key s a t)
  unnamed_changing false o n p t = unfold after in (λ x z h. h)

  pub unnamed_moves : (x : Leaf) (xs : List Leaf) → Moves (unnamed_events key s f g x xs) (leaf_size s g x) (leaf_size s g (unnamed_leaf key s f g x xs))
  unfolding unnamed_leaf unnamed_events
  unnamed_moves (leaf p n none) xs = λ x z h. h
  unnamed_moves (leaf p n (some t)) xs = unnamed_changing (is_unnamed g p n) (f t) (length (lead s g p)) p t

-- ---- segments

module _ (s : Separators) (cr : Bool) (f : Label → Leaf → List Leaf → Leaf) (e : Label → Leaf → List Leaf → List Event) where
  -- a segment's leaves
  abbrev LeavesMove : Label → List Leaf → Type 0
  LeavesMove g xs = Moves (leaves_events e g xs) (length (print_leaves s g xs)) (length (print_leaves s g (over_leaves f g xs)))

  abbrev EachMoves : List Segment → Type 0
  EachMoves [] = Unit {0}
  EachMoves (segment g xs ∷ ss) = LeavesMove g xs × EachMoves ss

  -- a segment, and what follows it
  one_moves : (g : Label) (xs : List Leaf) (fs : List Event) (w w' : Text) → LeavesMove g xs → Moves fs (length w) (length w')
      → Moves (leaves_events e g xs ++ fs) (length (g.name ++ (print_leaves s g xs ++ w))) (length (g.name ++ (print_leaves s g (over_leaves f g xs) ++ w')))
  one_moves g xs fs w w' h k x z q =
      moves_both (leaves_events e g xs) fs _ _ _ _ h k (x + length g.name) z (q ∙ simp length-append (omega arith))
      ∙ simp length-append (omega arith)

  more_moves : (es : List Event) (w w' : Text) → Moves es (length w) (length w') → Moves es (length (0x0d ∷ w)) (length (0x0d ∷ w'))
  more_moves es w w' h x z q = h (x + 1) z (omega arith) ∙ omega arith

  segments_move : (ss : List Segment) → EachMoves ss
      → Moves (segments_events e ss) (length (print_segments s cr ss)) (length (print_segments s cr (over_segments f ss)))
  unfolding print_segments
  segments_move [] h = λ x z q. q
  segments_move (segment g xs ∷ []) h = one_moves g xs [] (cond cr (0x0d ∷ []) []) (cond cr (0x0d ∷ []) []) h.0 (λ x z q. q)
  segments_move (segment g xs ∷ segment g' ys ∷ ss) h =
      let u = print_segments s cr (segment g' ys ∷ ss) in
      let u' = print_segments s cr (over_segments f (segment g' ys ∷ ss)) in
      let fs = segments_events e (segment g' ys ∷ ss) in
      one_moves g xs fs (0x0d ∷ u) (0x0d ∷ u') h.0 (more_moves fs u u' (segments_move (segment g' ys ∷ ss) h.1))

module _ (key : ℕ) (s : Separators) (cr : Bool) where
  pub rule_sizes : (r : Rule) (ss : List Segment) → Chained ss → FieldsFirst ss
      → Moves (segments_events (rule_events key s r) ss) (length (print_segments s cr ss)) (length (print_segments s cr (after_rule key s r ss)))
  unfolding after_rule
  rule_sizes r ss c f = segments_move s cr (rule_leaf key s r) (rule_events key s r) ss (go ss c f)
    where
      go : (zs : List Segment) → Chained zs → FieldsFirst zs → EachMoves s cr (rule_leaf key s r) (rule_events key s r) zs
      go [] c f = tt
      go (segment g xs ∷ zs) c f = (rule_size key s r g xs (at_field 0) (positive_field 0) c.0 f.0, go zs c.1 f.1)

  pub unnamed_sizes : (f : Text → Option Action) (ss : List Segment)
      → Moves (segments_events (unnamed_events key s f) ss) (length (print_segments s cr ss)) (length (print_segments s cr (over_segments (unnamed_leaf key s f) ss)))
  unnamed_sizes f ss = segments_move s cr (unnamed_leaf key s f) (unnamed_events key s f) ss (go ss)
    where
      go : (zs : List Segment) → EachMoves s cr (unnamed_leaf key s f) (unnamed_events key s f) zs
      go [] = tt
      go (segment g xs ∷ zs) = (leaves_move s (unnamed_leaf key s f) (unnamed_events key s f) g (unnamed_moves key s f g) xs, go zs)

  -- ---- a run

  pub rules_sizes : (rs : List Rule) (ss : List Segment) → Chained ss → FieldsFirst ss
      → Moves (rules_events key s rs ss) (length (print_segments s cr ss)) (length (print_segments s cr (after_rules key s rs ss)))
  unfolding rules_events after_rules
  rules_sizes [] ss c f = λ x z q. q
  rules_sizes (r ∷ rs) ss c f =
      moves_then (segments_events (rule_events key s r) ss) (rules_events key s rs (after_rule key s r ss)) _ _ _ (rule_sizes r ss c f)
      (rules_sizes rs (after_rule key s r ss) (rule_chained key s r ss c) (rule_fields_first key s r ss f))

  pub before_sweep_size : (P : Policy) (ss : List Segment) → Chained ss → FieldsFirst ss
      → Moves (events_before_sweep key s P ss) (length (print_segments s cr ss)) (length (print_segments s cr (before_sweep key s P ss)))
  unfolding events_before_sweep before_sweep
  before_sweep_size P ss c f =
      moves_then (rules_events key s P.rules ss) (segments_events (unnamed_events key s (for_posture P.posture)) (after_rules key s P.rules ss))
      _ _ _ (rules_sizes P.rules ss c f) (unnamed_sizes (for_posture P.posture) (after_rules key s P.rules ss))

-- ---- the progress

-- a progress with the size b, which is in the limit if the size a, with which it began, was
abbrev pub Sized : ℕ → ℕ → Progress → Type 0
Sized a b (running ks ρs z) = (z ≡ b) × (a ≤ TEXT_MAX → z ≤ TEXT_MAX)
Sized a b (stopped e) = Unit {0}

event_size : (sweep : Bool) (B : Progress) (e : Event) (a b : ℕ) → Sized a b B → Sized a (size_after (e ∷ []) b) (after_event sweep B e)
unfolding after_event
event_size sweep (stopped n) e a b h = tt
event_size sweep (running ks ρs z) (learn v x) a b h =
    by_cond (Sized a b) (not sweep || knows v ks) _ _ (λ _. h) (λ _.
    by_cond (Sized a b) (leb LEARNT_MAX (length ks) || ltb LEARNT_BYTES_MAX (known_bytes ks + length v)) _ _ (λ _. tt) (λ _. h))
event_size sweep (running ks ρs z) (change ρ went came) a b h =
    by_cond (Sized a (b - went + came)) (ltb TEXT_MAX (z - went + came)) _ _ (λ _. tt) (λ e. (rw h.0, λ _. ltb-false TEXT_MAX _ e))

pub recorded_size : (sweep : Bool) (es : List Event) (B : Progress) (a b : ℕ) → Sized a b B → Sized a (size_after es b) (after_events sweep es B)
unfolding after_events
recorded_size sweep [] B a b h = h
recorded_size sweep (e ∷ es) B a b h =
    rw (size_after_append (e ∷ []) es b) (recorded_size sweep es (after_event sweep B e) a (size_after (e ∷ []) b) (event_size sweep B e a b h))

pub progress_size : (sweep : Bool) (es : List Event) (ks ks' : List Known) (ρs ρs' : List Row) (z z' : ℕ)
    → after_events sweep es (running ks ρs z) ≡ running ks' ρs' z' → (z' ≡ size_after es z) × (z ≤ TEXT_MAX → z' ≤ TEXT_MAX)
progress_size sweep es ks ks' ρs ρs' z z' e = subst (Sized z (size_after es z)) e (recorded_size sweep es (running ks ρs z) z z (refl, λ h. h))

-- ---- the text that a run gives, with x bytes beside it

module _ (key : ℕ) (P : Policy) (s : Separators) (cr : Bool) (ss : List Segment) (c : Chained ss) (f : FieldsFirst ss)
    (x z : ℕ) (q : z ≡ x + length (print_segments s cr ss)) where
  pub size_before_sweep : Sized z (x + length (print_segments s cr (before_sweep key s P ss))) (progress_before_sweep z key s P ss)
  unfolding progress_before_sweep
  size_before_sweep =
      rw (before_sweep_size key s cr P ss c f x z q) at
      (recorded_size P.sweep (events_before_sweep key s P ss) (running [] [] z) z z (refl, λ h. h))

  fits_limit : z ≤ TEXT_MAX → (B : Progress) (zs : List Segment) (u : Text) (ρs : List Row) → Sized z (x + length (print_segments s cr zs)) B
      → redacted_as s cr B zs ≡ done u ρs → x + length u ≤ TEXT_MAX
  unfolding redacted_as
  fits_limit h (running ks σs y) zs u ρs k e = let q : print_segments s cr zs ≡ u = cc e in rw (← q) (rw k.0 at (k.1 h))
  fits_limit h (stopped n) zs u ρs k e = let q : true ≡ false = cc in clash q

  pub run_fits : z ≤ TEXT_MAX → (ks : List Known) (u : Text) (ρs : List Row)
      → swept key s P cr ks (progress_before_sweep z key s P ss) (before_sweep key s P ss) ≡ done u ρs → x + length u ≤ TEXT_MAX
  unfolding swept
  run_fits h ks u ρs e =
      let es = segments_events (unnamed_events key s (for_sweep s ks)) (before_sweep key s P ss) in
      fits_limit h (after_events P.sweep es (progress_before_sweep z key s P ss)) _ u ρs
      (rw (unnamed_sizes key s cr (for_sweep s ks) (before_sweep key s P ss) x _ refl) at
      (recorded_size P.sweep es (progress_before_sweep z key s P ss) z _ size_before_sweep)) e

message_size : (t : Text) → message_fault t ≡ none → length (print_message (message_of t)) ≤ TEXT_MAX
unfolding too_long
message_size t e = rw (message_prints t e) (let h = ltb-false INPUT_MAX (length t) (not_too_long t e) in omega arith)

pub redacted_fits : (key : ℕ) (P : Policy) (t : Text) → message_fault t ≡ none → (u : Text) (ρs : List Row) → redact key P (message_of t) ≡ done u ρs → length u ≤ TEXT_MAX
unfolding redact redact_from print_message
redacted_fits key P t e u ρs h =
    omega (arith, run_fits key P _ _ _ (message_chains t) (message_fields_first t e) 0 _ (omega arith) (message_size t e) _ u ρs h)
