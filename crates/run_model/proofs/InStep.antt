-- Two messages of one shape go through the rules in step: at each position the texts are equal, or the rule that settles the position
-- is still to come. Assumes nothing.
use mathlib.Core.Path.{◌≡◌, refl, sym, ap, ap₂, ◌∙◌}
use mathlib.Core.Logic.{◌⊎◌, inl, inr, ⊎_elim}
use mathlib.Core.Bool.{Bool, true, false, true≢false, not, cond, ◌&&◌, ◌||◌}
use mathlib.Core.Option.{Option, none, some, some-injective}
use mathlib.Core.List.{List, [], ◌∷◌, ◌++◌}
use Prim.Native.Nat.{ℕ, zero, suc}
use lib.ListN.{length}
use lib.Dec.{T, ltb}
use Rattle.text.specs.Text.{Text, lower, same}
use Rattle.er7.specs.declared.message.Place.{Place}
use Rattle.er7.specs.declared.separators.Separators.{Separators}
use Rattle.er7_redact.specs.Action.{Action, keep, clear, null, pseudonym, replace, mask, first, last, shift, kind, is_keep, is_null_action, apply}
use Rattle.er7_redact.specs.Policy.{Rule}
use Rattle.message_model.specs.Message.{Leaf, leaf, Label, Segment, segment}
use Rattle.message_model.specs.Value.{is_null, is_empty_or_null, value}
use Rattle.run_model.specs.Redact.{covers, Depth, Reach, each_leaf, each_node, reach, is_node, starts, rest_of_node, Effect, stays, vanishes, becomes, after, moved, replaced, act, is_nil, collapse, effect_in, effect, Row, row, Event, learn, change, changing, learning, texts_at, rule_leaf, rule_events, over_leaves, leaves_events, segments_events, after_rule, after_rules, rules_events}
use Rattle.run_model.specs.Table.{rows_of}
use Rattle.run_model.specs.Counts.{rule_turns, row_counts}
use Rattle.run_model.specs.Demand.{at_leaf, at, text, text_at, acts, acts_at, collapsed, ChangedAt, SettledAt}

-- ---- two lists of leaves of one shape

pub data SameShape : List Leaf → List Leaf → Type 0 where
  end : SameShape [] []
  gone : {xs ys : List Leaf} (p : Place) (n : Bool) → SameShape xs ys → SameShape (leaf p n none ∷ xs) (leaf p n none ∷ ys)
  live : {xs ys : List Leaf} (p : Place) (n : Bool) (t u : Text) → SameShape xs ys → SameShape (leaf p n (some t) ∷ xs) (leaf p n (some u) ∷ ys)

pub data SameShapes : List Segment → List Segment → Type 0 where
  end : SameShapes [] []
  next : {ss zs : List Segment} {xs ys : List Leaf} (g : Label) → SameShape xs ys → SameShapes ss zs → SameShapes (segment g xs ∷ ss) (segment g ys ∷ zs)

-- ---- what a rule does to the shape

alone_none : {A : Type 0} (b : Bool) (k l : List A) → is_nil k ≡ is_nil l → is_nil (cond b [] k) ≡ is_nil (cond b [] l)
alone_none true k l e = refl
alone_none false k l e = e

rest_nil : (d : Depth) {xs ys : List Leaf} → SameShape xs ys → is_nil (rest_of_node d xs) ≡ is_nil (rest_of_node d ys)
unfolding rest_of_node
rest_nil d end = refl
rest_nil d (gone p n w) = rest_nil d w
rest_nil d (live p n t u w) = alone_none (starts d p) _ _ refl

module _ (key : ℕ) (s : Separators) where
  effect_in_shape : (q : Reach) (a : Action) (p : Place) (t : Text) {xs ys : List Leaf} → SameShape xs ys
      → effect_in key s q a p t xs ≡ effect_in key s q a p t ys
  unfolding effect_in
  effect_in_shape each_leaf a p t w = refl
  effect_in_shape (each_node d) a p t w = ap (λ (z : Bool). collapse (starts d p) (is_null t && z)) (rest_nil d w)

  effect_shape : (r : Rule) (g : Label) (p : Place) (t : Text) {xs ys : List Leaf} → SameShape xs ys → effect key s r g p t xs ≡ effect key s r g p t ys
  unfolding effect
  effect_shape r g p t w = ap (λ (z : Effect). cond (covers r g p) z stays) (effect_in_shape (reach r) r.action p t w)

-- which leaves vanish does not depend on their text

abbrev pub is_gone : Effect → Bool
is_gone stays = false
is_gone (becomes w) = false
is_gone vanishes = true

gone_cond : (b c : Bool) (F G : Effect) → is_gone F ≡ c → is_gone G ≡ c → is_gone (cond b F G) ≡ c
gone_cond true c F G e f = e
gone_cond false c F G e f = f

abbrev pub vanishing : Reach → Place → Bool
vanishing each_leaf p = false
vanishing (each_node d) p = not (starts d p)

module _ (key : ℕ) (s : Separators) where
  put_gone : (o : Option Text) (v : Text) → is_gone (replaced s o v) ≡ false
  unfolding replaced
  put_gone none v = refl
  put_gone (some w) v = gone_cond (same w v) false _ _ refl refl

  pub act_gone : (a : Action) (t : Text) → is_gone (act key s a t) ≡ false
  unfolding act
  act_gone a t =
      gone_cond (is_null_action a) false _ _ (gone_cond (is_null t) false _ _ refl refl)
      (gone_cond (is_empty_or_null t) false _ _ refl (put_gone (apply key a (value s t)) (value s t)))

  collapse_gone : (b c : Bool) → is_gone (collapse b c) ≡ not b
  unfolding collapse
  collapse_gone true true = refl
  collapse_gone true false = refl
  collapse_gone false c = refl

  pub effect_in_gone : (q : Reach) (a : Action) (p : Place) (t : Text) (xs : List Leaf) → is_gone (effect_in key s q a p t xs) ≡ vanishing q p
  unfolding effect_in
  effect_in_gone each_leaf a p t xs = act_gone a t
  effect_in_gone (each_node d) a p t xs = collapse_gone (starts d p) _

  gone_covered : (b : Bool) (F G : Effect) → is_gone F ≡ is_gone G → is_gone (cond b F stays) ≡ is_gone (cond b G stays)
  gone_covered true F G e = e
  gone_covered false F G e = refl

  effect_gone : (r : Rule) (g : Label) (p : Place) (t u : Text) (xs ys : List Leaf) → is_gone (effect key s r g p t xs) ≡ is_gone (effect key s r g p u ys)
  unfolding effect
  effect_gone r g p t u xs ys =
      gone_covered (covers r g p) _ _ (effect_in_gone (reach r) r.action p t xs ∙ sym (effect_in_gone (reach r) r.action p u ys))

-- the shape after a rule

shape_after : (p : Place) (n : Bool) (F G : Effect) (t u : Text) {xs ys : List Leaf} → is_gone F ≡ is_gone G → SameShape xs ys
    → SameShape (leaf p n (after F t) ∷ xs) (leaf p n (after G u) ∷ ys)
unfolding after
shape_after p n stays stays t u e w = live p n _ _ w
shape_after p n stays (becomes v) t u e w = live p n _ _ w
shape_after p n stays vanishes t u e w = absurd (true≢false (sym e))
shape_after p n (becomes v) stays t u e w = live p n _ _ w
shape_after p n (becomes v) (becomes v') t u e w = live p n _ _ w
shape_after p n (becomes v) vanishes t u e w = absurd (true≢false (sym e))
shape_after p n vanishes stays t u e w = absurd (true≢false e)
shape_after p n vanishes (becomes v) t u e w = absurd (true≢false e)
shape_after p n vanishes vanishes t u e w = gone p n w

module _ (key : ℕ) (s : Separators) (r : Rule) where
  turn_shape : (g : Label) {xs ys : List Leaf} → SameShape xs ys → SameShape (over_leaves (rule_leaf key s r) g xs) (over_leaves (rule_leaf key s r) g ys)
  unfolding rule_leaf
  turn_shape g end = end
  turn_shape g (gone p n w) = gone p n (turn_shape g w)
  turn_shape g (live p n t u w) = shape_after p _ _ _ t u (effect_gone key s r g p t u _ _) (turn_shape g w)

  turn_segs : {ss zs : List Segment} → SameShapes ss zs → SameShapes (after_rule key s r ss) (after_rule key s r zs)
  unfolding after_rule
  turn_segs end = end
  turn_segs (next g w v) = next g (turn_shape g w) (turn_segs v)

  -- equal texts stay equal
  turn_text : (g : Label) {xs ys : List Leaf} → SameShape xs ys → (j : ℕ) → at_leaf none text g xs j ≡ at_leaf none text g ys j
      → at_leaf none text g (over_leaves (rule_leaf key s r) g xs) j ≡ at_leaf none text g (over_leaves (rule_leaf key s r) g ys) j
  unfolding rule_leaf
  turn_text g end j e = refl
  turn_text g (gone p n w) zero e = refl
  turn_text g (gone p n w) (suc j) e = turn_text g w j e
  turn_text g (live {xs = xs} p n t u w) zero e =
      let h : t ≡ u = some-injective t u e in
      ap (λ (v : Text). after (effect key s r g p v xs) v) h ∙ ap (λ (F : Effect). after F u) (effect_shape key s r g p u w)
  turn_text g (live p n t u w) (suc j) e = turn_text g w j e

  turn_text_at : {ss zs : List Segment} → SameShapes ss zs → (i j : ℕ) → text_at ss i j ≡ text_at zs i j
      → text_at (after_rule key s r ss) i j ≡ text_at (after_rule key s r zs) i j
  unfolding after_rule
  turn_text_at end i j e = refl
  turn_text_at (next g w v) zero j e = turn_text g w j e
  turn_text_at (next g w v) (suc i) j e = turn_text_at v i j e

-- ---- the rows of a rule

pub rows_append : (a b : List Event) → rows_of (a ++ b) ≡ rows_of a ++ rows_of b
rows_append [] b = refl
rows_append (learn v x ∷ a) b = rows_append a b
rows_append (change ρ went came ∷ a) b = ap (λ (l : List Row). ρ ∷ l) (rows_append a b)

rows_cond : (b : Bool) (a c : List Event) → rows_of a ≡ [] → rows_of c ≡ [] → rows_of (cond b a c) ≡ []
rows_cond true a c e f = e
rows_cond false a c e f = f

abbrev effect_rows : Row → Effect → List Row
effect_rows ρ stays = []
effect_rows ρ (becomes w) = ρ ∷ []
effect_rows ρ vanishes = []

rows_changing : (ρ : Row) (went : ℕ) (F : Effect) → rows_of (changing ρ went F) ≡ effect_rows ρ F
unfolding changing
rows_changing ρ went stays = refl
rows_changing ρ went (becomes w) = refl
rows_changing ρ went vanishes = refl

rows_moved : (ρ : Row) (F G : Effect) → is_gone F ≡ is_gone G → T (moved F) → T (moved G) → effect_rows ρ F ≡ effect_rows ρ G
unfolding moved
rows_moved ρ stays G e h k = absurd h
rows_moved ρ (becomes w) stays e h k = absurd k
rows_moved ρ (becomes w) (becomes v) e h k = refl
rows_moved ρ (becomes w) vanishes e h k = absurd (true≢false (sym e))
rows_moved ρ vanishes stays e h k = absurd k
rows_moved ρ vanishes (becomes v) e h k = absurd (true≢false e)
rows_moved ρ vanishes vanishes e h k = refl

pub keep_is : (a : Action) → T (is_keep a) → a ≡ keep
unfolding is_keep kind
keep_is keep h = refl
keep_is clear h = absurd h
keep_is null h = absurd h
keep_is pseudonym h = absurd h
keep_is (replace t) h = absurd h
keep_is (mask c) h = absurd h
keep_is (first n) h = absurd h
keep_is (last n) h = absurd h
keep_is (shift d) h = absurd h

cond_stays : (b : Bool) → cond b stays stays ≡ stays
cond_stays true = refl
cond_stays false = refl

cond_yes : (A B : Type 0) (b : Bool) → T b → cond b A B → A
cond_yes A B true h x = x
cond_yes A B false h x = absurd h

module _ (key : ℕ) (s : Separators) where
  rows_learning : (a : Action) (ts : List Text) → rows_of (learning s a ts) ≡ []
  unfolding learning
  rows_learning a [] = refl
  rows_learning a (t ∷ ts) = rows_cond (is_keep a || is_empty_or_null t || ltb (length (lower (value s t))) 3) _ _ (rows_learning a ts) (rows_learning a ts)

  says_rows : (r : Rule) (g : Label) (p : Place) (n : Bool) (t : Text) (xs : List Leaf)
      → rows_of (rule_events key s r g (leaf p n (some t)) xs) ≡ effect_rows (row g p r.action) (effect key s r g p t xs)
  unfolding rule_events
  says_rows r g p n t xs =
      rows_append (cond (covers r g p) (learning s r.action (texts_at (reach r) p t xs)) []) _
      ∙ ap₂ (λ (a b : List Row). a ++ b)
      (rows_cond (covers r g p) _ _ (rows_learning r.action (texts_at (reach r) p t xs)) refl)
      (rows_changing (row g p r.action) _ (effect key s r g p t xs))

  -- a rule that does not cover a leaf, or keeps it, leaves it
  pub keep_stays : (r : Rule) (p : Place) (t : Text) (xs : List Leaf) → r.action ≡ keep → effect_in key s (reach r) r.action p t xs ≡ stays
  unfolding reach is_null_action kind effect_in act replaced apply
  keep_stays r p t xs e = rw e (cond_stays (is_empty_or_null t))

  idle : (r : Rule) (g : Label) (p : Place) → T (covers r g p && not (is_keep r.action)) ⊎ ((t : Text) (xs : List Leaf) → effect key s r g p t xs ≡ stays)
  unfolding effect
  idle r g p = by (covers r g p) (is_keep r.action) (keep_is r.action)
    where
      by : (b c : Bool) → (T c → r.action ≡ keep)
          → T (b && not c) ⊎ ((t : Text) (xs : List Leaf) → cond b (effect_in key s (reach r) r.action p t xs) stays ≡ stays)
      by true true k = inr (λ t xs. keep_stays r p t xs (k tt))
      by true false k = inl tt
      by false c k = inr (λ t xs. refl)

  abbrev moves : Rule → Label → Leaf → List Leaf → Bool
  moves r g (leaf p n none) xs = false
  moves r g (leaf p n (some t)) xs = moved (effect key s r g p t xs)

  abbrev Fair : Rule → Label → List Leaf → List Leaf → ℕ → Type 0
  Fair r g xs ys j =
      (at_leaf none text g xs j ≡ at_leaf none text g ys j)
      ⊎ cond (at_leaf false (acts r) g xs j) (T (at_leaf false (moves r) g xs j) × T (at_leaf false (moves r) g ys j)) (Unit {0})

  rows_leaf : (r : Rule) (g : Label) (p : Place) (n : Bool) (t u : Text) {xs ys : List Leaf} → SameShape xs ys
      → Fair r g (leaf p n (some t) ∷ xs) (leaf p n (some u) ∷ ys) zero
      → effect_rows (row g p r.action) (effect key s r g p t xs) ≡ effect_rows (row g p r.action) (effect key s r g p u ys)
  rows_leaf r g p n t u {xs} {ys} w (inl e) =
      ap (effect_rows (row g p r.action)) (ap (λ (v : Text). effect key s r g p v xs) (some-injective t u e) ∙ effect_shape key s r g p u w)
  rows_leaf r g p n t u {xs} {ys} w (inr h) =
      ⊎_elim
      (λ k. let m = cond_yes _ _ (covers r g p && not (is_keep r.action)) k h in rows_moved _ _ _ (effect_gone key s r g p t u xs ys) m.0 m.1)
      (λ k. ap (effect_rows (row g p r.action)) (k t xs ∙ sym (k u ys)))
      (idle r g p)

  rows_in : (r : Rule) (g : Label) {xs ys : List Leaf} → SameShape xs ys → ((j : ℕ) → Fair r g xs ys j)
      → rows_of (leaves_events (rule_events key s r) g xs) ≡ rows_of (leaves_events (rule_events key s r) g ys)
  unfolding rule_events
  rows_in r g end H = refl
  rows_in r g (gone p n w) H = rows_in r g w (λ j. H (suc j))
  rows_in r g (live {xs = xs} {ys = ys} p n t u w) H =
      rows_append (rule_events key s r g (leaf p n (some t)) xs) _
      ∙ ap₂ (λ (a b : List Row). a ++ b)
      (says_rows r g p n t xs ∙ rows_leaf r g p n t u w (H zero) ∙ sym (says_rows r g p n u ys))
      (rows_in r g w (λ j. H (suc j)))
      ∙ sym (rows_append (rule_events key s r g (leaf p n (some u)) ys) _)

-- ---- what the statement calls changed has moved

moved_text : (F : Effect) (t : Text) → (some t ≡ after F t → ⊥) → T (moved F)
unfolding after moved
moved_text stays t h = absurd (h refl)
moved_text (becomes w) t h = tt
moved_text vanishes t h = tt

holds_right : (b c : Bool) → T (b && c) → T c
holds_right true c h = h
holds_right false c h = absurd h

module _ (key : ℕ) (s : Separators) (r : Rule) where
  changed_in : (g : Label) (xs : List Leaf) (j : ℕ)
      → (at_leaf none text g xs j ≡ at_leaf none text g (over_leaves (rule_leaf key s r) g xs) j → ⊥) ⊎ T (at_leaf false (collapsed key s r) g xs j)
      → T (at_leaf false (moves key s r) g xs j)
  unfolding rule_leaf
  changed_in g [] j (inl h) = absurd (h refl)
  changed_in g [] j (inr h) = h
  changed_in g (leaf p n none ∷ xs) zero (inl h) = absurd (h refl)
  changed_in g (leaf p n none ∷ xs) zero (inr h) = h
  changed_in g (leaf p n (some t) ∷ xs) zero (inl h) = moved_text _ t h
  changed_in g (leaf p n (some t) ∷ xs) zero (inr h) = holds_right (is_node (reach r)) _ h
  changed_in g (x ∷ xs) (suc j) h = changed_in g xs j h

  changed_moves : (ss : List Segment) (i j : ℕ) → ChangedAt key s r ss i j → T (at false (moves key s r) ss i j)
  unfolding after_rule
  changed_moves [] i j (inl h) = absurd (h refl)
  changed_moves [] i j (inr h) = h
  changed_moves (segment g xs ∷ ss) zero j h = changed_in g xs j h
  changed_moves (segment g xs ∷ ss) (suc i) j h = changed_moves ss i j h

  abbrev FairAt : List Segment → List Segment → ℕ → ℕ → Type 0
  FairAt a b i j =
      (text_at a i j ≡ text_at b i j) ⊎ cond (acts_at r a i j) (T (at false (moves key s r) a i j) × T (at false (moves key s r) b i j)) (Unit {0})

  rows_segs : {a b : List Segment} → SameShapes a b → ((i j : ℕ) → FairAt a b i j) → rows_of (segments_events (rule_events key s r) a) ≡ rows_of (segments_events (rule_events key s r) b)
  rows_segs end H = refl
  rows_segs (next {xs = xs} {ys = ys} g w v) H =
      rows_append (leaves_events (rule_events key s r) g xs) _
      ∙ ap₂ (λ (a b : List Row). a ++ b) (rows_in key s r g w (λ j. H zero j)) (rows_segs v (λ i j. H (suc i) j))
      ∙ sym (rows_append (leaves_events (rule_events key s r) g ys) _)

-- ---- in step

cond_fair : (A B C S M N : Type 0) (b : Bool) → (A → M) → (B → N) → cond b (A × B × C) S → cond b (M × N) (Unit {0})
cond_fair A B C S M N true f g h = (f h.0, g h.1)
cond_fair A B C S M N false f g h = tt

cond_left : (A B C S : Type 0) (b : Bool) → cond b (A × B × C) S → C ⊎ S
cond_left A B C S true h = inl h.2
cond_left A B C S false h = inr h

shape_eq : (g : Label) {xs ys : List Leaf} → SameShape xs ys → ((j : ℕ) → at_leaf none text g xs j ≡ at_leaf none text g ys j) → xs ≡ ys
shape_eq g end H = refl
shape_eq g (gone p n w) H = ap (λ (l : List Leaf). leaf p n none ∷ l) (shape_eq g w (λ j. H (suc j)))
shape_eq g (live p n t u w) H = ap₂ (λ (o : Option Text) (l : List Leaf). leaf p n o ∷ l) (H zero) (shape_eq g w (λ j. H (suc j)))

segs_eq : {a b : List Segment} → SameShapes a b → ((i j : ℕ) → text_at a i j ≡ text_at b i j) → a ≡ b
segs_eq end H = refl
segs_eq (next g w v) H = ap₂ (λ (l : List Leaf) (m : List Segment). segment g l ∷ m) (shape_eq g w (λ j. H zero j)) (segs_eq v (λ i j. H (suc i) j))

module _ (key : ℕ) (s : Separators) where
  abbrev pub Good : List Rule → List Segment → List Segment → ℕ → ℕ → Type 0
  Good rs a b i j = (text_at a i j ≡ text_at b i j) ⊎ SettledAt key s s rs a b i j

  good_fair : (r : Rule) (rs : List Rule) (a b : List Segment) (i j : ℕ) → Good (r ∷ rs) a b i j → FairAt key s r a b i j
  good_fair r rs a b i j (inl e) = inl e
  good_fair r rs a b i j (inr h) =
      inr (cond_fair _ _ _ _ _ _ (acts_at r a i j) (changed_moves key s r a i j) (changed_moves key s r b i j) h)

  good_next : (r : Rule) (rs : List Rule) (a b : List Segment) → SameShapes a b → (i j : ℕ) → Good (r ∷ rs) a b i j
      → Good rs (after_rule key s r a) (after_rule key s r b) i j
  good_next r rs a b v i j (inl e) = inl (turn_text_at key s r v i j e)
  good_next r rs a b v i j (inr h) = cond_left _ _ _ _ (acts_at r a i j) h

  good_end : (a b : List Segment) (i j : ℕ) → Good [] a b i j → text_at a i j ≡ text_at b i j
  good_end a b i j (inl e) = e
  good_end a b i j (inr h) = absurd h

  pub in_step : (rs : List Rule) (a b : List Segment) → SameShapes a b → ((i j : ℕ) → Good rs a b i j)
      → (after_rules key s rs a ≡ after_rules key s rs b) × (rows_of (rules_events key s rs a) ≡ rows_of (rules_events key s rs b))
  unfolding after_rules rules_events
  in_step [] a b v H = (segs_eq v (λ i j. good_end a b i j (H i j)), refl)
  in_step (r ∷ rs) a b v H =
      let ih = in_step rs (after_rule key s r a) (after_rule key s r b) (turn_segs key s r v) (λ i j. good_next r rs a b v i j (H i j)) in (
        ih.0,
        rows_append (segments_events (rule_events key s r) a) _
            ∙ ap₂ (λ (x y : List Row). x ++ y) (rows_segs key s r v (λ i j. good_fair r rs a b i j (H i j))) ih.1
            ∙ sym (rows_append (segments_events (rule_events key s r) b) _),
      )

  -- and each rule has as many rows
  pub counts_in_step : (rs : List Rule) (a b : List Segment) → SameShapes a b → ((i j : ℕ) → Good rs a b i j)
      → row_counts (rule_turns key s rs a) ≡ row_counts (rule_turns key s rs b)
  unfolding rule_turns row_counts
  counts_in_step [] a b v H = refl
  counts_in_step (r ∷ rs) a b v H =
      ap₂ (λ (ρs : List Row) (ns : List ℕ). length ρs ∷ ns) (rows_segs key s r v (λ i j. good_fair r rs a b i j (H i j)))
      (counts_in_step rs (after_rule key s r a) (after_rule key s r b) (turn_segs key s r v) (λ i j. good_next r rs a b v i j (H i j)))
