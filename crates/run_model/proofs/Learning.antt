-- What events learn, and a sweep that finds nothing of it. Assumes nothing.
use mathlib.Core.Path.{◌≡◌, refl, ap, ap₂}
use mathlib.Core.Bool.{Bool, true, false, not, cond}
use mathlib.Core.Option.{Option, none, some}
use mathlib.Core.List.{List, [], ◌∷◌, ◌++◌, Memᴰ}
use Prim.Native.Nat.{ℕ}
use lib.Dec.{T}
use Rattle.text.specs.Text.{Text}
use Rattle.er7.specs.declared.message.Place.{Place}
use Rattle.er7.specs.declared.separators.Separators.{Separators}
use Rattle.er7_redact.specs.Action.{Action}
use Rattle.message_model.specs.Message.{Leaf, leaf, Label, Segment, segment}
use Rattle.message_model.specs.Value.{is_empty_or_null, is_whole_word}
use Rattle.run_model.specs.Redact.{Effect, stays, vanishes, becomes, after, act, Row, Event, learn, change, changing, is_unnamed, act_or, unnamed_leaf, changing_or, unnamed_events, over_leaves, over_segments, leaves_events, segments_events, Known, longest_found, action_in, for_sweep}
use Rattle.run_model.specs.Longest.{AllKnown}
use Rattle.run_model.proofs.Longest.{known_map}
use Rattle.run_model.specs.Demand.{NotIn, NotInLeaves, NotInSegments}

-- ---- what events learn

abbrev pub Learns : (Text → Type 0) → List Event → Type 0
Learns Q [] = Unit {0}
Learns Q (learn v a ∷ es) = Q v × Learns Q es
Learns Q (change ρ went came ∷ es) = Learns Q es

pub learns_append : (Q : Text → Type 0) (a b : List Event) → Learns Q a → Learns Q b → Learns Q (a ++ b)
learns_append Q [] b h k = k
learns_append Q (learn v x ∷ a) b h k = (h.0, learns_append Q a b h.1 k)
learns_append Q (change ρ went came ∷ a) b h k = learns_append Q a b h k

pub learns_of : (Q : Text → Type 0) (es : List Event) → ((v : Text) (a : Action) → Memᴰ (learn v a) es → Q v) → Learns Q es
learns_of Q [] h = tt
learns_of Q (learn v a ∷ es) h = (h v a (Memᴰ.head refl), learns_of Q es (λ w b m. h w b (Memᴰ.tail m)))
learns_of Q (change ρ went came ∷ es) h = learns_of Q es (λ w b m. h w b (Memᴰ.tail m))

pub known_snoc : (Q : Text → Type 0) (ks : List Known) (k : Known) → AllKnown Q ks → Q k.value → AllKnown Q (ks ++ k ∷ [])
known_snoc Q [] k h q = (q, tt)
known_snoc Q (x ∷ ks) k h q = (h.0, known_snoc Q ks k h.1 q)

-- ---- a sweep that finds nothing

cond_none : (b : Bool) (o : Option Action) → o ≡ none → cond b none o ≡ none
cond_none true o e = refl
cond_none false o e = e

find_step : (b : Bool) (o later : Option Known) → T (not b) → later ≡ none → cond b o later ≡ none
find_step true o later h e = absurd h
find_step false o later h e = e

find_none : (w : Text) (ks : List Known) → AllKnown (λ v. T (not (is_whole_word v w))) ks → longest_found ks w ≡ none
unfolding longest_found
find_none w [] h = refl
find_none w (k ∷ ks) h = find_step (is_whole_word k.value w) _ _ h.0 (find_none w ks h.1)

module _ (key : ℕ) (s : Separators) where
  -- an unnamed leaf in which the sweep finds nothing stays, and nothing is said of it
  still : (b : Bool) (g : Label) (p : Place) (t : Text) (o : Option Action) → (T b → o ≡ none)
      → (cond b (act_or key s o t) stays ≡ stays) × (cond b (changing_or key s o g p t) [] ≡ [])
  unfolding act_or changing_or
  still true g p t o h = (rw (h tt), rw (h tt))
  still false g p t o h = (refl, refl)

  still_leaf : (ks : List Known) (g : Label) (x : Leaf) (xs : List Leaf) → AllKnown (λ v. NotIn s v g x) ks
      → (unnamed_leaf key s (for_sweep s ks) g x xs ≡ x) × (unnamed_events key s (for_sweep s ks) g x xs ≡ [])
  unfolding unnamed_leaf unnamed_events for_sweep action_in after is_unnamed
  still_leaf ks g (leaf p n none) xs h = (refl, refl)
  still_leaf ks g (leaf p n (some t)) xs h =
      let e = still (is_unnamed g p n) g p t (for_sweep s ks t) (λ f. cond_none (is_empty_or_null t) _ (ap action_in (find_none _ ks (known_map _ _ ks (λ v q. q f) h)))) in
      (ap (λ (F : Effect). leaf p n (after F t)) e.0, e.1)

  still_in : (ks : List Known) (g : Label) (xs : List Leaf) → AllKnown (λ v. NotInLeaves s v g xs) ks
      → (over_leaves (unnamed_leaf key s (for_sweep s ks)) g xs ≡ xs) × (leaves_events (unnamed_events key s (for_sweep s ks)) g xs ≡ [])
  still_in ks g [] h = (refl, refl)
  still_in ks g (x ∷ xs) h =
      let e = still_leaf ks g x xs (known_map _ _ ks (λ v q. q.0) h) in
      let f = still_in ks g xs (known_map _ _ ks (λ v q. q.1) h) in
      (ap₂ (λ (y : Leaf) (ys : List Leaf). y ∷ ys) e.0 f.0, ap₂ (λ (a b : List Event). a ++ b) e.1 f.1)

  pub still_segs : (ks : List Known) (ss : List Segment) → AllKnown (λ v. NotInSegments s v ss) ks
      → (over_segments (unnamed_leaf key s (for_sweep s ks)) ss ≡ ss) × (segments_events (unnamed_events key s (for_sweep s ks)) ss ≡ [])
  still_segs ks [] h = (refl, refl)
  still_segs ks (segment g xs ∷ ss) h =
      let e = still_in ks g xs (known_map _ _ ks (λ v q. q.0) h) in
      let f = still_segs ks ss (known_map _ _ ks (λ v q. q.1) h) in
      (ap₂ (λ (l : List Leaf) (m : List Segment). segment g l ∷ m) e.0 f.0, ap₂ (λ (a b : List Event). a ++ b) e.1 f.1)

-- ---- posture and sweep learn nothing

learns_cond : (Q : Text → Type 0) (b : Bool) (a c : List Event) → Learns Q a → Learns Q c → Learns Q (cond b a c)
learns_cond Q true a c h k = h
learns_cond Q false a c h k = k

learns_changing : (Q : Text → Type 0) (ρ : Row) (went : ℕ) (F : Effect) → Learns Q (changing ρ went F)
unfolding changing
learns_changing Q ρ went stays = tt
learns_changing Q ρ went (becomes w) = tt
learns_changing Q ρ went vanishes = tt

module _ (key : ℕ) (s : Separators) (Q : Text → Type 0) (f : Text → Option Action) where
  learns_opt : (o : Option Action) (g : Label) (p : Place) (t : Text) → Learns Q (changing_or key s o g p t)
  unfolding changing_or
  learns_opt none g p t = tt
  learns_opt (some a) g p t = learns_changing Q _ _ (act key s a t)

  learns_leaf : (g : Label) (x : Leaf) (xs : List Leaf) → Learns Q (unnamed_events key s f g x xs)
  unfolding unnamed_events
  learns_leaf g (leaf p n none) xs = tt
  learns_leaf g (leaf p n (some t)) xs = learns_cond Q (is_unnamed g p n) _ _ (learns_opt (f t) g p t) tt

  learns_in : (g : Label) (xs : List Leaf) → Learns Q (leaves_events (unnamed_events key s f) g xs)
  learns_in g [] = tt
  learns_in g (x ∷ xs) = learns_append Q (unnamed_events key s f g x xs) _ (learns_leaf g x xs) (learns_in g xs)

  pub learns_segs : (ss : List Segment) → Learns Q (segments_events (unnamed_events key s f) ss)
  learns_segs [] = tt
  learns_segs (segment g xs ∷ ss) = learns_append Q (leaves_events (unnamed_events key s f) g xs) _ (learns_in g xs) (learns_segs ss)
