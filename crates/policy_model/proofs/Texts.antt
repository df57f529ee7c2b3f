-- Laws of texts: a test of every byte, and how a text begins and ends. Assumes nothing.
use mathlib.Core.Path.{◌≡◌, refl, ap}
use mathlib.Core.Bool.{Bool, true, false, not}
use mathlib.Core.List.{List, [], ◌∷◌, ◌++◌}
use Prim.Native.Nat.{ℕ, zero, suc, ◌+◌, ◌≤◌}
use native.Mathlib.Omega.{arith}
use borrow.Author.Tests.{not-true, not-false}
use lib.ListN.{length, replicate}
use Rattle.text.specs.Text.{Text, is_blank, not_blank, is_empty, run, rest, all}
use Rattle.text.proofs.Laws.{and_left, and_right, and_true, by_cond, clash}
use Rattle.text.proofs.Runs.{stop, run_rest, run_rest_length, stop_rest}
use Rattle.text.specs.Characters.{prepend, trim_end}
use Rattle.policy_model.specs.Policy.{}

-- P holds of every element
pub data Every {X : Type 0} (P : X → Type 0) : List X → Type 0 where
  none_left : Every P []
  one_more : {x : X} {xs : List X} → P x → Every P xs → Every P (x ∷ xs)

pub every_append : {X : Type 0} {P : X → Type 0} (a b : List X) → Every P a → Every P b → Every P (a ++ b)
every_append [] b none_left h = h
every_append (x ∷ a) b (one_more g gs) h = one_more g (every_append a b gs h)

-- ---- a test of every byte

module _ (p : ℕ → Bool) where
  pub run_whole : (s : Text) → all p s ≡ true → run p s ≡ s
  unfolding run all
  run_whole [] h = refl
  run_whole (x ∷ s) h = rw (and_left (p x) (all p s) h) (ap (λ (t : Text). x ∷ t) (run_whole s (and_right (p x) (all p s) h)))

  pub all_replicate : (n x : ℕ) → p x ≡ true → all p (replicate n x) ≡ true
  unfolding all
  all_replicate zero x h = refl
  all_replicate (suc n) x h = and_true (p x) _ h (all_replicate n x h)

  pub all_rest : (q : ℕ → Bool) (s : Text) → all p s ≡ true → all p (rest q s) ≡ true
  unfolding all rest
  all_rest q [] h = refl
  all_rest q (x ∷ s) h = by_cond (λ (t : Text). all p t ≡ true) (q x) (rest q s) (x ∷ s) (λ e. all_rest q s (and_right (p x) (all p s) h)) (λ e. h)

  pub all_trim : (s : Text) → all p s ≡ true → all p (trim_end s) ≡ true
  unfolding all trim_end
  all_trim [] h = refl
  all_trim (x ∷ s) h = go (trim_end s) (all_trim s (and_right (p x) (all p s) h))
    where
      go : (t : Text) → all p t ≡ true → all p (prepend x t) ≡ true
      go [] k = unfold prepend in by_cond (λ (t : Text). all p t ≡ true) (is_blank x) [] (x ∷ []) (λ e. refl)
          (λ e. and_true (p x) true (and_left (p x) (all p s) h) refl)
      go (y ∷ t) k = unfold prepend in and_true (p x) (all p (y ∷ t)) (and_left (p x) (all p s) h) k

pub all_implies : (p q : ℕ → Bool) → ((x : ℕ) → p x ≡ true → q x ≡ true) → (s : Text) → all p s ≡ true → all q s ≡ true
unfolding all
all_implies p q f [] h = refl
all_implies p q f (x ∷ s) h = and_true (q x) (all q s) (f x (and_left (p x) (all p s) h)) (all_implies p q f s (and_right (p x) (all p s) h))

-- in a run of q, where p holds of every byte of the text
pub run_both : (p q r : ℕ → Bool) → ((x : ℕ) → p x ≡ true → q x ≡ true → r x ≡ true) → (s : Text) → all p s ≡ true → all r (run q s) ≡ true
unfolding all run
run_both p q r f [] h = refl
run_both p q r f (x ∷ s) h = by_cond (λ (t : Text). all r t ≡ true) (q x) (x ∷ run q s) []
    (λ e. and_true (r x) _ (f x (and_left (p x) (all p s) h) e) (run_both p q r f s (and_right (p x) (all p s) h)))
    (λ e. refl)

-- ---- how a text begins

pub full_append : (a b : Text) → is_empty a ≡ false → is_empty (a ++ b) ≡ false
unfolding is_empty
full_append [] b h = clash h
full_append (x ∷ a) b h = refl

pub stop_append : (p : ℕ → Bool) (a b : Text) → is_empty a ≡ false → stop p a ≡ true → stop p (a ++ b) ≡ true
unfolding stop is_empty
stop_append p [] b n h = clash n
stop_append p (x ∷ a) b n h = h

-- ---- how a text ends

-- the last byte is no blank
unfoldable pub ends : Text → Bool
ends [] = true
ends (x ∷ []) = not (is_blank x)
ends (x ∷ y ∷ s) = ends (y ∷ s)

pub trim_end_lem : (s : Text) → ends s ≡ true → trim_end s ≡ s
unfolding ends trim_end prepend
trim_end_lem [] h = refl
trim_end_lem (x ∷ []) h = rw (not-true (is_blank x) h)
trim_end_lem (x ∷ y ∷ s) h = ap (prepend x) (trim_end_lem (y ∷ s) h)

pub ends_append : (a s : Text) → is_empty s ≡ false → ends s ≡ true → ends (a ++ s) ≡ true
unfolding ends is_empty
ends_append [] s n h = h
ends_append (x ∷ []) [] n h = clash n
ends_append (x ∷ []) (y ∷ s) n h = h
ends_append (x ∷ y ∷ a) s n h = ends_append (y ∷ a) s n h

pub ends_trim : (s : Text) → ends (trim_end s) ≡ true
unfolding trim_end ends
ends_trim [] = refl
ends_trim (x ∷ s) = go (trim_end s) (ends_trim s)
  where
    go : (t : Text) → ends t ≡ true → ends (prepend x t) ≡ true
    go [] k = unfold prepend in by_cond (λ (t : Text). ends t ≡ true) (is_blank x) [] (x ∷ []) (λ e. refl) (λ e. rw e)
    go (y ∷ t) k = unfold prepend in k

pub stop_trim : (s : Text) → stop is_blank s ≡ true → stop is_blank (trim_end s) ≡ true
unfolding trim_end stop
stop_trim [] h = refl
stop_trim (x ∷ s) h = go (trim_end s)
  where
    go : (t : Text) → stop is_blank (prepend x t) ≡ true
    go [] = unfold prepend in by_cond (λ (t : Text). stop is_blank t ≡ true) (is_blank x) [] (x ∷ []) (λ e. refl) (λ e. h)
    go (y ∷ t) = unfold prepend in h

ends_part : (a t : Text) → ends (a ++ t) ≡ true → ends t ≡ true
unfolding ends
ends_part [] t h = h
ends_part (x ∷ []) [] h = refl
ends_part (x ∷ []) (y ∷ t) h = h
ends_part (x ∷ y ∷ a) t h = ends_part (y ∷ a) t h

pub ends_rest : (q : ℕ → Bool) (s : Text) → ends s ≡ true → ends (rest q s) ≡ true
ends_rest q s h = ends_part (run q s) (rest q s) (rw (run_rest q s) h)

-- between the first word and a rest stands a blank
pub blank_between : (s : Text) → is_empty (rest is_blank (rest not_blank s)) ≡ false → length (run not_blank s) + suc (length (rest is_blank (rest not_blank s))) ≤ length s
blank_between s n = omega (arith, run_rest_length not_blank s, go (rest not_blank s) (stop_rest not_blank s) n)
  where
    go : (t : Text) → stop not_blank t ≡ true → is_empty (rest is_blank t) ≡ false → suc (length (rest is_blank t)) ≤ length t
    go [] h n = unfold rest is_empty in clash n
    go (x ∷ t) h n = unfold stop rest not_blank in rw (not-false (is_blank x) (not-true (not (is_blank x)) h)) (omega (arith, run_rest_length is_blank t))
