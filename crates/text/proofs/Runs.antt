-- Laws of runs. Assumes nothing.
use Rattle.std.proofs.Common.{◌≡◌, refl, sym, ap, ◌∙◌, subst, Bool, true, false, not, cond, [], ◌∷◌, ◌++◌, ℕ, suc, ◌+◌, ◌-◌, ◌≤◌, ◌<◌, length, take, drop, get_or, length-append, length-take, length-drop, arith, Some, None, position, unwrap_or, add-one, drop_of_length-le, take_all, take-add, drop-cons, take-suc, take-take, drop_at, get_or-drop}
use Rattle.std.specs.List.{position_or_len}
use Rattle.std.specs.Option.{is_some}
use Rattle.std.proofs.Math.Dec.{ltb}
use Rattle.std.proofs.lemmas.Bool.{ltb-false, not-true}
use Rattle.std.proofs.lemmas.List.Sums.{prefix_len-le-length}
use Rattle.std.proofs.lemmas.List.{drop-drop}
use native.Mathlib.Nat.{add-sub_cancel_left}
use Rattle.text.specs.Text.{Text, run, rest, part, between, RunEnd, RunTo, all}
use Rattle.text.proofs.Laws.{and_left, and_right, and_true, by_cond, clash}

-- the next byte of what is left
pub drop_step : (s : Text) (i : ℕ) → i < length s → drop i s ≡ get_or s i 0 ∷ drop (i + 1) s
drop_step s i h = rw (add-one, drop-cons s i 0)

-- a part of one byte more
pub part_more : (s : Text) (i n j : ℕ) → i + n ≡ j → j < length s → part s i (n + 1) ≡ part s i n ++ get_or s j 0 ∷ []
unfolding part
part_more s i n j e h =
    rw (add-one, take-suc (drop i s) n 0 (simp length-drop (omega arith)), get_or-drop i s n 0, e)

module _ (p : ℕ → Bool) (s : Text) (j : ℕ) where
  pub run_yes : j < length s → p (get_or s j 0) ≡ true → run p (drop j s) ≡ get_or s j 0 ∷ run p (drop (j + 1) s)
  unfolding run
  run_yes h e = rw (drop_step s j h, e)

  pub run_no : j < length s → p (get_or s j 0) ≡ false → run p (drop j s) ≡ []
  unfolding run
  run_no h e = rw (drop_step s j h, e)

  pub run_none : length s ≤ j → run p (drop j s) ≡ []
  unfolding run
  run_none h = rw (drop_of_length-le s h)

  pub rest_yes : j < length s → p (get_or s j 0) ≡ true → rest p (drop j s) ≡ rest p (drop (j + 1) s)
  unfolding rest
  rest_yes h e = rw (drop_step s j h, e)

  pub rest_no : j < length s → p (get_or s j 0) ≡ false → rest p (drop j s) ≡ drop j s
  unfolding rest
  rest_no h e = rw (drop_step s j h, e)

  pub rest_none : length s ≤ j → rest p (drop j s) ≡ drop j s
  unfolding rest
  rest_none h = rw (drop_of_length-le s h)

-- ---- a run up to the first byte that is not of it

one_more : (n : ℕ) → 1 + n ≡ suc n
one_more n = omega arith

module _ (p : ℕ → Bool) where
  run_front : (s : Text) → take (position_or_len (λ x. not (p x)) s) s ≡ run p s
  unfolding run
  run_front [] = refl
  run_front (x ∷ s) = go (p x) (run_front s)
    where
      go : (b : Bool) → take (position_or_len (λ x. not (p x)) s) s ≡ run p s → take (cond (not (not b)) (1 + position_or_len (λ x. not (p x)) s) 0) (x ∷ s) ≡ cond b (x ∷ run p s) []
      go true e = rw (one_more (position_or_len (λ x. not (p x)) s)) (ap (λ (t : Text). x ∷ t) e)
      go false e = refl

  rest_behind : (s : Text) → drop (position_or_len (λ x. not (p x)) s) s ≡ rest p s
  unfolding rest
  rest_behind [] = refl
  rest_behind (x ∷ s) = go (p x) (rest_behind s)
    where
      go : (b : Bool) → drop (position_or_len (λ x. not (p x)) s) s ≡ rest p s → drop (cond (not (not b)) (1 + position_or_len (λ x. not (p x)) s) 0) (x ∷ s) ≡ cond b (rest p s) (x ∷ s)
      go true e = rw (one_more (position_or_len (λ x. not (p x)) s)) e
      go false e = refl

  run_ends : {s : Text} {i : ℕ} (n : ℕ) → i ≤ length s → n ≡ position_or_len (λ x. not (p x)) (drop i s) → RunEnd p s i (i + n)
  unfolding part
  run_ends {s} {i} n h e =
      let k = prefix_len-le-length (λ x. not (not (p x))) (drop i s) in record {
        low = omega arith;
        high = omega (arith, k, e, length-drop i s);
        run_is = rw (add-sub_cancel_left i n, e) (run_front (drop i s));
        rest_is = rw (← drop-drop n i s, e) (rest_behind (drop i s));
      }

  -- what is looked at from index i on is what is left there
  left : (s : Text) (i : ℕ) → take (length s - i) (drop i s) ≡ drop i s
  left s i = take_all (length s - i) (drop i s) (omega (arith, length-drop i s))

  pub run_found : {s : Text} {i n : ℕ} → i ≤ length s → Some n ≡ position (λ x. not (p x)) (take (length s - i) (drop i s)) → RunEnd p s i (i + n)
  run_found {s} {i} {n} h e = run_ends n h (go _ (rw (left s i) at e))
    where
      go : (b : Bool) → Some n ≡ cond b (Some (position_or_len (λ x. not (p x)) (drop i s))) None → n ≡ position_or_len (λ x. not (p x)) (drop i s)
      go true f = ap (λ o. unwrap_or o 0) f
      go false f = clash (ap is_some f)

  pub run_whole : {s : Text} {i : ℕ} → i ≤ length s → None ≡ position (λ x. not (p x)) (take (length s - i) (drop i s)) → RunEnd p s i (length s)
  run_whole {s} {i} h e =
      let k = go _ refl (rw (left s i) at e) in
      let n : i + (length s - i) ≡ length s = omega arith in
      subst (RunEnd p s i) n (run_ends (length s - i) h (omega (arith, k, prefix_len-le-length (λ x. not (not (p x))) (drop i s), length-drop i s)))
    where
      go : (b : Bool) → ltb (position_or_len (λ x. not (p x)) (drop i s)) (length (drop i s)) ≡ b → None ≡ cond b (Some (position_or_len (λ x. not (p x)) (drop i s))) None
          → length (drop i s) ≤ position_or_len (λ x. not (p x)) (drop i s)
      go true q f = clash (sym (ap is_some f))
      go false q f = ltb-false _ _ q

-- ---- a run that is known

-- s is empty, or begins with a byte of which p does not hold
unfoldable pub stop : (ℕ → Bool) → Text → Bool
stop p [] = true
stop p (x ∷ s) = not (p x)

module _ (p : ℕ → Bool) where
  pub run_stop : (b : Text) → stop p b ≡ true → run p b ≡ []
  unfolding run stop
  run_stop [] h = refl
  run_stop (x ∷ b) h = rw (not-true (p x) h)

  pub rest_stop : (b : Text) → stop p b ≡ true → rest p b ≡ b
  unfolding rest stop
  rest_stop [] h = refl
  rest_stop (x ∷ b) h = rw (not-true (p x) h)

  pub run_all : (a b : Text) → all p a ≡ true → stop p b ≡ true → run p (a ++ b) ≡ a
  unfolding run all
  run_all [] b h k = run_stop b k
  run_all (x ∷ a) b h k = rw (and_left (p x) (all p a) h) (ap (λ (l : Text). x ∷ l) (run_all a b (and_right (p x) (all p a) h) k))

  pub rest_all : (a b : Text) → all p a ≡ true → stop p b ≡ true → rest p (a ++ b) ≡ b
  unfolding rest all
  rest_all [] b h k = rest_stop b k
  rest_all (x ∷ a) b h k = rw (and_left (p x) (all p a) h) (rest_all a b (and_right (p x) (all p a) h) k)

  pub all_append : (a b : Text) → all p a ≡ true → all p b ≡ true → all p (a ++ b) ≡ true
  unfolding all
  all_append [] b h k = k
  all_append (x ∷ a) b h k = and_true (p x) (all p (a ++ b)) (and_left (p x) (all p a) h) (all_append a b (and_right (p x) (all p a) h) k)

-- the slice from index i to index i + n
pub part_slice : (s : Text) (i n : ℕ) → take (i + n - i) (drop i s) ≡ part s i n
unfolding part
part_slice s i n = rw (add-sub_cancel_left i n)

-- the two parts of a text, and what holds of them
module _ (p : ℕ → Bool) where
  pub run_rest : (s : Text) → run p s ++ rest p s ≡ s
  unfolding run rest
  run_rest [] = refl
  run_rest (x ∷ s) = go (p x) refl (run_rest s)
    where
      go : (b : Bool) → p x ≡ b → run p s ++ rest p s ≡ s → run p (x ∷ s) ++ rest p (x ∷ s) ≡ x ∷ s
      go true e ih = rw e (ap (λ (l : Text). x ∷ l) ih)
      go false e ih = rw e

  pub all_run : (s : Text) → all p (run p s) ≡ true
  unfolding run all
  all_run [] = refl
  all_run (x ∷ s) = by_cond (λ (t : Text). all p t ≡ true) (p x) (x ∷ run p s) [] (λ e. and_true (p x) _ e (all_run s)) (λ e. refl)

  pub stop_rest : (s : Text) → stop p (rest p s) ≡ true
  unfolding rest stop
  stop_rest [] = refl
  stop_rest (x ∷ s) = by_cond (λ (t : Text). stop p t ≡ true) (p x) (rest p s) (x ∷ s) (λ e. stop_rest s) (λ e. rw e)

  pub run_rest_length : (s : Text) → length (run p s) + length (rest p s) ≡ length s
  run_rest_length s = sym (length-append (run p s) (rest p s)) ∙ ap length (run_rest s)

-- what stands behind its first run
pub drop_run : (p : ℕ → Bool) (s : Text) → drop (length (run p s)) s ≡ rest p s
drop_run p s = ap (drop (length (run p s))) (sym (run_rest p s)) ∙ drop_at (run p s) (rest p s) (length (run p s)) refl

-- the slice from index i to the end
pub drop_slice : (s : Text) (i : ℕ) → take (length s - i) (drop i s) ≡ drop i s
drop_slice s i = take_all (length s - i) (drop i s) (simp length-drop (omega arith))

-- where s stands in t from index i on, what is left of s behind k bytes stands from index i + k on
pub part_behind : (t s : Text) (i k : ℕ) → part t i (length s) ≡ s → k ≤ length s → part t (i + k) (length s - k) ≡ drop k s
unfolding part
part_behind t s i k e h =
    let n : length s ≡ k + (length s - k) = omega arith in
    let l : length (take (length s) (drop i t)) ≡ length s = ap length e in
    let f : take k (drop i t) ++ take (length s - k) (drop k (drop i t)) ≡ s = sym (take-add k (length s - k) (drop i t)) ∙ rw (← n) e in
    let m : length (take k (drop i t)) ≡ k = simp length-take (omega (arith, simp length-take at l)) in
    rw (← drop-drop k i t) (sym (drop_at (take k (drop i t)) (take (length s - k) (drop k (drop i t))) k m) ∙ ap (drop k) f)

-- ---- the text between two indices

pub between_length : (s : Text) (i e : ℕ) → e ≤ length s → length (between s i e) ≡ e - i
unfolding between
between_length s i e h = simp length-take (simp length-drop (omega arith))

-- what is left of it behind k bytes
pub between_behind : (s : Text) (i e k : ℕ) → i + k ≤ e → e ≤ length s → between s (i + k) e ≡ drop k (between s i e)
unfolding between
between_behind s i e k h l =
    let n : e - i ≡ k + (e - (i + k)) = omega arith in
    let m : length (take k (drop i s)) ≡ k = simp length-take (simp length-drop (omega arith)) in
    rw (n, take-add k (e - (i + k)) (drop i s), drop_at (take k (drop i s)) (take (e - (i + k)) (drop k (drop i s))) k m, drop-drop k i s)

-- its first k bytes
between_front : (s : Text) (i e k : ℕ) → k ≤ e - i → between s i (i + k) ≡ part (between s i e) 0 (k - 0)
unfolding between part
between_front s i e k h = let z : k - 0 ≡ k = omega arith in rw (add-sub_cancel_left i k, z) (sym (take-take k (e - i) (drop i s) h))

-- a run in it, from its front on
pub run_between : (p : ℕ → Bool) (s : Text) (i e r : ℕ) → i ≤ e → e ≤ length s → RunEnd p (between s i e) 0 r → RunTo p s i e (i + r)
run_between p s i e r h l g =
    let n = between_length s i e l in
    let b : r ≤ e - i = omega (arith, g.high) in
    record {
      low = omega arith;
      high = omega arith;
      run_is = between_front s i e r b ∙ g.run_is;
      rest_is = between_behind s i e r (omega arith) l ∙ g.rest_is;
    }
