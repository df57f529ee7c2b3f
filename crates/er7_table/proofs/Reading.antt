-- Reading a text's leaves. Assumes nothing.
use Rattle.std.proofs.Common.{◌≡◌, refl, sym, ap, ap₂, ◌∙◌, Bool, true, false, not, List, [], ◌∷◌, ◌++◌, ℕ, suc, ◌+◌, ◌-◌, ◌≤◌, ◌<◌, length, take, drop, get_or, eqb, Ok, Err, arith, one-add, append-nil, append_assoc, length-append, length-drop, length-take-le, drop-drop, drop_of_length-le, get_or-drop}
use Rattle.std.specs.List.{position_or_len}
use Rattle.std.specs.declared.result.Result.{Result}
use Rattle.std.proofs.lemmas.List.Sums.{prefix_len-le-length, passes_at_first}
use Rattle.std.proofs.Math.Option.{some}
use mathlib.Core.Logic.{dite}
use native.Mathlib.Decide.{ℕ_discrete}
use lib.Seq.{append_snoc}
use Rattle.text.specs.Text.{Text, part}
use Rattle.text.proofs.Kept.{part_take}
use Rattle.text.proofs.Laws.{by_cond}
use Rattle.text.proofs.Runs.{drop_step}
use Rattle.refusal.specs.Limits.{LEAVES_MAX}
use Rattle.refusal.specs.declared.Refusal.{Refusal}
use Rattle.refusal.specs.declared.Refusal.TheVariants.{TooMany}
use Rattle.er7.specs.declared.message.Place.{Place}
use Rattle.er7.specs.declared.separators.Separators.{Separators}
use Rattle.message_model.specs.Message.{Leaf, leaf, ends_leaf, next, leaves}
use Rattle.er7_table.specs.declared.table.Leaf.{Leaf as HeldLeaf}
use Rattle.er7_table.specs.Table.{list_of, leaf_row, place_at, stored_text, leaf_at, leaves_from, Within}
use Rattle.er7_table.specs.Filling.{LeafEnd, LeafPut, LeafRoom, LeavesRead}
use Rattle.er7_table.proofs.Laws.{list_snoc, list_ext, list_length, leaves_kept, place_kept}

-- ---- the numbers of a place

pub within_more : (p : Place) (i j : ℕ) → i ≤ j → Within p i → Within p j
within_more p i j h u = record {
  field = omega (arith, u.field);
  repetition = omega (arith, u.repetition);
  component = omega (arith, u.component);
  subcomponent = omega (arith, u.subcomponent);
  first_repetition = u.first_repetition;
  first_component = u.first_component;
  first_subcomponent = u.first_subcomponent;
}

-- the numbers of the next place are at most one more
pub within_next : (s : Separators) (x : ℕ) (p : Place) (i : ℕ) → Within p i → Within (next s x p) (i + 1)
unfolding next
within_next s x p i u =
    by_cond (λ (q : Place). Within q (i + 1)) (eqb x s.field) _ _ (λ _. record {
      field = omega (arith, u.field);
      repetition = omega arith;
      component = omega arith;
      subcomponent = omega arith;
      first_repetition = omega arith;
      first_component = omega arith;
      first_subcomponent = omega arith;
    }) (λ _.
    by_cond (λ (q : Place). Within q (i + 1)) (eqb x s.repetition) _ _ (λ _. record {
      field = omega (arith, u.field);
      repetition = omega (arith, u.repetition);
      component = omega arith;
      subcomponent = omega arith;
      first_repetition = omega arith;
      first_component = omega arith;
      first_subcomponent = omega arith;
    }) (λ _.
    by_cond (λ (q : Place). Within q (i + 1)) (eqb x s.component) _ _ (λ _. record {
      field = omega (arith, u.field);
      repetition = omega (arith, u.repetition);
      component = omega (arith, u.component);
      subcomponent = omega arith;
      first_repetition = u.first_repetition;
      first_component = omega arith;
      first_subcomponent = omega arith;
    }) (λ _. record {
      field = omega (arith, u.field);
      repetition = omega (arith, u.repetition);
      component = omega (arith, u.component);
      subcomponent = omega (arith, u.subcomponent);
      first_repetition = u.first_repetition;
      first_component = u.first_component;
      first_subcomponent = omega arith;
    })))

-- ---- `leaves`, one byte or one leaf on
module _ (s : Separators) (t : Text) where
  -- no delimiter at i
  leaves_more : (p : Place) (w : Text) (i : ℕ) → i < length t → ends_leaf s (get_or t i 0) ≡ false
      → leaves s p w (drop i t) ≡ leaves s p (w ++ get_or t i 0 ∷ []) (drop (i + 1) t)
  unfolding leaves
  leaves_more p w i h e = rw (drop_step t i h, e)

  -- a delimiter at i
  leaves_next : (p : Place) (w : Text) (i : ℕ) → i < length t → ends_leaf s (get_or t i 0) ≡ true
      → leaves s p w (drop i t) ≡ leaf p false (some w) ∷ leaves s (next s (get_or t i 0) p) [] (drop (i + 1) t)
  unfolding leaves
  leaves_next p w i h e = rw (drop_step t i h, e)

  leaves_end : (p : Place) (w : Text) (i : ℕ) → length t ≤ i → leaves s p w (drop i t) ≡ leaf p false (some w) ∷ []
  unfolding leaves
  leaves_end p w i h = rw (drop_of_length-le t {i = i} h)

leaves_some : (s : Separators) (t w : Text) (p : Place) → 1 ≤ length (leaves s p w t)
unfolding leaves
leaves_some s [] w p = omega arith
leaves_some s (x ∷ t) w p =
    by_cond (λ (xs : List Leaf). 1 ≤ length xs) (ends_leaf s x) _ _ (λ _. omega arith) (λ _. leaves_some s t (w ++ x ∷ []) p)

-- ---- one leaf: the bytes before the first delimiter

leaves_front : (s : Separators) (p : Place) (w t : Text)
    → leaves s p w t ≡ leaves s p (w ++ take (position_or_len (ends_leaf s) t) t) (drop (position_or_len (ends_leaf s) t) t)
unfolding leaves
leaves_front s p w [] = rw append-nil
leaves_front s p w (x ∷ t) = go (ends_leaf s x) refl (leaves_front s p (w ++ x ∷ []) t)
  where
    go : (b : Bool) → ends_leaf s x ≡ b
        → leaves s p (w ++ x ∷ []) t ≡ leaves s p (w ++ x ∷ [] ++ take (position_or_len (ends_leaf s) t) t) (drop (position_or_len (ends_leaf s) t) t)
        → leaves s p w (x ∷ t) ≡ leaves s p (w ++ take (position_or_len (ends_leaf s) (x ∷ t)) (x ∷ t)) (drop (position_or_len (ends_leaf s) (x ∷ t)) (x ∷ t))
    go true e more = rw (e, append-nil, e)
    go false e more = rw (e, one-add) (more ∙ rw append_assoc)

pub leaf_ends : (s : Separators) (t : Text) (i n : ℕ) → i ≤ length t → n ≡ position_or_len (ends_leaf s) (drop i t) → LeafEnd s t i (i + n)
unfolding part
leaf_ends s t i n h e =
    let z : i + n - i ≡ n = omega arith in
    let most : n ≤ length t - i = rw e (rw length-drop at (prefix_len-le-length (λ b. not (ends_leaf s b)) (drop i t))) in
    record {
      low = omega arith;
      high = omega (arith, most);
      runs = λ p. rw (z, ← drop-drop n i t) (rw e (leaves_front s p [] (drop i t)));
      stops = λ l.
          let inside : position_or_len (ends_leaf s) (drop i t) < length (drop i t) = rw (length-drop, ← e) (omega arith) in
          rw (e, ← get_or-drop i t (position_or_len (ends_leaf s) (drop i t)) 0) (passes_at_first (ends_leaf s) (drop i t) 0 inside);
    }

-- ---- the leaves from index `from` on, of which the rows n₀ to before n are read; the next one begins at index i and stands at p
pub record Going (s : Separators) (t : Text) (from : ℕ) (p₀ : Place) (n₀ : ℕ) (held₀ : List HeldLeaf) (i n : ℕ) (p : Place) (held : List HeldLeaf) : Type 0 where
  pub low : n₀ ≤ n
  pub high : n ≤ LEAVES_MAX
  pub inside : i ≤ length t
  pub ahead : n < i
  pub small : Within p i
  pub whole : leaves s p₀ [] (drop from t) ≡ leaves_from (λ i. false) held t n₀ (n - n₀) ++ leaves s p [] (drop i t)
  pub ends : (j : ℕ) → n₀ ≤ j → j < n → (leaf_row held j).start + (leaf_row held j).len ≤ length t
  pub within : (j : ℕ) → n₀ ≤ j → j < n → Within (place_at held j) (length t)
  pub before : (j : ℕ) → j < n₀ → leaf_row held j ≡ leaf_row held₀ j
  pub long : length held ≡ length held₀

module _ (s : Separators) (t : Text) (from : ℕ) (p₀ : Place) (n₀ : ℕ) (held₀ : List HeldLeaf) where
  pub going_start : from ≤ length t → n₀ ≤ LEAVES_MAX → n₀ < from → Within p₀ from → Going s t from p₀ n₀ held₀ from n₀ p₀ held₀
  unfolding leaves_from list_of
  going_start h k a u =
      let z : n₀ - n₀ ≡ 0 = omega arith in record {
        low = omega arith;
        high = k;
        inside = h;
        ahead = a;
        small = u;
        whole = rw z;
        ends = λ j a b. absurd (omega arith);
        within = λ j a b. absurd (omega arith);
        before = λ _ _. refl;
        long = refl;
      }

module _ {s : Separators} {t : Text} {from : ℕ} {p₀ : Place} {n₀ : ℕ} {held₀ : List HeldLeaf} {i n : ℕ} {p : Place} {held : List HeldLeaf} (go : Going s t from p₀ n₀ held₀ i n p held) where
  pub going_full : LEAVES_MAX ≤ n → LeavesRead (leaves s p₀ [] (drop from t)) t (length t) n₀ held₀ held (Err TooMany)
  unfolding leaves_from
  going_full e = record {
    fitted = tt;
    few = tt;
    most = tt;
    too_many = (refl, rw (go.whole, length-append, list_length) (omega (arith, leaves_some s (drop i t) [] p, go.low)));
    before = go.before;
  }

  -- there is a row for the next leaf
  pub going_room : LeafRoom held₀ (length t) → n < LEAVES_MAX → n < length held
  going_room h m = rw go.long (h.room n m (omega (arith, go.ahead, go.inside)))

  module _ {e : ℕ} {held' : List HeldLeaf} (end : LeafEnd s t i e) (put : LeafPut held n p i (e - i) held') where
    -- a row that was read before
    kept : (j : ℕ) → j < n → leaf_row held' j ≡ leaf_row held j
    kept j h = put.other j (λ q. absurd (omega arith))

    -- one row more
    rows_more : leaves_from (λ i. false) held' t n₀ (n + 1 - n₀) ≡ leaves_from (λ i. false) held t n₀ (n - n₀) ++ leaf p false (some (part t i (e - i))) ∷ []
    rows_more =
        let z : n + 1 - n₀ ≡ suc (n - n₀) = omega (arith, go.low) in
        let y : n₀ + (n - n₀) ≡ n = omega (arith, go.low) in
        rw z (snoc (n - n₀)
        ∙ ap₂ (λ (xs : List Leaf) (x : Leaf). xs ++ x ∷ []) (leaves_kept held held' (λ i. false) t n₀ (n - n₀) (λ j l. kept j (omega arith))) (rw y (put.here (λ i. false) t)))
      where
        snoc : (m : ℕ) → leaves_from (λ i. false) held' t n₀ (suc m) ≡ leaves_from (λ i. false) held' t n₀ m ++ leaf_at (λ i. false) held' t (n₀ + m) ∷ []
        snoc m = unfold leaves_from in list_snoc (leaf_at (λ i. false) held' t) n₀ m

    ends_more : (j : ℕ) → n₀ ≤ j → j < n + 1 → (leaf_row held' j).start + (leaf_row held' j).len ≤ length t
    ends_more j a c = dite (ℕ_discrete j n)
        (λ q. rw (q, put.begins, put.long) (omega (arith, end.low, end.high)))
        (λ ne. rw (kept j (omega arith)) (go.ends j a (omega arith)))

    within_rows : (j : ℕ) → n₀ ≤ j → j < n + 1 → Within (place_at held' j) (length t)
    within_rows j a c = dite (ℕ_discrete j n)
        (λ q. rw (q, put.place) (within_more p i (length t) go.inside go.small))
        (λ ne. rw (place_kept held held' j (kept j (omega arith))) (go.within j a (omega arith)))

    before_more : (j : ℕ) → j < n₀ → leaf_row held' j ≡ leaf_row held₀ j
    before_more j c = kept j (omega (arith, go.low)) ∙ go.before j c

    pub going_last : n < LEAVES_MAX → e ≡ length t → LeavesRead (leaves s p₀ [] (drop from t)) t (length t) n₀ held₀ held' (Ok (n + 1))
    unfolding leaves_from
    going_last m q =
        let all : leaves s p₀ [] (drop from t) ≡ leaves_from (λ i. false) held' t n₀ (n + 1 - n₀) =
        go.whole ∙ ap (λ (z : List Leaf). leaves_from (λ i. false) held t n₀ (n - n₀) ++ z) (end.runs p ∙ leaves_end s t p _ e (omega arith)) ∙ sym rows_more in
        record {
          fitted = record {
            count = rw (all, list_length) (omega (arith, go.low));
            are = sym all;
            ends = ends_more;
            within = within_rows;
          };
          few = omega (arith, go.ahead, go.inside);
          most = omega arith;
          too_many = tt;
          before = before_more;
        }

    pub going_next : n < LEAVES_MAX → e < length t → {p' : Place} → p' ≡ next s (get_or t e 0) p → Going s t from p₀ n₀ held₀ (e + 1) (n + 1) p' held'
    going_next m q {p'} np = record {
      low = omega (arith, go.low);
      high = omega arith;
      inside = omega arith;
      ahead = omega (arith, go.ahead, end.low);
      small = rw np (within_more _ (i + 1) (e + 1) (omega (arith, end.low)) (within_next s (get_or t e 0) p i go.small));
      whole = go.whole ∙ ap (λ (z : List Leaf). leaves_from (λ i. false) held t n₀ (n - n₀) ++ z) (end.runs p ∙ leaves_next s t p _ e q (end.stops q))
          ∙ rw (np, rows_more) (sym (append_snoc (leaves_from (λ i. false) held t n₀ (n - n₀)) (leaf p false (some (part t i (e - i)))) (leaves s (next s (get_or t e 0) p) [] (drop (e + 1) t))));
      ends = ends_more;
      within = within_rows;
      before = before_more;
      long = put.rows ∙ go.long;
    }

-- what was read from the front of a text stands in the text
pub read_front : {xs : List Leaf} {t : Text} {e n : ℕ} {held held' : List HeldLeaf} (r : Result ℕ Refusal) → e ≤ length t → LeavesRead xs (take e t) (length (take e t)) n held held' r → LeavesRead xs t e n held held' r
unfolding leaves_from leaf_at stored_text
read_front {xs} {t} {e} {n} {held} {held'} (Ok m) l g =
    let len : length (take e t) ≡ e = length-take-le e t l in
    record {
      fitted = record {
        count = g.fitted.count;
        are = list_ext (leaf_at (λ i. false) held' t) (leaf_at (λ i. false) held' (take e t)) n (m - n) (λ i a b.
            rw (part_take t e (leaf_row held' i).start (leaf_row held' i).len (omega (arith, g.fitted.ends i a (omega arith), len)))) ∙ g.fitted.are;
        ends = λ i a b. omega (arith, g.fitted.ends i a b, len);
        within = λ i a b. within_more (place_at held' i) (length (take e t)) (length t) (omega (arith, len)) (g.fitted.within i a b);
      };
      few = omega (arith, g.few, len);
      most = g.most;
      too_many = tt;
      before = g.before;
    }
read_front (Err f) l g = record { fitted = tt; few = tt; most = tt; too_many = g.too_many; before = g.before }
