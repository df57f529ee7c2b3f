-- Laws of learning a value, and of the sweep's choice. Assumes nothing.
use Rattle.std.proofs.Common.{◌≡◌, refl, sym, ap, ap₂, ◌∙◌, Bool, true, false, ◌||◌, List, [], ◌∷◌, ◌++◌, ℕ, zero, suc, ◌+◌, ◌-◌, ◌≤◌, ◌<◌, leb, ltb, length, set, Some, None, Result, Ok, Err}
use Rattle.std.proofs.Common.{arith, get_or-set_same, get_or-set_other, add-zero, lt-ltb, le-ltb, leb-false, ltb-true, ltb-false}
use Rattle.std.proofs.Common.{Option as Maybe}
use Rattle.std.proofs.Math.Option.{Option, none}
use native.Mathlib.Nat.{sub-zero}
use Rattle.text.specs.Text.{Text, lower, part, between, Wrote, SameTo}
use Rattle.text.proofs.Kept.{same_all, same_then, part_same, wrote_same, wrote_between}
use Rattle.text.proofs.Laws.{split, or_true, by_cond}
use Rattle.text.proofs.Runs.{between_length}
use Rattle.text.proofs.Words.{lower_length}
use Rattle.er7.specs.declared.separators.Separators.{Separators}
use Rattle.er7_redact.specs.declared.action.Action.{Action as HeldAction}
use Rattle.er7_redact.specs.Action.{Action, as_action, ActionHeld, is_keep}
use Rattle.message_model.specs.Value.{is_empty_or_null, value}
use Rattle.er7_value.proofs.Decoding.{long_full, value_length}
use Rattle.er7_value.proofs.Hits.{word_short}
use Rattle.run_model.specs.Redact.{Known, knows, known_bytes, Event, learning, after_event, after_events, longest_found, action_in, for_sweep}
use Rattle.refusal.specs.declared.Refusal.{Refusal}
use Rattle.refusal.specs.declared.Refusal.TheVariants.{TooMuchLearnt}
use Rattle.redact_5_act.specs.declared.known.Known.{Known as HeldKnown}
use Rattle.redact_5_act.specs.Known.{row, value_of, value_at, hash_of, action_at, known_at, known_from, GoodKnown, ActionsHeld, progress_of, learn_value, learn_leaf, Learns, swept_in, FoundOr, Swept}
use Rattle.redact_5_act.specs.Inner.{RowFound}
use Rattle.redact_5_act.proofs.Knowing.{known_length}
use Rattle.refusal.specs.Limits.{LEARNT_BYTES_MAX, LEARNT_MAX}

-- ---- tests

or_left : (x y : Bool) → (x || y) ≡ false → x ≡ false
or_left false y e = refl
or_left true y e = e

or_right : (x y : Bool) → (x || y) ≡ false → y ≡ false
or_right false y e = e
or_right true false e = refl
or_right true true e = e

pub not_many : (n m : ℕ) → (leb LEARNT_MAX n || ltb LEARNT_BYTES_MAX m) ≡ false → n < LEARNT_MAX
not_many n m e = leb-false LEARNT_MAX n (or_left (leb LEARNT_MAX n) (ltb LEARNT_BYTES_MAX m) e)

pub not_much : (n m : ℕ) → (leb LEARNT_MAX n || ltb LEARNT_BYTES_MAX m) ≡ false → m ≤ LEARNT_BYTES_MAX
not_much n m e = ltb-false LEARNT_BYTES_MAX m (or_right (leb LEARNT_MAX n) (ltb LEARNT_BYTES_MAX m) e)

-- ---- lists of rows

known_ext : (t b b' : Text) (k k' : List HeldKnown) (i n : ℕ) → ((j : ℕ) → j < i + n → known_at t b k j ≡ known_at t b' k' j) → known_from t b k i n ≡ known_from t b' k' i n
unfolding known_from
known_ext t b b' k k' i zero h = refl
known_ext t b b' k k' i (suc n) h = ap₂ ◌∷◌ (h i (omega arith)) (known_ext t b b' k k' (i + 1) n (λ j l. h j (omega arith)))

known_snoc : (t b : Text) (k : List HeldKnown) (i n : ℕ) → known_from t b k i (suc n) ≡ known_from t b k i n ++ (known_at t b k (i + n) ∷ [])
unfolding known_from
known_snoc t b k i zero = rw (add-zero i)
known_snoc t b k i (suc n) =
    let e : i + suc n ≡ i + 1 + n = omega arith in
    rw e (ap (◌∷◌ (known_at t b k i)) (known_snoc t b k (i + 1) n))

bytes_snoc : (ks : List Known) (x : Known) → known_bytes (ks ++ (x ∷ [])) ≡ known_bytes ks + length x.value
unfolding known_bytes
bytes_snoc [] x = omega arith
bytes_snoc (y ∷ ks) x = omega (arith, bytes_snoc ks x)

-- the bytes of values are the same, wherever the replacements stand
bytes_any : (t u b : Text) (k : List HeldKnown) (i n : ℕ) → known_bytes (known_from t b k i n) ≡ known_bytes (known_from u b k i n)
unfolding known_bytes known_from known_at
bytes_any t u b k i zero = refl
bytes_any t u b k i (suc n) = ap (◌+◌ (length (value_at b k i))) (bytes_any t u b k (i + 1) n)

-- ---- bytes that change behind those of the values

module _ {b b' : Text} {k : List HeldKnown} {n used : ℕ} (g : GoodKnown b k n used) (w : SameTo used b b') where
  value_same : (i : ℕ) → i < n → value_at b' k i ≡ value_at b k i
  unfolding value_of
  value_same i h = part_same w (row k i).start (row k i).len (g.slots i h).0

  pub known_same : (t : Text) → known_from t b k 0 n ≡ known_from t b' k 0 n
  unfolding known_at
  known_same t = known_ext t b b' k k 0 n (λ i h. rw (value_same i (omega arith)))

  pub good_same : GoodKnown b' k n used
  good_same = record {
    few = g.few;
    within = g.within;
    slots = λ i h. ((g.slots i h).0, rw (value_same i h) (g.slots i h).1);
    hashes = λ i h. g.hashes i h ∙ ap hash_of (sym (value_same i h));
    sum = g.sum ∙ ap known_bytes (known_same []);
  }

-- ---- a row for the value that stands behind the others

module _ (a : HeldAction) {b : Text} {k : List HeldKnown} {n used e v : ℕ} (g : GoodKnown b k n used) (r : used + 3 ≤ e) (l : e ≤ length b)
    (q : v ≡ hash_of (between b used e)) (m : n < length k) where
  abbrev pub new_row : HeldKnown
  new_row = record { hash = v; start = used; len = e - used; action = a }

  abbrev pub with_new : List HeldKnown
  with_new = set k n new_row

  row_kept : (i : ℕ) → i < n → row with_new i ≡ row k i
  row_kept i h = get_or-set_other k n i new_row _ (omega arith)

  row_new : row with_new n ≡ new_row
  row_new = get_or-set_same k n new_row _ m

  action_kept : (i : ℕ) → i < n → action_at with_new i ≡ action_at k i
  action_kept i h = ap (λ (x : HeldKnown). x.action) (row_kept i h)

  action_new : action_at with_new n ≡ a
  action_new = ap (λ (x : HeldKnown). x.action) row_new

  value_new : value_of b new_row ≡ between b used e
  unfolding value_of part between
  value_new = refl

  abbrev new : Text → Known
  new t = record { value = between b used e; action = as_action t a }

  known_new : (t : Text) → known_at t b with_new (0 + n) ≡ new t
  unfolding known_at
  known_new t = let z : 0 + n ≡ n = omega arith in rw (z, action_new, row_new, value_new)

  known_kept : (t : Text) (i : ℕ) → i < n → known_at t b with_new i ≡ known_at t b k i
  unfolding known_at
  known_kept t i h = rw (action_kept i h, row_kept i h)

  list_more : (t : Text) → known_from t b with_new 0 (n + 1) ≡ known_from t b k 0 n ++ (new t ∷ [])
  list_more t =
      let z : n + 1 ≡ suc n = omega arith in
      rw z (known_snoc t b with_new 0 n ∙ ap₂ (λ (ks : List Known) (x : Known). ks ++ (x ∷ [])) (known_ext t b b with_new k 0 n (λ j h. known_kept t j (omega arith))) (known_new t))

  more_good : n < LEARNT_MAX → e ≤ LEARNT_BYTES_MAX → GoodKnown b with_new (n + 1) e
  more_good z f = record {
    few = omega arith;
    within = f;
    slots = λ i h. split i n
        (λ o. rw (row_kept i o) (omega (arith, g.slots i o)))
        (λ o. let z : i ≡ n = omega arith in rw (z, row_new, value_new, between_length b used e l) (omega arith));
    hashes = λ i h. split i n
        (λ o. rw (row_kept i o) (g.hashes i o))
        (λ o. let z : i ≡ n = omega arith in rw (z, row_new, value_new) q);
    sum = sym (ap known_bytes (list_more []) ∙ bytes_snoc (known_from [] b k 0 n) (new []) ∙ rw (← g.sum, between_length b used e l) (omega arith));
  }

  more_held : (t : Text) → ActionHeld t a → ActionsHeld t k n → ActionsHeld t with_new (n + 1)
  more_held t h f = record {
    held = λ i m. split i n
        (λ o. rw (action_kept i o) (f.held i o))
        (λ o. let z : i ≡ n = omega arith in rw (z, action_new) h);
  }

-- ---- advanced

module _ (a : HeldAction) {b : Text} {k : List HeldKnown} {n used : ℕ} (e : ℕ) (g : GoodKnown b k n used) where
  pub learns_known : ((t : Text) → knows (between b used e) (known_from t b k 0 n) ≡ true) → Learns (learn_value (between b used e) a) a b k n used b k (Ok (n, used))
  unfolding learn_value after_events after_event progress_of
  learns_known f = record {
    beside = same_all;
    progress = λ t ρs z. rw (f t);
    good = g;
    held = λ t h fs. fs;
  }

  module _ (r : used + 3 ≤ e) (l : e ≤ length b) where
    -- the test of "a 513th value or over 16,384 bytes of them"
    test_is : (t : Text) → (leb LEARNT_MAX (length (known_from t b k 0 n)) || ltb LEARNT_BYTES_MAX (known_bytes (known_from t b k 0 n) + length (between b used e))) ≡ (leb LEARNT_MAX n || ltb LEARNT_BYTES_MAX e)
    test_is t = let q : used + (e - used) ≡ e = omega arith in rw (known_length t b k 0 n, bytes_any t [] b k 0 n, ← g.sum, between_length b used e l, q)

    module _ (f : (t : Text) → knows (between b used e) (known_from t b k 0 n) ≡ false) where
      pub learns_full : (leb LEARNT_MAX n || ltb LEARNT_BYTES_MAX e) ≡ true → Learns (learn_value (between b used e) a) a b k n used b k (Err TooMuchLearnt)
      unfolding learn_value after_events after_event progress_of
      learns_full q = record {
        beside = same_all;
        progress = λ t ρs z. rw (f t, test_is t, q);
        good = tt;
        held = λ t h fs. tt;
      }

      pub learns_more : {v : ℕ} → (leb LEARNT_MAX n || ltb LEARNT_BYTES_MAX e) ≡ false → v ≡ hash_of (between b used e) → n < length k
          → Learns (learn_value (between b used e) a) a b k n used b (set k n (record { hash = v; start = used; len = e - used; action = a })) (Ok (n + 1, e))
      unfolding learn_value after_events after_event progress_of
      learns_more q y m =
          record {
            beside = same_all;
            progress = λ t ρs z. rw (f t, test_is t, q, list_more a g r l y m t);
            good = more_good a g r l y m (not_many n e q) (not_much n e q);
            held = λ t h fs. more_held a g r l y m t h fs;
          }

-- nothing to learn
pub learns_nothing : {es : Text → List Event} {a : HeldAction} {b b' : Text} {k : List HeldKnown} {n used : ℕ} → GoodKnown b k n used → SameTo used b b' → ((t : Text) → es t ≡ [])
    → Learns es a b k n used b' k (Ok (n, used))
unfolding after_events progress_of
learns_nothing {es} {a} {b} {b'} {k} {n} {used} g w f = record {
  beside = w;
  progress = λ t ρs z. rw (f t, known_same g w t);
  good = good_same g w;
  held = λ t h fs. fs;
}

-- the same events by another definition, learnt where the bytes behind the values have changed
pub learns_as : {es fs : Text → List Event} {a : HeldAction} {b b' b'' : Text} {k : List HeldKnown} {n used : ℕ} {k' : List HeldKnown} {r : Result (ℕ × ℕ) Refusal}
    → GoodKnown b k n used → SameTo used b b' → ((t : Text) → es t ≡ fs t) → Learns fs a b' k n used b'' k' r → Learns es a b k n used b'' k' r
learns_as g w f h = record { beside = same_then w h.beside; progress = λ t ρs z. rw (f t, known_same g w t) (h.progress t ρs z); good = h.good; held = h.held }

-- ---- a leaf

small_value : (s : Separators) (t : Text) → length t < 3 → length (lower (value s t)) < 3
small_value s t h = omega (arith, lower_length (value s t), value_length s t)

-- the value of t in lower case was written behind those of n values
module _ (s : Separators) (t : Text) {d d' : Text} {used e : ℕ} (w : Wrote d used (lower (value s t)) d' e) where
  pub lowered_low : used ≤ e
  lowered_low = omega (arith, w.end)

  pub lowered_high : {m : ℕ} → used + length t ≤ m → e ≤ m
  lowered_high h = omega (arith, w.end, lower_length (value s t), value_length s t)

module _ (s : Separators) (t : Text) (a : HeldAction) (x : Text) where
  leaf_keep : is_keep (as_action x a) ≡ true → learn_leaf s t a x ≡ []
  unfolding learn_leaf learning
  leaf_keep e = rw e

  leaf_small : length t < 3 → learn_leaf s t a x ≡ []
  unfolding learn_leaf learning
  leaf_small h = rw (lt-ltb (length (lower (value s t))) 3 (small_value s t h), or_true (is_keep (as_action x a) || is_empty_or_null t))

  pub leaf_none : (k : Bool) → k ≡ is_keep (as_action x a) → (k || ltb (length t) 3) ≡ true → learn_leaf s t a x ≡ []
  leaf_none true q e = leaf_keep (sym q)
  leaf_none false q e = leaf_small (ltb-true (length t) 3 e)

  module _ {k : Bool} (q : k ≡ is_keep (as_action x a)) (e : (k || ltb (length t) 3) ≡ false) {d d' : Text} {used n : ℕ} (w : Wrote d used (lower (value s t)) d' n) where
    other : is_keep (as_action x a) ≡ false
    other = sym q ∙ or_left k (ltb (length t) 3) e

    full : is_empty_or_null t ≡ false
    full = long_full t (ltb-false (length t) 3 (or_right k (ltb (length t) 3) e))

    pub leaf_short : n - used < 3 → learn_leaf s t a x ≡ []
    unfolding learn_leaf learning
    leaf_short h = rw (other, full, lt-ltb (length (lower (value s t))) 3 (omega (arith, w.end)))

    pub leaf_learns : 3 ≤ n - used → learn_leaf s t a x ≡ learn_value (between d' used n) a x
    unfolding learn_leaf learning learn_value
    leaf_learns h = rw (other, full, le-ltb (length (lower (value s t))) 3 (omega (arith, w.end)), wrote_between w)

-- ---- the sweep

-- in a text that is shorter than every value none is found
none_found : (v b : Text) (k : List HeldKnown) (i n : ℕ) → ((j : ℕ) → j < i + n → length v < length (value_at b k j)) → (x : Text) → longest_found (known_from x b k i n) v ≡ none
unfolding longest_found known_from known_at
none_found v b k i zero h x = refl
none_found v b k i (suc n) h x = rw (word_short (value_at b k i) v (h i (omega arith))) (none_found v b k (i + 1) n (λ j l. h j (omega arith)) x)

pub swept_small : (s : Separators) (t : Text) {b : Text} {k : List HeldKnown} {n used : ℕ} → GoodKnown b k n used → length t < 3 → Swept s t b b k n used None
unfolding swept_in for_sweep action_in
swept_small s t {b} {k} {n} g h = record {
  beside = same_all;
  found = record {
    out = λ x. by_cond (λ (o : Option Action). o ≡ none) (is_empty_or_null t) none (action_in (longest_found (known_from x b k 0 n) (lower (value s t))))
        (λ e. refl)
        (λ e. ap action_in (none_found (lower (value s t)) b k 0 n (λ j m. omega (arith, small_value s t h, (g.slots j (omega arith)).1)) x));
  };
}

-- a longer one is looked for in b', where its value was written
module _ (s : Separators) (t : Text) {b b' : Text} {k : List HeldKnown} {n used m : ℕ} (g : GoodKnown b k n used) (e : 3 ≤ length t) (w : Wrote b used (lower (value s t)) b' m) where
  by_leaf : (x : Text) → swept_in s t b k n x ≡ action_in (longest_found (known_from x b' k 0 (n - 0)) (between b' used m))
  by_leaf x = unfold swept_in in unfold for_sweep in rw (long_full t e, wrote_between w, known_same g (wrote_same w) x, sub-zero n)

  found_by : (r : Maybe ℕ) → RowFound (between b' used m) b' k 0 n r → FoundOr (swept_in s t b k n) k n r
  unfolding action_in known_at
  found_by None h = λ x. by_leaf x ∙ ap action_in (h.out x)
  found_by (Some r) h = (h.out.0, λ x. by_leaf x ∙ ap action_in (h.out.1 x))

  pub swept_found : {r : Maybe ℕ} → RowFound (between b' used m) b' k 0 n r → Swept s t b b' k n used r
  swept_found {r} h = record { beside = wrote_same w; found = record { out = found_by r h } }
