-- Laws of names and their occurrences. Assumes nothing.
use Rattle.std.proofs.Common.{◌≡◌, refl, sym, ap, ◌∙◌, Bool, true, false, cond, not, ◌&&◌, List, [], ◌∷◌, ◌++◌, reverse, ℕ, zero, suc, ◌+◌, ◌≤◌, ◌<◌, length, take, get_or, eqb, Option, Some, None, is_some, arith, add-one, add-zero, take_all, get_or-take, length-take-le}
use Rattle.std.specs.List.{list_all, find}
use Rattle.std.proofs.lemmas.List.{take_more, reverse-append}
use lib.Pointwise.{pointwise}
use Rattle.text.specs.Text.{Text, same, all}
use Rattle.text.proofs.Words.{same_eq}
use Rattle.text.proofs.Laws.{by_cond, clash}
use Rattle.message_model.specs.Message.{is_header_name, is_name_byte, is_name, count}
use Rattle.er7_table.specs.declared.table.Segment.{Segment as HeldSegment}
use Rattle.er7_table.specs.declared.table.TheConstants.{NO_SEGMENT}
use Rattle.er7_table.specs.Table.{list_of, segment_row, name_of, name_at}
use Rattle.er7_table.proofs.Laws.{list_snoc, list_ext, list_length}
use Rattle.er7_message.specs.Inner.{names, Numbered}

-- ---- names

three_bytes : (n : Text) → length n ≡ 3 → n ≡ get_or n 0 0 ∷ get_or n 1 0 ∷ get_or n 2 0 ∷ []
three_bytes [] h = absurd (omega arith)
three_bytes (a ∷ []) h = absurd (omega arith)
three_bytes (a ∷ b ∷ []) h = absurd (omega arith)
three_bytes (a ∷ b ∷ c ∷ []) h = refl
three_bytes (a ∷ b ∷ c ∷ d ∷ n) h = absurd (omega arith)

all_list : (p : ℕ → Bool) (n : Text) → list_all p n ≡ all p n
unfolding all
all_list p [] = refl
all_list p (x ∷ n) = ap (λ (b : Bool). p x && b) (all_list p n)

pub name_is : (n : Text) → length n ≡ 3 → is_name n ≡ list_all is_name_byte n && not (is_header_name (get_or n 0 0 ∷ get_or n 1 0 ∷ get_or n 2 0 ∷ []))
unfolding is_name
name_is n h = rw (all_list, ← three_bytes n h)

-- what starts_with tests
pub starts_same : (s t : Text) → pointwise eqb s t ≡ same s t
unfolding same
starts_same [] [] = refl
starts_same [] (y ∷ t) = refl
starts_same (x ∷ s) [] = refl
starts_same (x ∷ s) (y ∷ t) = ap (λ (b : Bool). eqb x y && b) (starts_same s t)

-- ---- occurrences

count_append : (n : Text) (ms ms' : List Text) → count n (ms ++ ms') ≡ count n ms + count n ms'
unfolding count
count_append n [] ms' = omega arith
count_append n (m ∷ ms) ms' = omega (arith, count_append n ms ms')

count_most : (n : Text) (ms : List Text) → count n ms ≤ length ms
unfolding count
count_most n [] = omega arith
count_most n (m ∷ ms) = by_cond (λ (c : ℕ). c + count n ms ≤ suc (length ms)) (same m n) 1 0 (λ _. omega (arith, count_most n ms)) (λ _. omega (arith, count_most n ms))

-- the row that an Option holds
abbrev row_in : HeldSegment → Option HeldSegment → HeldSegment
row_in d None = d
row_in d (Some r) = r

-- whether a row has the name n
abbrev pub named_so : Text → HeldSegment → Bool
named_so n s = same (name_of s.label) n

module _ (segs : List HeldSegment) (n : Text) where
  names_more : (k : ℕ) → names segs 0 (suc k) ≡ names segs 0 k ++ name_at segs k ∷ []
  unfolding names
  names_more k = let z : 0 + k ≡ k = omega arith in list_snoc (name_at segs) 0 k ∙ rw z

  count_one : (k : ℕ) (b : Bool) → named_so n (segment_row segs k) ≡ b → count n (name_at segs k ∷ []) ≡ cond b 1 0
  unfolding count name_at
  count_one k b e = rw (e, add-zero)

  named_more : (k : ℕ) (b : Bool) → named_so n (segment_row segs k) ≡ b → count n (names segs 0 (suc k)) ≡ count n (names segs 0 k) + cond b 1 0
  named_more k b e = rw (names_more k, ← count_one k b e) (count_append n (names segs 0 k) (name_at segs k ∷ []))

  -- the rows up to row k from the last on
  last_first : (k : ℕ) → k < length segs → reverse (take (suc k) segs) ≡ segment_row segs k ∷ reverse (take k segs)
  last_first k h = rw (← add-one, take_more segs k NO_SEGMENT h, reverse-append)

  -- the last row of that name
  pub found : (k : ℕ) → k ≤ length segs → Numbered segs k → (r : HeldSegment) → find (named_so n) (reverse (take k segs)) ≡ Some r → r.label.occurrence ≡ count n (names segs 0 k)
  found zero h w r e = clash (sym (ap is_some e))
  found (suc k) h w r e =
      go (named_so n (segment_row segs k)) refl (rw last_first at e) (found k (omega arith) (record { number = λ j l. w.number j (omega arith) }) r)
    where
      go : (b : Bool) → named_so n (segment_row segs k) ≡ b → find (named_so n) (segment_row segs k ∷ reverse (take k segs)) ≡ Some r
          → (find (named_so n) (reverse (take k segs)) ≡ Some r → r.label.occurrence ≡ count n (names segs 0 k)) → r.label.occurrence ≡ count n (names segs 0 (suc k))
      go true y f more =
          let here : segment_row segs k ≡ r = ap (row_in r) (rw y at f) in
          let name : name_at segs k ≡ n = unfold name_at in same_eq _ _ y in
          rw (named_more k true y, ← here) (rw name at (w.number k (omega arith)))
      go false y f more = rw (named_more k false y, add-zero) (more (rw y at f))

  -- there is none
  pub not_found : (k : ℕ) → k ≤ length segs → find (named_so n) (reverse (take k segs)) ≡ None → count n (names segs 0 k) ≡ 0
  unfolding names list_of count
  not_found zero h e = refl
  not_found (suc k) h e = go (named_so n (segment_row segs k)) refl (rw last_first at e) (not_found k (omega arith))
    where
      go : (b : Bool) → named_so n (segment_row segs k) ≡ b → find (named_so n) (segment_row segs k ∷ reverse (take k segs)) ≡ None
          → (find (named_so n) (reverse (take k segs)) ≡ None → count n (names segs 0 k) ≡ 0) → count n (names segs 0 (suc k)) ≡ 0
      go true y f more = clash (ap is_some (rw y at f))
      go false y f more = named_more k false y ∙ rw (add-zero, more (rw y at f))

module _ (segs : List HeldSegment) (n : Text) where
  pub last_found : {o : Option HeldSegment} → o ≡ find (named_so n) (reverse segs) → Numbered segs (length segs) → {r : HeldSegment} → o ≡ Some r → r.label.occurrence ≡ count n (names segs 0 (length segs))
  last_found e w {r} f = found segs n (length segs) (omega arith) w r (rw (take_all (length segs) segs (omega arith)) (sym e ∙ f))

  pub none_found : {o : Option HeldSegment} → o ≡ find (named_so n) (reverse segs) → o ≡ None → count n (names segs 0 (length segs)) ≡ 0
  none_found e f = not_found segs n (length segs) (omega arith) (rw (take_all (length segs) segs (omega arith)) (sym e ∙ f))

  pub names_most : count n (names segs 0 (length segs)) ≤ length segs
  unfolding names
  names_most = omega (arith, count_most n (list_of (name_at segs) 0 (length segs)), list_length (name_at segs) 0 (length segs))

-- what holds of the first k rows
module _ (segs : List HeldSegment) (k : ℕ) (h : k ≤ length segs) where
  front_name : (j : ℕ) → j < k → name_at (take k segs) j ≡ name_at segs j
  unfolding name_at
  front_name j l = rw (get_or-take k segs j NO_SEGMENT l)

  front_names : (j : ℕ) → j ≤ k → names (take k segs) 0 j ≡ names segs 0 j
  unfolding names
  front_names j l = list_ext (name_at (take k segs)) (name_at segs) 0 j (λ i a b. front_name i (omega arith))

  pub names_front : names (take k segs) 0 (length (take k segs)) ≡ names segs 0 k
  names_front = rw (length-take-le k segs h) (front_names k (omega arith))

  pub numbered_front : Numbered segs k → Numbered (take k segs) (length (take k segs))
  numbered_front w = rw (length-take-le k segs h) (record {
    number = λ j l. rw (get_or-take k segs j NO_SEGMENT l, front_name j l, front_names j (omega arith)) (w.number j l);
  })
