-- Laws of the learnt values. Assumes nothing.
use Rattle.std.proofs.Common.{◌≡◌, refl, sym, ap, ◌∙◌, Bool, true, false, cond, List, [], ◌∷◌, ℕ, zero, suc, ◌+◌, ◌-◌, ◌≤◌, ◌<◌, leb, ltb, length, get_or, take, drop, MatchBool, Some, None}
use Rattle.std.proofs.Common.{arith, le-leb, leb-true, le-ltb, lt-ltb, length-take, get_or-take}
use Rattle.std.proofs.Common.{Option as Maybe}
use Rattle.std.proofs.Math.Option.{Option, some}
use borrow.Author.Tests.{lt-leb}
use Rattle.text.specs.Text.{Text, same, part}
use Rattle.text.proofs.Runs.{part_slice}
use Rattle.text.proofs.Kept.{part_length}
use Rattle.std.specs.List.{HoldsAt, AllWithin}
use Rattle.std.proofs.lemmas.List.{get_or_read}
use Rattle.text.proofs.Laws.{and_left, and_right, and_false, or_true, split}
use Rattle.text.proofs.Words.{same_eq}
use Rattle.er7_redact.specs.declared.action.Action.TheVariants as Held
use Rattle.message_model.specs.Value.{is_whole_word}
use Rattle.er7_value.specs.Starts.{Starts}
use Rattle.er7_value.proofs.Hits.{part_first}
use Rattle.er7_value.proofs.Starts.{word_unmarked}
use Rattle.run_model.specs.Redact.{Known, knows, longer_of, longest_found}
use Rattle.run_model.proofs.Chains.{cond_both}
use Rattle.redact_5_act.specs.Known.{row, value_of, hash_of, value_at, known_at, known_from, Slot, Slots, GoodKnown}
use Rattle.redact_5_act.specs.declared.known.Known.{Known as HeldKnown}
use Rattle.redact_5_act.specs.Inner.{first_marked, has_value, RowFound}

-- ---- lists of rows

module _ (t b : Text) (k : List HeldKnown) where
  pub known_next : (i n : ℕ) → i < n → known_from t b k i (n - i) ≡ known_at t b k i ∷ known_from t b k (i + 1) (n - (i + 1))
  unfolding known_from
  known_next i n h = let q : n - i ≡ suc (n - (i + 1)) = omega arith in rw q

  pub known_none : (i n : ℕ) → n ≤ i → known_from t b k i (n - i) ≡ []
  unfolding known_from
  known_none i n h = let q : n - i ≡ zero = omega arith in rw q

  pub known_length : (i n : ℕ) → length (known_from t b k i n) ≡ n
  unfolding known_from
  known_length i zero = refl
  known_length i (suc n) = ap suc (known_length (i + 1) n)

-- what stands in the table where no value is learnt yet
abbrev UNKNOWN : HeldKnown
UNKNOWN = record { hash = 0; start = 0; len = 0; action = Held.Keep }

-- one of the first n rows
module _ (k : List HeldKnown) (n : ℕ) {i : ℕ} (h : i < length (take n k)) where
  pub row_low : i < n
  row_low = omega (arith, length-take n k, h)

  pub row_of : get_or (take n k) i UNKNOWN ≡ row k i
  row_of = get_or-take n k i _ row_low

pub good_slots : {b : Text} {k : List HeldKnown} {n used : ℕ} → GoodKnown b k n used → Slots b k n
good_slots {b} {k} {n} g = record {
  few = g.few;
  slot = λ i h. record { inside = omega (arith, (g.slots i h).0, g.within); long = (g.slots i h).1; hash = g.hashes i h };
}

pub word_of_part : (b : Text) (i n : ℕ) (v : Text) {r : Bool} → r ≡ is_whole_word (take (i + n - i) (drop i b)) v → r ≡ is_whole_word (part b i n) v
word_of_part b i n v e = e ∙ ap (λ (w : Text). is_whole_word w v) (part_slice b i n)

-- the first byte of a row's value
first_byte : {b : Text} {r : HeldKnown} → Slot b r → get_or (value_of b r) 0 0 ≡ get_or b r.start 0
unfolding value_of part
first_byte {b} {r} g = part_first b r.start r.len (let h = simp length-take at g.long in omega (arith, h))

-- whether it is marked; where it is not, the value is no word
module _ {b : Text} {r : HeldKnown} (starts : List Bool) (g : Slot b r) where
  pub first_mark : get_or starts (get_or b r.start 0) false ≡ first_marked starts (value_of b r)
  unfolding first_marked
  first_mark = ap (λ (x : ℕ). get_or starts x false) (sym (first_byte g))

  pub not_marked : {v : Text} → Starts v starts → first_marked starts (value_of b r) ≡ false → false ≡ is_whole_word (value_of b r) v
  unfolding first_marked
  not_marked {v} s e = sym (word_unmarked (value_of b r) v s (omega (arith, g.long)) e)

-- texts with different hashes differ
pub other_hash : (w v : Text) {x h : ℕ} → h ≡ hash_of w → x ≡ hash_of v → (x ≡ h → ⊥) → false ≡ same w v
other_hash w v e f g = by_same (same w v) refl
  where
    by_same : (b : Bool) → same w v ≡ b → false ≡ b
    by_same false q = refl
    by_same true q = absurd (g (f ∙ ap hash_of (sym (same_eq w v q)) ∙ sym e))

-- ---- a value among n rows

module _ (v b : Text) (k : List HeldKnown) (t : Text) where
  known_here : (n i j : ℕ) → i ≤ j → j < i + n → same v (value_at b k j) ≡ true → knows v (known_from t b k i n) ≡ true
  unfolding knows known_from known_at
  known_here zero i j l h e = absurd (omega arith)
  known_here (suc n) i j l h e = split i j
      (λ q. rw (known_here n (i + 1) j (omega arith) (omega arith) e) (or_true (same v (value_at b k i))))
      (λ q. let z : i ≡ j = omega arith in rw (z, e))

  known_nowhere : (n i : ℕ) → ((j : ℕ) → i ≤ j → j < i + n → same v (value_at b k j) ≡ false) → knows v (known_from t b k i n) ≡ false
  unfolding knows known_from known_at
  known_nowhere zero i f = refl
  known_nowhere (suc n) i f = rw (f i (omega arith) (omega arith)) (known_nowhere n (i + 1) (λ j l h. f j (omega arith) (omega arith)))

-- one that was read lies in the bytes
pub slot_read : {b : Text} {k : List HeldKnown} {n : ℕ} → Slots b k n → {i : ℕ} (x : HeldKnown) → i < length (take n k) → x ≡ get_or (take n k) i x → Slot b x
slot_read {k = k} {n = n} s {i} x h e = rw (get_or_read (take n k) i x h e UNKNOWN ∙ row_of k n h) (s.slot i (row_low k n h))

module _ (v : Text) {b : Text} {k : List HeldKnown} {n : ℕ} where
  -- by the answer whether any is the value
  pub knows_any : Slots b k n → n ≤ length k → (r : Bool)
      → MatchBool r ((i : ℕ) × (i < length (take n k)) × HoldsAt (λ (x : HeldKnown). same v (value_of b x) ≡ true) (take n k) i) (AllWithin (λ (x : HeldKnown). same v (value_of b x) ≡ false) (take n k) 0 (length (take n k)))
      → (t : Text) → r ≡ knows v (known_from t b k 0 n)
  knows_any s m true h t =
      let l = h.1 in
      sym (known_here v b k t n 0 h.0 (omega arith) (omega (arith, row_low k n l)) (rw (row_of k n l) at (h.2 UNKNOWN)))
  knows_any s m false h t =
      sym (known_nowhere v b k t n 0 (λ j l q.
      let z : j < length (take n k) = omega (arith, length-take n k) in
      rw (row_of k n z) at (h j UNKNOWN (omega arith) z)))

-- ---- the longest value that is a word of v, from row i on

value_length : {b : Text} {r : HeldKnown} → length b ≡ 65536 → Slot b r → length (value_of b r) ≡ r.len
unfolding value_of
value_length {b} {r} l g = part_length b r.start r.len (omega (arith, g.inside))

-- whether a row has a value that is long enough and found
module _ (v b : Text) (least : ℕ) (r : HeldKnown) where
  pub has_unmarked : is_whole_word (value_of b r) v ≡ false → has_value v b least r ≡ false
  unfolding has_value
  has_unmarked e = rw e (and_false (leb least r.len))

  pub has_shorter : r.len < least → has_value v b least r ≡ false
  unfolding has_value
  has_shorter h = rw (lt-leb least r.len h)

  pub has_long : least ≤ r.len → is_whole_word (value_of b r) v ≡ has_value v b least r
  unfolding has_value
  has_long h = rw (le-leb least r.len h)

  has_found : has_value v b least r ≡ true → (least ≤ r.len) × (is_whole_word (value_of b r) v ≡ true)
  unfolding has_value
  has_found e = (leb-true least r.len (and_left _ _ e), and_right (leb least r.len) _ e)

-- ---- the row that is picked

-- the least length of a value that is picked before that of the row `best`: any where there is no such row
abbrev pub least_over : List HeldKnown → Maybe ℕ → ℕ
least_over k None = 0
least_over k (Some r) = (row k r).len + 1

pub row_none : {v b : Text} {k : List HeldKnown} {n : ℕ} → RowFound v b k n n None
unfolding longest_found
row_none {b = b} {k = k} {n = n} = record { out = λ t. rw (known_none t b k n n (omega arith)) }

-- row i, before the rows from which the row r is picked
module _ (v b : Text) (k : List HeldKnown) (n i : ℕ) (h : i < n) where
  abbrev later : Text → Option Known
  later t = longest_found (known_from t b k (i + 1) (n - (i + 1))) v

  next : (t : Text) → longest_found (known_from t b k i (n - i)) v ≡ cond (is_whole_word (value_at b k i) v) (longer_of (known_at t b k i) (later t)) (later t)
  unfolding longest_found known_at
  next t = ap (λ (ks : List Known). longest_found ks v) (known_next t b k i n h)

  -- its value is no word
  row_passed : is_whole_word (value_at b k i) v ≡ false → (r : Maybe ℕ) → RowFound v b k (i + 1) n r → RowFound v b k i n r
  row_passed e None g = record { out = λ t. next t ∙ rw e (g.out t) }
  row_passed e (Some r) g = record { out = (g.out.0, λ t. next t ∙ rw e (g.out.1 t)) }

  module _ (l : length b ≡ 65536) (s : Slots b k n) where
    -- of row i and the row r the longer one
    longer_is : {r : ℕ} → RowFound v b k (i + 1) n (Some r) → (t : Text) → longer_of (known_at t b k i) (later t)
        ≡ cond (ltb ((row k r).len) ((row k i).len)) (some (known_at t b k i)) (some (known_at t b k r))
    unfolding longer_of known_at
    longer_is {r} g t = rw (g.out.1 t, value_length l (s.slot i h), value_length l (s.slot r g.out.0))

    row_shorter : {r : ℕ} → RowFound v b k (i + 1) n (Some r) → (row k i).len ≤ (row k r).len → RowFound v b k i n (Some r)
    row_shorter {r} g e = record {
      out = (g.out.0, λ t. next t ∙ rw (longer_is g t, le-ltb ((row k r).len) ((row k i).len) e, g.out.1 t) (cond_both (is_whole_word (value_at b k i) v) (some (known_at t b k r))));
    }

    -- it has no value that is long enough and found
    row_no : (r : Maybe ℕ) → RowFound v b k (i + 1) n r → has_value v b (least_over k r) (row k i) ≡ false → RowFound v b k i n r
    row_no None g e = row_passed (has_long v b 0 (row k i) (omega arith) ∙ e) None g
    row_no (Some r) g e = split ((row k i).len) ((row k r).len + 1)
        (λ q. row_shorter g (omega arith))
        (λ q. row_passed (has_long v b ((row k r).len + 1) (row k i) q ∙ e) (Some r) g)

    -- it has one
    row_yes : (r : Maybe ℕ) → RowFound v b k (i + 1) n r → has_value v b (least_over k r) (row k i) ≡ true → RowFound v b k i n (Some i)
    unfolding longer_of
    row_yes None g e = record { out = (h, λ t. next t ∙ rw ((has_found v b 0 (row k i) e).1, g.out t)) }
    row_yes (Some r) g e =
        let f = has_found v b ((row k r).len + 1) (row k i) e in
        record { out = (h, λ t. next t ∙ rw (f.1, longer_is g t, lt-ltb ((row k r).len) ((row k i).len) (omega (arith, f.0)))) }

-- the rows from row j on were looked at, and row j - 1 is the next
module _ {v b : Text} {k : List HeldKnown} {n j least : ℕ} {r : Maybe ℕ} (l : length b ≡ 65536) (s : Slots b k n) (q : 0 < j) (h : j ≤ n) (g : RowFound v b k j n r × (least ≡ least_over k r)) where
  before : RowFound v b k (j - 1 + 1) n r
  before = let e : j - 1 + 1 ≡ j = omega arith in rw e g.0

  pub picked_before : has_value v b least (row k (j - 1)) ≡ false → RowFound v b k (j - 1) n r
  picked_before e = row_no v b k n (j - 1) (omega arith) l s r before (rw (← g.1) e)

  pub picked_here : has_value v b least (row k (j - 1)) ≡ true → RowFound v b k (j - 1) n (Some (j - 1))
  picked_here e = row_yes v b k n (j - 1) (omega arith) l s r before (rw (← g.1) e)
