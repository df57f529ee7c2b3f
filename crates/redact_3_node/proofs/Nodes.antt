-- Laws of a node's leaves. Assumes nothing.
use Rattle.std.proofs.Common.{◌≡◌, refl, sym, Bool, true, false, List, ◌∷◌, ◌++◌, ℕ, zero, suc, ◌+◌, ◌-◌, ◌≤◌, ◌<◌, eqb, ne_eqb, arith, MatchOption, unwrap_or, Some, None}
use Rattle.std.proofs.Common.{Option as Maybe}
use Rattle.std.proofs.Math.Option.{none, some}
use native.Mathlib.Nat.{sub_self}
use Rattle.text.specs.Text.{Text}
use Rattle.text.proofs.Laws.{by_cond, split}
use Rattle.message_model.specs.Message.{leaf}
use Rattle.run_model.specs.Redact.{Reach, Depth, each_node, starts, rest_of_node, size, is_nil}
use Rattle.er7_table.specs.declared.table.Leaf.{Leaf as HeldLeaf}
use Rattle.er7_table.specs.Table.{leaf_row, list_of, place_at, stored_text, leaf_at, Good}
use Rattle.er7_render.specs.Stored.{live_len, live_sum}
use Rattle.redact_6_row.specs.Reach.{starts_at}
use Rattle.redact_4_leaf.specs.State.{text_in}
use Rattle.redact_4_leaf.proofs.Acting.{text_length_lem}
use Rattle.redact_3_node.specs.Node.{opens, node_end, live_texts, leaf_size, leaves_size}
use Rattle.refusal.specs.Limits.{TEXT_MAX}

-- by the two values of a test
pub by_bool : {X : Type 0} (b : Bool) → (b ≡ true → X) → (b ≡ false → X) → X
by_bool true f g = f refl
by_bool false f g = g refl

-- ---- where a node ends

module _ (r : Reach) (held : List HeldLeaf) where
  -- from leaf i on
  pub end_low : (i k : ℕ) → i ≤ node_end r held i k
  unfolding node_end
  end_low i zero = omega arith
  end_low i (suc k) = by_cond (λ (e : ℕ). i ≤ e) (opens r held i) _ _ (λ _. omega arith) (λ _. omega (arith, end_low (suc i) k))

  pub end_high : (i k : ℕ) → node_end r held i k ≤ i + k
  unfolding node_end
  end_high i zero = omega arith
  end_high i (suc k) = by_cond (λ (e : ℕ). e ≤ i + suc k) (opens r held i) _ _ (λ _. omega arith) (λ _. omega (arith, end_high (suc i) k))

  none_opens : (k i : ℕ) → ((x : ℕ) → i ≤ x → x < i + k → opens r held x ≡ false) → node_end r held i k ≡ i + k
  unfolding node_end
  none_opens zero i h = omega arith
  none_opens (suc k) i h = rw (h i (omega arith) (omega arith)) (omega (arith, none_opens k (suc i) (λ x l m. h x (omega arith) (omega arith))))

  first_opens : (k i j : ℕ) → i ≤ j → j < i + k → opens r held j ≡ true → ((x : ℕ) → i ≤ x → x < j → opens r held x ≡ false) → node_end r held i k ≡ j
  unfolding node_end
  first_opens zero i j l m o h = absurd (omega arith)
  first_opens (suc k) i j l m o h = split i j
      (λ q. rw (h i (omega arith) q) (first_opens k (suc i) j (omega arith) (omega arith) o (λ x n z. h x (omega arith) z)))
      (λ q. let e : i ≡ j = omega arith in rw (e, o))

  -- by the first leaf that was found to do so
  pub end_found : (i end : ℕ) → i < end → (o : Maybe ℕ)
      → MatchOption o ((x : ℕ) → i + 1 ≤ x → x < end → opens r held x ≡ false) (λ j. (i + 1 ≤ j) × (j < end) × (opens r held j ≡ true) × ((x : ℕ) → i + 1 ≤ x → x < j → opens r held x ≡ false))
      → unwrap_or o end ≡ node_end r held (suc i) (end - suc i)
  end_found i end l None h = omega (arith, none_opens (end - suc i) (suc i) (λ x m n. h x (omega arith) (omega arith)))
  end_found i end l (Some j) h = sym (first_opens (end - suc i) (suc i) j (omega (arith, h.0)) (omega (arith, h.1)) h.2 (λ x m n. h.3 x (omega arith) n))

-- ---- the texts of a node's leaves

module _ (held : List HeldLeaf) (store : Text) (i : ℕ) where
  pub live_here : (k : ℕ) → (leaf_row held i).gone ≡ false → live_texts held store i (suc k) ≡ text_in held store i ∷ live_texts held store (suc i) k
  unfolding live_texts
  live_here k e = rw e

  live_gone : (k : ℕ) → (leaf_row held i).gone ≡ true → live_texts held store i (suc k) ≡ live_texts held store (suc i) k
  unfolding live_texts
  live_gone k e = rw e

-- what a leaf stands for, by its two tests
module _ (d : Depth) (m : ℕ → Bool) (held : List HeldLeaf) (store : Text) (i : ℕ) where
  leaf_gone : (leaf_row held i).gone ≡ true → leaf_at m held store i ≡ leaf (place_at held i) (m i) none
  unfolding leaf_at stored_text
  leaf_gone e = rw e

  leaf_live : (leaf_row held i).gone ≡ false → leaf_at m held store i ≡ leaf (place_at held i) (m i) (some (text_in held store i))
  unfolding leaf_at stored_text text_in
  leaf_live e = rw e

  opens_gone : (leaf_row held i).gone ≡ true → opens (each_node d) held i ≡ false
  unfolding opens
  opens_gone e = rw e

  opens_live : (leaf_row held i).gone ≡ false → opens (each_node d) held i ≡ starts d (place_at held i)
  unfolding opens starts_at
  opens_live e = rw e

-- they are those up to its end
pub rest_live : (d : Depth) (m : ℕ → Bool) (held : List HeldLeaf) (store : Text) (i k : ℕ)
    → rest_of_node d (list_of (leaf_at m held store) i k) ≡ live_texts held store i (node_end (each_node d) held i k - i)
unfolding list_of rest_of_node node_end
rest_live d m held store i zero = rw (sub_self i) (unfold live_texts in refl)
rest_live d m held store i (suc k) =
    let n : node_end (each_node d) held (suc i) k - i ≡ suc (node_end (each_node d) held (suc i) k - suc i) = omega (arith, end_low (each_node d) held (suc i) k) in
    let h = rest_live d m held store (suc i) k in
    by_bool (leaf_row held i).gone
    (λ e. rw (leaf_gone d m held store i e, opens_gone d m held store i e, n, h, live_gone held store i (node_end (each_node d) held (suc i) k - suc i) e))
    (λ e. by_bool (starts d (place_at held i))
    (λ q. rw (leaf_live d m held store i e, opens_live d m held store i e, q, sub_self i) (unfold live_texts in refl))
    (λ q. rw (leaf_live d m held store i e, opens_live d m held store i e, q, n, h, live_here held store i (node_end (each_node d) held (suc i) k - suc i) e)))

-- those of the leaves before and from an index
pub live_append : (held : List HeldLeaf) (store : Text) (i k l : ℕ) → live_texts held store i (k + l) ≡ live_texts held store i k ++ live_texts held store (i + k) l
live_append held store i zero l = let z : 0 + l ≡ l = omega arith in let y : i + 0 ≡ i = omega arith in rw (z, y) (unfold live_texts in refl)
live_append held store i (suc k) l =
    let z : suc k + l ≡ suc (k + l) = omega arith in
    let y : suc i + k ≡ i + suc k = omega arith in
    let h : live_texts held store (suc i) (k + l) ≡ live_texts held store (suc i) k ++ live_texts held store (i + suc k) l = rw y at (live_append held store (suc i) k l) in
    by_bool (leaf_row held i).gone
    (λ e. rw (z, live_gone held store i (k + l) e, live_gone held store i k e, h))
    (λ e. rw (z, live_here held store i (k + l) e, live_here held store i k e, h))

-- ---- their bytes

pub size_live : {held : List HeldLeaf} {store : Text} {n used : ℕ} → Good held store n used → (i k : ℕ) → i + k ≤ n → size (live_texts held store i k) ≡ leaves_size held i k
unfolding leaves_size leaf_size size
size_live g i zero h = unfold live_texts in refl
size_live {held} {store} g i (suc k) h =
    by_bool (leaf_row held i).gone
    (λ e. rw (live_gone held store i k e, e) (omega (arith, size_live g (suc i) k (omega arith))))
    (λ e. rw (live_here held store i k e, e) (omega (arith, text_length_lem g i (omega arith), size_live g (suc i) k (omega arith))))

-- none is left where there are no bytes, since each has its delimiter
pub nil_live : (held : List HeldLeaf) (store : Text) (i k : ℕ) → is_nil (live_texts held store i k) ≡ eqb (leaves_size held i k) 0
unfolding leaves_size leaf_size
nil_live held store i zero = unfold live_texts in refl
nil_live held store i (suc k) =
    by_bool (leaf_row held i).gone
    (λ e. let z : 0 + leaves_size held (suc i) k ≡ leaves_size held (suc i) k = omega arith in rw (live_gone held store i k e, e, z) (nil_live held store (suc i) k))
    (λ e. rw (live_here held store i k e, e) (sym (ne_eqb ((leaf_row held i).len + 1 + leaves_size held (suc i) k) 0 (λ q. omega arith))))

leaf_most : (held : List HeldLeaf) (i : ℕ) → leaf_size held i ≤ live_len held i + 1
unfolding leaf_size live_len
leaf_most held i = by_bool (leaf_row held i).gone (λ e. rw e (omega arith)) (λ e. rw e (omega arith))

pub leaves_most : (held : List HeldLeaf) (i k : ℕ) → leaves_size held i k ≤ live_sum held i k + k
unfolding leaves_size live_sum
leaves_most held i zero = omega arith
leaves_most held i (suc k) = omega (arith, leaf_most held i, leaves_most held (suc i) k)

-- they are added up to leaf i
pub record Adding (held : List HeldLeaf) (first end i sum : ℕ) : Type 0 where
  pub low : first ≤ i
  pub high : i ≤ end
  pub left : sum + leaves_size held i (end - i) ≡ leaves_size held first (end - first)

pub adding_start : {held : List HeldLeaf} {first end : ℕ} → first ≤ end → Adding held first end first 0
adding_start h = record { low = omega arith; high = h; left = omega arith }

module _ {held : List HeldLeaf} {first end i sum : ℕ} (w : Adding held first end i sum) where
  step : i < end → leaves_size held i (end - i) ≡ leaf_size held i + leaves_size held (suc i) (end - suc i)
  step h = let n : end - i ≡ suc (end - suc i) = omega arith in rw n (unfold leaves_size in refl)

  pub adding_fits : i < end → live_sum held first (end - first) ≤ TEXT_MAX → sum + leaf_size held i ≤ TEXT_MAX + end
  adding_fits h l = omega (arith, w.left, step h, leaves_most held first (end - first))

  pub adding_more : i < end → Adding held first end (i + 1) (sum + leaf_size held i)
  adding_more h =
      let m : i + 1 ≡ suc i = omega arith in
      record { low = omega (arith, w.low); high = omega arith; left = rw m (omega (arith, w.left, step h)) }

  pub adding_end : end ≤ i → sum ≡ leaves_size held first (end - first)
  adding_end h = let n : end - i ≡ 0 = omega arith in let z : leaves_size held i (end - i) ≡ 0 = rw n (unfold leaves_size in refl) in omega (arith, w.left)
