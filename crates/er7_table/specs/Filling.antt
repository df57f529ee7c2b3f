-- How the tables are filled. Assumes nothing: these are definitions.
use Rattle.std.specs.Prelude.{◌≡◌, Bool, true, false, List, [], ℕ, ◌+◌, ◌-◌, ◌≤◌, ◌<◌, length, drop, get_or, IfOk, IfErr}
use Rattle.std.specs.declared.result.Result.{Result}
use Rattle.std.proofs.Math.Option.{some}
use Rattle.text.specs.Text.{Text, part}
use Rattle.refusal.specs.declared.Refusal.{Refusal}
use Rattle.refusal.specs.declared.Refusal.TheVariants.{TooMany}
use Rattle.refusal.specs.Limits.{LEAVES_MAX}
use Rattle.er7.specs.declared.message.Place.{Place}
use Rattle.er7.specs.declared.separators.Separators.{Separators}
use Rattle.message_model.specs.Message.{Leaf, leaf, ends_leaf, leaves}
use Rattle.er7_table.specs.declared.table.Leaf.{Leaf as HeldLeaf}
use Rattle.er7_table.specs.declared.table.Segment.{Segment as HeldSegment}
use Rattle.er7_table.specs.Table.{leaf_row, place_at, leaf_at, leaves_from, Within, segment_row, first_leaf, as_label, label_at}

-- r is where the leaf of t that begins at index i ends
pub record LeafEnd (s : Separators) (t : Text) (i r : ℕ) : Type 0 where
  pub low : i ≤ r
  pub high : r ≤ length t
  pub runs : (p : Place) → leaves s p [] (drop i t) ≡ leaves s p (part t i (r - i)) (drop r t)
  pub stops : r < length t → ends_leaf s (get_or t r 0) ≡ true

-- row i became the leaf at p whose text is n bytes of the store from index `start` on; no other row changed
pub record LeafPut (held : List HeldLeaf) (i : ℕ) (p : Place) (start n : ℕ) (held' : List HeldLeaf) : Type 0 where
  pub begins : (leaf_row held' i).start ≡ start
  pub long : (leaf_row held' i).len ≡ n
  pub stands : (leaf_row held' i).gone ≡ false
  pub place : place_at held' i ≡ p
  pub here : (named : ℕ → Bool) (store : Text) → leaf_at named held' store i ≡ leaf p (named i) (some (part store start n))
  pub other : (j : ℕ) → (j ≡ i → ⊥) → leaf_row held' j ≡ leaf_row held j
  pub rows : length held' ≡ length held

-- row k became that segment, whose leaves end before `end`; no row before it changed
pub record SegmentPut (segs : List HeldSegment) (k : ℕ) (put : HeldSegment) (end : ℕ) (segs' : List HeldSegment) : Type 0 where
  pub label : label_at segs' k ≡ as_label put.label
  pub begins : first_leaf segs' k ≡ put.first
  pub ends : first_leaf segs' (k + 1) ≡ end
  pub other : (i : ℕ) → i < k → segment_row segs' i ≡ segment_row segs i

-- the rows from n to before r are the leaves xs, whose texts stand in t
pub record Filled (xs : List Leaf) (t : Text) (n : ℕ) (held' : List HeldLeaf) (r : ℕ) : Type 0 where
  pub count : r ≡ n + length xs
  pub are : leaves_from (λ i. false) held' t n (r - n) ≡ xs
  pub ends : (i : ℕ) → n ≤ i → i < r → (leaf_row held' i).start + (leaf_row held' i).len ≤ length t
  pub within : (i : ℕ) → n ≤ i → i < r → Within (place_at held' i) (length t)

-- the table has a row for each of 4096 leaves, or for as many as m bytes can have
pub record LeafRoom (held : List HeldLeaf) (m : ℕ) : Type 0 where
  pub room : (i : ℕ) → i < LEAVES_MAX → i < m → i < length held

-- the leaves xs became the rows from n to before m, which r says, and of which there are no more than bytes before index e; or there are more
-- than 4096 rows with them, which refuses them; no row before them changed
pub record LeavesRead (xs : List Leaf) (t : Text) (e n : ℕ) (held held' : List HeldLeaf) (r : Result ℕ Refusal) : Type 0 where
  pub fitted : IfOk r (λ m. Filled xs t n held' m)
  pub few : IfOk r (λ m. m ≤ e)
  pub most : IfOk r (λ m. m ≤ LEAVES_MAX)
  pub too_many : IfErr r (λ f. (f ≡ TooMany) × (LEAVES_MAX < n + length xs))
  pub before : (i : ℕ) → i < n → leaf_row held' i ≡ leaf_row held i
