-- How the texts of leaves change in the store. Assumes nothing: these are definitions.
use Rattle.std.specs.Prelude.{◌≡◌, Bool, true, false, cond, List, ℕ, zero, suc, ◌+◌, ◌≤◌, ◌<◌, length}
use Rattle.std.proofs.Math.Option.{none, some}
use Rattle.text.specs.Text.{Text, part, SameTo}
use Rattle.er7_table.specs.declared.table.Leaf.{Leaf as HeldLeaf}
use Rattle.er7_table.specs.Table.{leaf_row, place_at, stored_text, leaf_at, Good}
use Rattle.refusal.specs.Limits.{TEXT_MAX}

-- the text of leaf i became the n bytes of the store from index `start` on; no other leaf changed, and no place
pub record TextSet (held : List HeldLeaf) (i start n : ℕ) (held' : List HeldLeaf) : Type 0 where
  pub rows : length held' ≡ length held
  pub begins : (leaf_row held' i).start ≡ start
  pub long : (leaf_row held' i).len ≡ n
  pub gone : (j : ℕ) → (leaf_row held' j).gone ≡ (leaf_row held j).gone
  pub here : (store : Text) → (leaf_row held i).gone ≡ false → stored_text held' store i ≡ some (part store start n)
  pub place : (j : ℕ) → place_at held' j ≡ place_at held j
  pub other : (j : ℕ) → (j ≡ i → ⊥) → leaf_row held' j ≡ leaf_row held j
  pub other_text : (store : Text) (j : ℕ) → (j ≡ i → ⊥) → stored_text held' store j ≡ stored_text held store j
  pub other_leaf : (named : ℕ → Bool) (store : Text) (j : ℕ) → (j ≡ i → ⊥) → leaf_at named held' store j ≡ leaf_at named held store j

-- leaf i vanished; no other leaf changed, and no place
pub record Vanished (held : List HeldLeaf) (i : ℕ) (held' : List HeldLeaf) : Type 0 where
  pub rows : length held' ≡ length held
  pub gone : (leaf_row held' i).gone ≡ true
  pub begins : (j : ℕ) → (leaf_row held' j).start ≡ (leaf_row held j).start
  pub long : (j : ℕ) → (leaf_row held' j).len ≡ (leaf_row held j).len
  pub here : (store : Text) → stored_text held' store i ≡ none
  pub place : (j : ℕ) → place_at held' j ≡ place_at held j
  pub other : (j : ℕ) → (j ≡ i → ⊥) → leaf_row held' j ≡ leaf_row held j
  pub other_text : (store : Text) (j : ℕ) → (j ≡ i → ⊥) → stored_text held' store j ≡ stored_text held store j
  pub other_leaf : (named : ℕ → Bool) (store : Text) (j : ℕ) → (j ≡ i → ⊥) → leaf_at named held' store j ≡ leaf_at named held store j

-- ---- compaction

-- the length of a leaf's text, 0 if the leaf has vanished
unfoldable pub live_len : List HeldLeaf → ℕ → ℕ
live_len held i = cond (leaf_row held i).gone 0 (leaf_row held i).len

-- the bytes of the texts of n leaves from leaf i on
unfoldable pub live_sum : List HeldLeaf → ℕ → ℕ → ℕ
live_sum held i zero = 0
live_sum held i (suc n) = live_len held i + live_sum held (suc i) n

-- the n leaves are as they were, and their texts fill the first r bytes of the store
pub record Packed (held : List HeldLeaf) (store : Text) (n : ℕ) (held' : List HeldLeaf) (store' : Text) (r : ℕ) : Type 0 where
  pub size : r ≡ live_sum held 0 n
  pub rows : length held' ≡ length held
  pub good : Good held' store' n r
  pub place : (i : ℕ) → place_at held' i ≡ place_at held i
  pub text : (i : ℕ) → i < n → stored_text held' store' i ≡ stored_text held store i
  pub leaf : (named : ℕ → Bool) (i : ℕ) → i < n → leaf_at named held' store' i ≡ leaf_at named held store i

-- ---- room for a turn

-- the n leaves are as they were, and their texts stand in the first r bytes of the store, behind which it has room for the longest message;
-- the first `from` bytes of the buffer beside it are kept
pub record RoomMade (n : ℕ) (held : List HeldLeaf) (store bytes : Text) (from : ℕ) (held' : List HeldLeaf) (store' bytes' : Text) (r : ℕ) : Type 0 where
  pub good : Good held' store' n r
  pub ample : r ≤ TEXT_MAX
  pub leaf : (named : ℕ → Bool) (i : ℕ) → i < n → leaf_at named held' store' i ≡ leaf_at named held store i
  pub place : (i : ℕ) → place_at held' i ≡ place_at held i
  pub live : (i : ℕ) → i < n → live_len held' i ≡ live_len held i
  pub rows : length held' ≡ length held
  pub beside : SameTo from bytes bytes'
