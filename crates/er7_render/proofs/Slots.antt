-- Laws of the texts in the store. Assumes nothing.
use Rattle.std.proofs.Common.{◌≡◌, refl, ap, ◌∙◌, Bool, true, false, cond, List, ℕ, ◌+◌, ◌≤◌, ◌<◌, length, set, arith, length-set, get_or-set_same, get_or-set_other}
use Rattle.std.proofs.Math.Option.{none, some}
use mathlib.Core.Logic.{dite}
use native.Mathlib.Decide.{ℕ_discrete}
use Rattle.text.specs.Text.{Text, part, SameTo}
use Rattle.text.proofs.Kept.{part_same}
use Rattle.er7_table.specs.declared.table.Leaf.{Leaf as HeldLeaf}
use Rattle.er7_table.specs.declared.table.TheConstants.{NO_LEAF}
use Rattle.er7_table.specs.Table.{leaf_row, place_at, stored_text, Good}
use Rattle.er7_table.proofs.Laws.{text_kept, leaf_kept}
use Rattle.er7_render.specs.Stored.{TextSet, Vanished}

-- ---- `set_text`

module _ (held : List HeldLeaf) (i start n : ℕ) (room : i < length held) where
  abbrev start_set : HeldLeaf
  start_set = record { start = start; len = (leaf_row held i).len; gone = (leaf_row held i).gone; place = (leaf_row held i).place }

  abbrev once : List HeldLeaf
  once = set held i start_set

  abbrev both_set : HeldLeaf
  both_set = record { start = (leaf_row once i).start; len = n; gone = (leaf_row once i).gone; place = (leaf_row once i).place }

  abbrev twice : List HeldLeaf
  twice = set once i both_set

  once_here : leaf_row once i ≡ start_set
  once_here = get_or-set_same held i start_set NO_LEAF room

  twice_here : leaf_row twice i ≡ record { start = start; len = n; gone = (leaf_row held i).gone; place = (leaf_row held i).place }
  twice_here = get_or-set_same once i both_set NO_LEAF (rw length-set room) ∙ rw once_here

  twice_other : (j : ℕ) → (j ≡ i → ⊥) → leaf_row twice j ≡ leaf_row held j
  twice_other j ne = get_or-set_other once i j both_set NO_LEAF ne ∙ get_or-set_other held i j start_set NO_LEAF ne

  set_gone_kept : (j : ℕ) → (leaf_row twice j).gone ≡ (leaf_row held j).gone
  set_gone_kept j = dite (ℕ_discrete j i) (λ e. rw e (ap (λ (x : HeldLeaf). x.gone) twice_here)) (λ ne. ap (λ (x : HeldLeaf). x.gone) (twice_other j ne))

  set_place_kept : (j : ℕ) → place_at twice j ≡ place_at held j
  unfolding place_at
  set_place_kept j = dite (ℕ_discrete j i) (λ e. rw e (ap (λ (x : HeldLeaf). x.place) twice_here)) (λ ne. ap (λ (x : HeldLeaf). x.place) (twice_other j ne))

  set_here : (store : Text) → (leaf_row held i).gone ≡ false → stored_text twice store i ≡ some (part store start n)
  unfolding stored_text
  set_here store e = rw (twice_here, e)

  pub text_set : TextSet held i start n (set (set held i start_set) i both_set)
  text_set = record {
    rows = length-set once i both_set ∙ length-set held i start_set;
    begins = ap (λ (x : HeldLeaf). x.start) twice_here;
    long = ap (λ (x : HeldLeaf). x.len) twice_here;
    gone = set_gone_kept;
    here = set_here;
    place = set_place_kept;
    other = twice_other;
    other_text = λ store j ne. text_kept held twice store j (twice_other j ne);
    other_leaf = λ named store j ne. leaf_kept held twice named store j (twice_other j ne);
  }

-- ---- `set_gone`

module _ (held : List HeldLeaf) (i : ℕ) (room : i < length held) where
  abbrev gone_set : HeldLeaf
  gone_set = record { start = (leaf_row held i).start; len = (leaf_row held i).len; gone = true; place = (leaf_row held i).place }

  abbrev without : List HeldLeaf
  without = set held i gone_set

  gone_here : leaf_row without i ≡ gone_set
  gone_here = get_or-set_same held i gone_set NO_LEAF room

  gone_other : (j : ℕ) → (j ≡ i → ⊥) → leaf_row without j ≡ leaf_row held j
  gone_other j ne = get_or-set_other held i j gone_set NO_LEAF ne

  no_text : (store : Text) → stored_text without store i ≡ none
  unfolding stored_text
  no_text store = rw gone_here

  gone_place_kept : (j : ℕ) → place_at without j ≡ place_at held j
  unfolding place_at
  gone_place_kept j = dite (ℕ_discrete j i) (λ e. rw e (ap (λ (x : HeldLeaf). x.place) gone_here)) (λ ne. ap (λ (x : HeldLeaf). x.place) (gone_other j ne))

  pub vanished : Vanished held i (set held i gone_set)
  vanished = record {
    rows = length-set held i gone_set;
    gone = ap (λ (x : HeldLeaf). x.gone) gone_here;
    begins = λ j. dite (ℕ_discrete j i) (λ e. rw e (ap (λ (x : HeldLeaf). x.start) gone_here)) (λ ne. ap (λ (x : HeldLeaf). x.start) (gone_other j ne));
    long = λ j. dite (ℕ_discrete j i) (λ e. rw e (ap (λ (x : HeldLeaf). x.len) gone_here)) (λ ne. ap (λ (x : HeldLeaf). x.len) (gone_other j ne));
    here = no_text;
    place = gone_place_kept;
    other = gone_other;
    other_text = λ store j ne. text_kept held without store j (gone_other j ne);
    other_leaf = λ named store j ne. leaf_kept held without named store j (gone_other j ne);
  }

-- ---- the texts that end in the store

-- a leaf that has a text has not vanished
pub live : (held : List HeldLeaf) (store : Text) (i : ℕ) {t : Text} → stored_text held store i ≡ some t → (leaf_row held i).gone ≡ false
unfolding stored_text
live held store i {t} e = go (leaf_row held i).gone refl e
  where
    go : (b : Bool) → (leaf_row held i).gone ≡ b → cond b none (some (part store (leaf_row held i).start (leaf_row held i).len)) ≡ some t → (leaf_row held i).gone ≡ false
    go true q e = let z : ◌≡◌ {A = ℕ} 0 1 = cc in absurd (omega arith)
    go false q e = q

pub good_more : {held : List HeldLeaf} {store : Text} {n used : ℕ} → Good held store n used → {used' : ℕ} → used ≤ used' → used' ≤ length store → Good held store n used'
good_more g a b = record { rows = g.rows; room = b; ends = λ j h. omega (arith, g.ends j h) }

module _ {held : List HeldLeaf} {store : Text} {n used : ℕ} (g : Good held store n used) {i : ℕ} {held' : List HeldLeaf} where
  pub set_good : {start len : ℕ} → TextSet held i start len held' → {used' : ℕ} → used ≤ used' → start + len ≤ used' → used' ≤ length store → Good held' store n used'
  set_good {start} {len} w {used'} a b c = record {
    rows = rw w.rows g.rows;
    room = c;
    ends = λ j h. dite (ℕ_discrete j i) (λ e. rw (e, w.begins, w.long) b)
        (λ ne. rw (w.other j ne) (omega (arith, g.ends j h)));
  }

  pub gone_good : Vanished held i held' → Good held' store n used
  gone_good w = record { rows = rw w.rows g.rows; room = g.room; ends = λ j h. rw (w.begins j, w.long j) (g.ends j h) }

-- ---- where what stands behind the texts changed

module _ {held : List HeldLeaf} {store store' : Text} {n used : ℕ} (g : Good held store n used) (k : SameTo used store store') where
  pub kept_text : (j : ℕ) → j < n → stored_text held store' j ≡ stored_text held store j
  unfolding stored_text
  kept_text j h = rw (part_same k (leaf_row held j).start (leaf_row held j).len (g.ends j h))

  pub kept_good : Good held store' n used
  kept_good = record { rows = g.rows; room = rw k.long g.room; ends = g.ends }
