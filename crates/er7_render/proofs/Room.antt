-- Laws of the room for a turn. Assumes nothing.
use Rattle.std.proofs.Common.{◌≡◌, refl, sym, ap, ◌∙◌, Bool, true, false, cond, List, ℕ, ◌-◌, ◌≤◌, ◌<◌, length, take, drop, arith}
use Rattle.std.proofs.Math.Option.{Option, none, some}
use borrow.Rule.Slice.PartMut.{put_mid, take_put, same_len_mid}
use Rattle.text.specs.Text.{Text, part, SameTo}
use Rattle.text.proofs.Kept.{part_length, same_all}
use Rattle.refusal.specs.Limits.{TEXT_MAX}
use Rattle.er7_table.specs.declared.table.Leaf.{Leaf as HeldLeaf}
use Rattle.er7_table.specs.Table.{leaf_row, stored_text, Good}
use Rattle.er7_render.specs.Stored.{live_len, live_sum, Packed, RoomMade}
use Rattle.er7_render.proofs.Sums.{sum_same}

-- ---- the length of a leaf's text

-- 0 for a leaf that has vanished
abbrev pub text_long : Option Text → ℕ
text_long none = 0
text_long (some t) = length t

module _ {held : List HeldLeaf} {store : Text} {n used : ℕ} (g : Good held store n used) where
  pub live_text : (i : ℕ) → i < n → live_len held i ≡ text_long (stored_text held store i)
  unfolding live_len stored_text part
  live_text i h = go (leaf_row held i).gone
    where
      go : (b : Bool) → cond b 0 (leaf_row held i).len ≡ text_long (cond b none (some (part store (leaf_row held i).start (leaf_row held i).len)))
      go true = refl
      go false = sym (part_length store (leaf_row held i).start (leaf_row held i).len (omega (arith, g.ends i h, g.room)))

-- ---- the buffer beside the store

-- its bytes from index k on were lent, and have come back as e
pub same_part : (k : ℕ) (d e : Text) → k ≤ length d → length e ≡ length (take (length d - k) (drop k d)) → SameTo k d (put_mid k (length d - k) d e)
same_part k d e h l = record { long = same_len_mid k (length d - k) d e l; same = take_put k (length d - k) d e h }

-- ---- `make_room`

module _ {n : ℕ} {held : List HeldLeaf} {store : Text} {used : ℕ} (g : Good held store n used) where
  -- there was room
  pub room_there : used ≤ TEXT_MAX → (bytes : Text) (from : ℕ) → RoomMade n held store bytes from held store bytes used
  room_there h bytes from = record {
    good = g;
    ample = h;
    leaf = λ named i x. refl;
    place = λ i. refl;
    live = λ i x. refl;
    rows = refl;
    beside = same_all;
  }

  -- the texts were moved together
  pub room_packed : {held' : List HeldLeaf} {store' bytes bytes' : Text} {from r : ℕ} → live_sum held 0 n ≤ TEXT_MAX
      → Packed held store n held' store' r × SameTo from bytes bytes' → RoomMade n held store bytes from held' store' bytes' r
  room_packed few p = record {
    good = p.0.good;
    ample = omega (arith, p.0.size);
    leaf = p.0.leaf;
    place = p.0.place;
    live = λ i h. live_text p.0.good i h ∙ ap text_long (p.0.text i h) ∙ sym (live_text g i h);
    rows = p.0.rows;
    beside = p.1;
  }

-- ---- what room is good for

pub room_sum : {n : ℕ} {held : List HeldLeaf} {store bytes : Text} {from : ℕ} {held' : List HeldLeaf} {store' bytes' : Text} {r : ℕ}
    → RoomMade n held store bytes from held' store' bytes' r → live_sum held' 0 n ≡ live_sum held 0 n
room_sum {n} {held} {store} {bytes} {from} {held'} w = sum_same held held' 0 n (λ j a b. w.live j (omega arith))
