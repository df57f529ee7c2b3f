-- Laws of `put`, `Wrote` and `zeroed`. Assumes nothing.
use mathlib.Core.Path.{◌≡◌, refl, sym, ap, ◌∙◌}
use mathlib.Core.List.{[], ◌∷◌, ◌++◌, append-nil, append_assoc}
use Prim.Native.Nat.{ℕ, suc, ◌+◌, ◌-◌, ◌≤◌, ◌<◌}
use native.Mathlib.Nat.{add_assoc, add-zero, zero-add}
use native.Mathlib.Numerals.{add-one}
use native.Mathlib.Omega.{arith}
use lib.ListN.{length, take, drop, get_or, set, replicate, length-append, length-take, length-drop, drop_of_length-le, take-append-drop}
use lib.Seq.{drop-length, paste, take-length, take_at, drop_at, drop-drop, set_split, set_at, take-suc, length-take-le}
use borrow.Rule.Slice.PartMut.{put_mid}
use Rattle.std.proofs.lemmas.List.Edits.{paste_more}
use Rattle.text.specs.Text.{Text, put, Wrote, zeroed}

-- ---- a copy that has come to index j of what is copied

pub copied_more : (d₀ : Text) (at : ℕ) (s : Text) (j : ℕ) {d : Text} → d ≡ paste d₀ at s j → at + j < length d₀ → j < length s
    → set d (at + j) (get_or s j 0) ≡ paste d₀ at s (j + 1)
copied_more d₀ at s j e h k = rw e (paste_more d₀ at s j 0 h k)

pub copied_all : (d : Text) (at : ℕ) (s : Text) {j : ℕ} {d' : Text} → d' ≡ paste d at s j → j ≡ length s → at + length s ≤ length d → Wrote d at s d' (at + length s)
unfolding put
copied_all d at s {j} e h l = record { end = refl; high = l; text = e ∙ rw (h, take-length) }

-- ---- a part that was written whole

-- s in the place of the k bytes from index at on
pub wrote_part : (d : Text) (at : ℕ) (s : Text) {k r : ℕ} → k ≡ length s → r ≡ at + length s → r ≤ length d → Wrote d at s (put_mid at k d s) r
unfolding put
wrote_part d at s {k} {r} e f h = record { end = f; high = h; text = rw (e, drop-drop (length s) at d) (sym (append_assoc (take at d) s (drop (at + length s) d))) }

-- ---- several writes

pub put_length : (d : Text) (at : ℕ) (s : Text) → at + length s ≤ length d → length (put d at s) ≡ length d
unfolding put
put_length d at s h = simp (length-append, length-take, length-drop) (omega arith)

-- nothing is written
pub put_none : (d : Text) (at : ℕ) → put d at [] ≡ d
unfolding put
put_none d at = rw (append-nil, add-zero at) (take-append-drop at d)

-- a byte is a text of one byte
pub put_byte : (d : Text) (at v : ℕ) → at < length d → set d at v ≡ put d at (v ∷ [])
unfolding put
put_byte d at v h = set_split d at v h ∙ rw (append_assoc, add-one)

-- a second text behind the first
pub put_put : (d : Text) (at : ℕ) (s : Text) (k : ℕ) (t : Text) → k ≡ at + length s → k + length t ≤ length d
    → put (put d at s) k t ≡ put d at (s ++ t)
unfolding put
put_put d at s k t e h =
    let l : length (take at d ++ s) ≡ k = simp (length-append, length-take) (omega arith) in
    rw (take_at (take at d ++ s) (drop (at + length s) d) k l, ← drop-drop, drop_at (take at d ++ s) (drop (at + length s) d) k l, drop-drop (length t) (at + length s) d, length-append s t, append_assoc (take at d) s t, add_assoc at (length s) (length t))

pub wrote_none : (d : Text) (at : ℕ) → at ≤ length d → Wrote d at [] d at
wrote_none d at h = record { end = omega arith; high = h; text = sym (put_none d at) }

pub wrote_byte : (d : Text) (at v : ℕ) → at < length d → Wrote d at (v ∷ []) (set d at v) (at + 1)
wrote_byte d at v h = record { end = omega arith; high = omega arith; text = put_byte d at v h }

pub wrote_length : {d d' s : Text} {at r : ℕ} → Wrote d at s d' r → length d' ≡ length d
wrote_length {d} {d'} {s} {at} {r} w = ap length w.text ∙ put_length d at s (omega (arith, w.end, w.high))

pub wrote_then : {d d₁ d₂ s t : Text} {at k r : ℕ} → Wrote d at s d₁ k → Wrote d₁ k t d₂ r → Wrote d at (s ++ t) d₂ r
wrote_then {d} {d₁} {d₂} {s} {t} {at} {k} {r} p q =
    let h : r ≤ length d = omega (arith, q.high, wrote_length p) in record {
      end = simp length-append (omega (arith, p.end, q.end));
      high = h;
      text = q.text ∙ rw p.text (put_put d at s k t p.end (omega (arith, q.end)));
    }

-- ---- zeros up to the end

pub zeros_to_end : (d : Text) (at k : ℕ) → at ≤ length d → k ≡ length d - at → put_mid at k d (replicate k 0) ≡ zeroed d at
unfolding zeroed
zeros_to_end d at k h e =
    let l : length d ≤ at + (length d - at) = omega arith in
    rw (e, drop-drop (length d - at) at d, drop_of_length-le d {i = at + (length d - at)} l, append-nil)

-- a byte in front of what was written
pub put_before : (d : Text) (at v : ℕ) (t : Text) → at + suc (length t) ≤ length d → set (put d (at + 1) t) at v ≡ put d at (v ∷ t)
unfolding put
put_before d at v t h =
    let q : at + 1 + length t ≡ at + suc (length t) = omega arith in
    rw (q, add-one at, take-suc d at 0 (omega arith))
    (simp append_assoc (set_at (take at d) _ (t ++ drop (at + suc (length t)) d) v at (length-take-le at d (omega arith))))

-- all of a buffer is written
pub put_whole : (d s : Text) → length s ≡ length d → put d 0 s ≡ s
unfolding put
put_whole d s e = rw (zero-add, e, drop-length) (append-nil s)
