-- Laws of `SameTo` and `StandsAt`: what a write leaves as it was, and what then stands in the buffer. Assumes nothing.
use mathlib.Core.Path.{◌≡◌, refl, sym, ap, ◌∙◌}
use mathlib.Core.List.{[], ◌∷◌, ◌++◌, append_assoc}
use Prim.Native.Nat.{ℕ, zero, suc, ◌+◌, ◌-◌, ◌≤◌}
use native.Mathlib.Omega.{arith}
use lib.ListN.{length, take, drop, length-drop}
use lib.Seq.{length-take-le, take-nil, take-take, take_at, drop_at}
use Rattle.text.specs.Text.{Text, part, between, put, Wrote, SameTo, StandsAt}
use Rattle.text.proofs.Runs.{part_slice}
use Rattle.text.proofs.Writes.{wrote_length}

-- ---- the first k bytes are kept

pub same_all : {k : ℕ} {d : Text} → SameTo k d d
same_all = record { long = refl; same = refl }

pub same_then : {k : ℕ} {d e f : Text} → SameTo k d e → SameTo k e f → SameTo k d f
same_then p q = record { long = q.long ∙ p.long; same = q.same ∙ p.same }

pub same_less : {j k : ℕ} {d d' : Text} → j ≤ k → SameTo k d d' → SameTo j d d'
same_less {j} {k} {d} {d'} h p = record { long = p.long; same = sym (take-take j k d' h) ∙ ap (take j) p.same ∙ take-take j k d h }

-- the text up to index e, and of that what stands from index i on
pub between_is : (t : Text) (i e : ℕ) → between t i e ≡ drop i (take e t)
unfolding between
between_is t zero e = let z : e - 0 ≡ e = omega arith in rw z
between_is [] (suc i) e = take-nil (e - suc i) ∙ sym (ap (drop (suc i)) (take-nil e))
between_is (x ∷ t) (suc i) zero = let z : 0 - suc i ≡ 0 = omega arith in rw z
between_is (x ∷ t) (suc i) (suc e) = let z : suc e - suc i ≡ e - i = omega arith in rw z (between_is t i e)

pub part_take : (t : Text) (e i n : ℕ) → i + n ≤ e → part (take e t) i n ≡ part t i n
unfolding part between
part_take t e i n h = ap (take n) (sym (between_is t i e)) ∙ take-take n (e - i) (drop i t) (omega arith)

-- a part that ends at or before e is the same in a text that begins alike
pub part_kept : (t t' : Text) (e : ℕ) → take e t' ≡ take e t → (i n : ℕ) → i + n ≤ e → part t' i n ≡ part t i n
part_kept t t' e q i n h = sym (part_take t' e i n h) ∙ ap (λ (w : Text). part w i n) q ∙ part_take t e i n h

between_part : (t : Text) (i n : ℕ) → between t i (i + n) ≡ part t i n
unfolding between
between_part t i n = part_slice t i n

-- what stands in the first k bytes
module _ {k : ℕ} {d d' : Text} (p : SameTo k d d') where
  pub between_same : (i e : ℕ) → e ≤ k → between d' i e ≡ between d i e
  between_same i e h = between_is d' i e ∙ ap (drop i) (same_less h p).same ∙ sym (between_is d i e)

  pub part_same : (i n : ℕ) → i + n ≤ k → part d' i n ≡ part d i n
  part_same i n h = part_kept d d' k p.same i n h

pub part_length : (d : Text) (i n : ℕ) → i + n ≤ length d → length (part d i n) ≡ n
unfolding part
part_length d i n h = length-take-le n (drop i d) (simp length-drop (omega arith))

-- ---- what was written from index at on

module _ {d d' s : Text} {at r : ℕ} (w : Wrote d at s d' r) where
  before_long : length (take at d) ≡ at
  before_long = length-take-le at d (omega (arith, w.end, w.high))

  written_is : d' ≡ take at d ++ (s ++ drop (at + length s) d)
  unfolding put
  written_is = w.text ∙ append_assoc (take at d) s (drop (at + length s) d)

  pub wrote_same : SameTo at d d'
  wrote_same = record { long = wrote_length w; same = ap (take at) written_is ∙ take_at (take at d) _ at before_long }

  pub wrote_part : part d' at (length s) ≡ s
  unfolding part
  wrote_part = rw (written_is, drop_at (take at d) (s ++ drop (at + length s) d) at before_long) (take_at s _ (length s) refl)

  pub wrote_between : between d' at r ≡ s
  wrote_between = ap (between d' at) w.end ∙ between_part d' at (length s) ∙ wrote_part

  pub wrote_stands : StandsAt d at s d'
  wrote_stands = record { before = wrote_same; room = omega (arith, w.end, w.high); here = wrote_part }

-- what stands in a buffer, where its first bytes were kept before
pub stands_same : {d e f s : Text} {at : ℕ} → SameTo at d e → StandsAt e at s f → StandsAt d at s f
stands_same p q = record { before = same_then p q.before; room = omega (arith, q.room, p.long); here = q.here }
