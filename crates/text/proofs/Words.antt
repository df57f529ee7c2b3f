-- Laws of `same`, `lower` and `is_word`. Assumes nothing.
use mathlib.Core.Path.{◌≡◌, refl, sym, ap, ◌∙◌}
use mathlib.Core.Bool.{true, false, ◌&&◌}
use mathlib.Core.List.{[], ◌∷◌}
use Prim.Native.Nat.{ℕ, zero, suc, ◌<◌}
use native.Mathlib.Omega.{arith}
use borrow.Author.Tests.{eq-eqb, eqb-true, lt-ltb, le-ltb, le-leb, lt-leb}
use lib.Dec.{eqb}
use lib.ListN.{length, get_or, length-map}
use Rattle.std.proofs.Common.{zip}
use Rattle.std.specs.List.{list_all}
use Rattle.std.specs.Char.{to_ascii_lowercase}
use Rattle.std.specs.Str.{bytes_eq}
use Rattle.text.specs.Text.{Text, is_upper, lower_byte, lower, same, is_word}
use Rattle.text.proofs.Laws.{split, and_left, and_right, and_false, clash}

-- `same` tells whether two texts are equal
pub same_refl : (s : Text) → same s s ≡ true
unfolding same
same_refl [] = refl
same_refl (x ∷ s) = rw (eq-eqb x x refl) (same_refl s)

pub same_eq : (s t : Text) → same s t ≡ true → s ≡ t
unfolding same
same_eq [] [] e = refl
same_eq [] (y ∷ t) e = clash (sym e)
same_eq (x ∷ s) [] e = clash (sym e)
same_eq (x ∷ s) (y ∷ t) e =
    rw (eqb-true x y (and_left (eqb x y) (same s t) e)) (ap (λ (l : Text). y ∷ l) (same_eq s t (and_right (eqb x y) (same s t) e)))

pub same_longer : (s t : Text) → (length s ≡ length t → ⊥) → same s t ≡ false
unfolding same
same_longer [] [] h = absurd (h refl)
same_longer [] (y ∷ t) h = refl
same_longer (x ∷ s) [] h = refl
same_longer (x ∷ s) (y ∷ t) h = rw (same_longer s t (λ e. h (ap suc e))) (and_false (eqb x y))

-- it is what `==` of two slices tells
pub same_is : (s t : Text) → same s t ≡ bytes_eq s t
unfolding same
same_is [] [] = refl
same_is [] (y ∷ t) = refl
same_is (x ∷ s) [] = refl
same_is (x ∷ s) (y ∷ t) = rw (same_is s t) refl

-- ---- in lower case

-- a byte's own method gives it
pub lower_is : (x : ℕ) → to_ascii_lowercase x ≡ lower_byte x
unfolding lower_byte is_upper
lower_is x = split x 65
    (λ l. rw (lt-ltb x 65 l, lt-leb 65 x l) refl)
    (λ h. split x 91
    (λ l. rw (le-ltb x 65 h, lt-ltb x 91 l, le-leb 65 x h, le-leb x 90 (omega arith)) refl)
    (λ k. rw (le-ltb x 65 h, le-ltb x 91 k, le-leb 65 x h, lt-leb x 90 (omega arith)) refl))

pub lower_length : (s : Text) → length (lower s) ≡ length s
unfolding lower
lower_length s = length-map s lower_byte

pub lower_at : (s : Text) (j : ℕ) → j < length s → get_or (lower s) j 0 ≡ lower_byte (get_or s j 0)
unfolding lower
lower_at [] j h = absurd (omega arith)
lower_at (x ∷ s) zero h = refl
lower_at (x ∷ s) (suc j) h = lower_at s j (omega arith)

pub word_longer : (s w : Text) → (length s ≡ length w → ⊥) → is_word s w ≡ false
unfolding is_word
word_longer s w h = same_longer (lower s) w (λ e. h (sym (lower_length s) ∙ e))

-- byte by byte
pub word_all : (s w : Text) → length s ≡ length w → list_all (λ (p : ℕ × ℕ). eqb (lower_byte p.0) p.1) (zip s w) ≡ is_word s w
unfolding is_word same lower
word_all [] [] h = refl
word_all [] (y ∷ w) h = absurd (omega (arith, h))
word_all (x ∷ s) [] h = absurd (omega (arith, h))
word_all (x ∷ s) (y ∷ w) h = ap (λ b. eqb (lower_byte x) y && b) (word_all s w (omega (arith, h)))
