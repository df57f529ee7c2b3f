-- Laws of the first byte of a value. Assumes nothing.
use Rattle.std.proofs.Common.{◌≡◌, refl, sym, ◌∙◌, ℕ, ◌<◌, true, false, [], ◌∷◌, length, take, drop, get_or, arith, eqb}
use Rattle.text.specs.Text.{Text, same, begins}
use Rattle.text.proofs.Laws.{and_id}
use Rattle.text.proofs.Runs.{drop_step}

pub first_none : (v s : Text) → length v ≡ 0 → true ≡ begins (take 1 v) s
unfolding begins same
first_none [] s h = refl
first_none (x ∷ v) s h = absurd (omega arith)

pub first_byte : (v t : Text) (i : ℕ) → 0 < length v → i < length t → eqb (get_or v 0 0) (get_or t i 0) ≡ begins (take 1 v) (drop i t)
unfolding begins same
first_byte [] t i h l = absurd (omega arith)
first_byte (x ∷ v) t i h l = rw (drop_step t i l) (sym (and_id (eqb x (get_or t i 0))))

-- where the first byte differs, v does not stand
pub first_differs : (v s : Text) → begins (take 1 v) s ≡ false → begins v s ≡ false
unfolding begins same
first_differs [] s e = e
first_differs (x ∷ v) [] e = refl
first_differs (x ∷ v) (y ∷ s) e = let f : eqb x y ≡ false = sym (and_id (eqb x y)) ∙ e in rw f
