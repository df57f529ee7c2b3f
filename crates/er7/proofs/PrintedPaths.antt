-- Laws of printed paths. Assumes nothing.
use mathlib.Core.Path.{◌≡◌, refl}
use mathlib.Core.List.{[], ◌∷◌, ◌++◌}
use Prim.Native.Nat.{ℕ, ◌+◌}
use native.Mathlib.Omega.{arith}
use borrow.Author.Tests.{eq-eqb, ne_eqb}
use lib.ListN.{length, length-append, length-take, length-drop}
use Rattle.text.specs.Text.{Text, part}
use Rattle.text.specs.Number.{decimal}
use Rattle.er7.specs.declared.path.Path.{Path as HeldPath}
use Rattle.er7.specs.Path.{in_brackets, behind, print_path, as_path, PathHeld}

module _ (n : ℕ) where
  pub brackets_none : n ≡ 0 → in_brackets n ≡ []
  unfolding in_brackets
  brackets_none h = rw (eq-eqb n 0 h)

  pub brackets_some : (n ≡ 0 → ⊥) → in_brackets n ≡ 0x5b ∷ (decimal n ++ (0x5d ∷ []))
  unfolding in_brackets
  brackets_some h = rw (ne_eqb n 0 h)

  pub brackets_length : (n ≡ 0 → ⊥) → length (in_brackets n) ≡ length (decimal n) + 2
  brackets_length h = rw (brackets_some h) (simp length-append (omega arith))

  pub behind_none : (c : ℕ) → n ≡ 0 → behind c n ≡ []
  unfolding behind
  behind_none c h = rw (eq-eqb n 0 h)

  pub behind_some : (c : ℕ) → (n ≡ 0 → ⊥) → behind c n ≡ c ∷ decimal n
  unfolding behind
  behind_some c h = rw (ne_eqb n 0 h)

  pub behind_length : (c : ℕ) → (n ≡ 0 → ⊥) → length (behind c n) ≡ length (decimal n) + 1
  behind_length c h = rw (behind_some c h) (omega arith)

-- the name's bytes are there
pub name_length : (t : Text) (p : HeldPath) → PathHeld t p → length (part t p.segment p.segment_len) ≡ p.segment_len
unfolding part
name_length t p h = simp (length-take, length-drop) (omega (arith, h.inside))

pub path_length : (t : Text) (p : HeldPath) → PathHeld t p → length (print_path (as_path t p))
    ≡ p.segment_len + (length (in_brackets p.segment_occurrence) + (length (behind 0x2d p.field) + (length (in_brackets p.repetition) + (length (behind 0x2e p.component) + length (behind 0x2e p.subcomponent)))))
unfolding print_path as_path
path_length t p h = simp length-append (rw (name_length t p h) refl)
