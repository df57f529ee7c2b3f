-- Places next to each other, and the delimiter between two. Assumes nothing.
use mathlib.Core.Path.{◌≡◌, refl, sym}
use mathlib.Core.Bool.{Bool, true, false, cond}
use Prim.Native.Nat.{ℕ, ◌+◌, ◌≤◌}
use native.Mathlib.Omega.{arith}
use borrow.Author.Tests.{eqb-true, ne_eqb}
use lib.Dec.{eqb}
use Rattle.text.proofs.Laws.{by_cond}
use Rattle.er7.specs.declared.message.Place.{Place}
use Rattle.er7.specs.declared.separators.Separators.{Separators}
use Rattle.message_model.specs.Message.{ends_leaf, next, at_field, delimiter}
use Rattle.message_model.specs.Chain.{Piece, a_field, a_repetition, a_component, a_subcomponent, next_place}

-- a place from which the delimiter before the next can be told
pub record Positive (p : Place) : Type 0 where
  pub repetition : 1 ≤ p.repetition
  pub component : 1 ≤ p.component
  pub subcomponent : 1 ≤ p.subcomponent

pub positive_field : (n : ℕ) → Positive (at_field n)
unfolding at_field
positive_field n = record { repetition = omega arith; component = omega arith; subcomponent = omega arith }

pub positive_piece : (k : Piece) (p : Place) → Positive p → Positive (next_place k p)
positive_piece a_field p h = record { repetition = omega arith; component = omega arith; subcomponent = omega arith }
positive_piece a_repetition p h = record { repetition = omega arith; component = omega arith; subcomponent = omega arith }
positive_piece a_component p h = record { repetition = h.repetition; component = omega arith; subcomponent = omega arith }
positive_piece a_subcomponent p h = record { repetition = h.repetition; component = h.component; subcomponent = omega arith }

-- ---- the piece that a byte begins

unfoldable pub piece_of : Separators → ℕ → Piece
piece_of s x =
    cond (eqb x s.field) a_field
    (cond (eqb x s.repetition) a_repetition
    (cond (eqb x s.component) a_component a_subcomponent))

pub next_piece : (s : Separators) (x : ℕ) (p : Place) → next s x p ≡ next_place (piece_of s x) p
unfolding next piece_of
next_piece s x p = go (eqb x s.field) (eqb x s.repetition) (eqb x s.component)
  where
    go : (a b c : Bool)
        → cond a (next_place a_field p) (cond b (next_place a_repetition p) (cond c (next_place a_component p) (next_place a_subcomponent p)))
        ≡ next_place (cond a a_field (cond b a_repetition (cond c a_component a_subcomponent))) p
    go true b c = refl
    go false true c = refl
    go false false true = refl
    go false false false = refl

pub positive_next : (s : Separators) (x : ℕ) (p : Place) → Positive p → Positive (next s x p)
positive_next s x p h = rw (next_piece s x p) (positive_piece (piece_of s x) p h)

-- ---- the byte before a piece

abbrev pub byte_of : Separators → Piece → ℕ
byte_of s a_field = s.field
byte_of s a_repetition = s.repetition
byte_of s a_component = s.component
byte_of s a_subcomponent = s.subcomponent

pub delimiter_piece : (s : Separators) (k : Piece) (p : Place) → Positive p → delimiter s (next_place k p) ≡ byte_of s k
unfolding delimiter
delimiter_piece s a_field p h = refl
delimiter_piece s a_repetition p h = rw (ne_eqb (p.repetition + 1) 1 (λ e. omega (arith, h.repetition)))
delimiter_piece s a_component p h = rw (ne_eqb (p.component + 1) 1 (λ e. omega (arith, h.component)))
delimiter_piece s a_subcomponent p h = rw (ne_eqb (p.subcomponent + 1) 1 (λ e. omega (arith, h.subcomponent)))

byte_step : (s : Separators) (x : ℕ) → ends_leaf s x ≡ true → byte_of s (piece_of s x) ≡ x
unfolding piece_of ends_leaf
byte_step s x h =
    by_cond (λ (k : Piece). byte_of s k ≡ x) (eqb x s.field) _ _ (λ e. sym (eqb-true _ _ e)) (λ f.
    by_cond (λ (k : Piece). byte_of s k ≡ x) (eqb x s.repetition) _ _ (λ e. sym (eqb-true _ _ e)) (λ r.
    by_cond (λ (k : Piece). byte_of s k ≡ x) (eqb x s.component) _ _ (λ e. sym (eqb-true _ _ e)) (λ c.
    sym (eqb-true x s.subcomponent (rw (f, r, c) at h)))))

-- the byte before a leaf is the one that its place tells
pub delimiter_next : (s : Separators) (x : ℕ) (p : Place) → Positive p → ends_leaf s x ≡ true → delimiter s (next s x p) ≡ x
delimiter_next s x p h e = rw (next_piece s x p, delimiter_piece s (piece_of s x) p h) (byte_step s x e)
