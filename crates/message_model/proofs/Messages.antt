-- What holds of every message that was read: its header, and where its leaves stand. Assumes nothing.
use mathlib.Core.Path.{◌≡◌, refl, ap}
use mathlib.Core.Bool.{false}
use mathlib.Core.List.{List, [], ◌∷◌, ◌++◌}
use mathlib.Core.Option.{none, some}
use Prim.Native.Nat.{ℕ, ◌+◌, ◌≤◌}
use native.Mathlib.Omega.{arith}
use borrow.Author.Tests.{ne_eqb}
use lib.Dec.{eqb}
use lib.ListN.{take, drop}
use Rattle.text.specs.Text.{Text, bytes}
use Rattle.text.proofs.Laws.{by_cond}
use Rattle.er7.specs.declared.message.Place.{Place}
use Rattle.er7.specs.declared.separators.Separators.{Separators}
use Rattle.message_model.specs.Message.{Leaf, leaf, Label, Segment, segment, is_header_name, separators_of, head_of, message_lines, ends_leaf, next, leaves, leaves_behind, at_field, header_leaves, leaves_of, count, segments, message_of, segments_fault, message_fault}
use Rattle.message_model.proofs.Places.{piece_of, next_piece}
use Rattle.message_model.proofs.Faultless.{HeaderLine, header_line, named_line, faultless_lines, faultless, separators_are, segments_are}
use Rattle.message_model.specs.Chain.{Piece, a_field, next_place, Chain, Chained}

-- ---- the header

-- no segment is a header
abbrev pub NoHeader : List Segment → Type 0
NoHeader [] = Unit {0}
NoHeader (segment g xs ∷ ss) = (is_header_name g.name ≡ false) × NoHeader ss

-- the header's label
abbrev pub header_label : Label
header_label = record { name = bytes "MSH"; occurrence = 1 }

-- MSH-1 and MSH-2 before other leaves
abbrev pub delimiter_leaves : Separators → List Leaf → List Leaf
delimiter_leaves s xs =
    leaf (at_field 1) false (some (s.field ∷ []))
    ∷ leaf (at_field 2) false (some (s.component ∷ s.repetition ∷ s.escape ∷ s.subcomponent ∷ []))
    ∷ xs

-- the first segment is the header, with MSH-1 and MSH-2 in front, and no other is
pub record HeaderFirst (s : Separators) (ss : List Segment) : Type 0 where
  pub rest : List Leaf
  pub others : List Segment
  pub are : ss ≡ segment header_label (delimiter_leaves s rest) ∷ others
  pub no_other : NoHeader others

no_other_header : (s : Separators) (seen ls : List Text) (k n : ℕ) → 1 ≤ k → segments_fault s k n ls ≡ none → NoHeader (segments s seen ls)
unfolding segments
no_other_header s seen [] k n h e = tt
no_other_header s seen (l ∷ ls) k n h e =
    let f = faultless_lines s k n l ls e in
    let z : eqb k 0 ≡ false = ne_eqb k 0 (λ e. omega arith) in
    ((named_line s l (rw z at f.named_or_first)).no_header, no_other_header s (seen ++ take 3 l ∷ []) ls (k + 1) _ (omega arith) f.others)

header_first : (s : Separators) (l : Text) (ls : List Text) → HeaderLine l → segments_fault s 0 0 (l ∷ ls) ≡ none → HeaderFirst s (segments s [] (l ∷ ls))
unfolding segments count leaves_of header_leaves
header_first s l ls h e = record {
  rest = leaves_behind s (at_field 2) (drop 8 l);
  others = segments s (take 3 l ∷ []) ls;
  are = rw h.header (ap (λ (n : Text). segment (record { name = n; occurrence = 1 }) (header_leaves s l) ∷ segments s (take 3 l ∷ []) ls) h.name);
  no_other = no_other_header s (take 3 l ∷ []) ls 1 _ (omega arith) (faultless_lines s 0 0 l ls e).others;
}

pub leaves_of_header : (x : ℕ) (t : Text) → message_fault (x ∷ t) ≡ none → HeaderFirst (message_of (x ∷ t)).separators (message_of (x ∷ t)).segments
leaves_of_header x t e =
    let f = faultless x t e in
    rw (separators_are (x ∷ t) f, segments_are (x ∷ t) f) (header_first _ f.line f.others (header_line f.line f.header) f.no_fault)

-- ---- where the leaves stand

module _ (s : Separators) where
  leaves_chain : (t w : Text) (k : Piece) (p q : Place) → q ≡ next_place k p → Chain p (leaves s q w t)
  unfolding leaves
  leaves_chain [] w k p q e = ((k, e), tt)
  leaves_chain (x ∷ t) w k p q e =
      by_cond (Chain p) (ends_leaf s x) _ _
      (λ _. ((k, e), leaves_chain t [] (piece_of s x) q (next s x q) (next_piece s x q)))
      (λ _. leaves_chain t (w ++ x ∷ []) k p q e)

  behind_chains : (u : Text) (p : Place) → Chain p (leaves_behind s p u)
  unfolding leaves_behind
  behind_chains [] p = tt
  behind_chains (x ∷ t) p = leaves_chain t [] (piece_of s x) p (next s x p) (next_piece s x p)

  pub line_chains : (l : Text) → Chain (at_field 0) (leaves_of s l)
  unfolding leaves_of header_leaves
  line_chains l =
      by_cond (Chain (at_field 0)) (is_header_name (take 3 l)) _ _
      (λ _. ((a_field, unfold at_field in refl), ((a_field, unfold at_field in refl), behind_chains (drop 8 l) (at_field 2))))
      (λ _. behind_chains (drop 3 l) (at_field 0))

  pub segments_chain : (seen ls : List Text) → Chained (segments s seen ls)
  unfolding segments
  segments_chain seen [] = tt
  segments_chain seen (l ∷ ls) = (line_chains l, segments_chain (seen ++ take 3 l ∷ []) ls)

-- of every message, also of one that is refused
pub message_chains : (t : Text) → Chained (message_of t).segments
unfolding message_of
message_chains t = segments_chain (separators_of (head_of (message_lines t))) [] (message_lines t)
