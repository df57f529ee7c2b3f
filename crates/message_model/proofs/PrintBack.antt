-- A message that was read prints as it came. Assumes nothing.
use mathlib.Core.Path.{◌≡◌, refl, sym, ap, ◌∙◌}
use mathlib.Core.Logic.{◌⊎◌, inl, inr}
use mathlib.Core.Bool.{Bool, true, false, not, cond, ◌&&◌, ◌||◌}
use mathlib.Core.List.{List, [], ◌∷◌, ◌++◌, append-nil, append_assoc}
use mathlib.Core.Option.{none, some}
use Prim.Native.Nat.{ℕ, suc, ◌+◌, ◌-◌, ◌≤◌}
use native.Mathlib.Omega.{arith}
use borrow.Author.Tests.{eqb-true, eqb-false, eq-eqb, ne_eqb, lt-leb}
use lib.Dec.{eqb}
use lib.ListN.{length, take, drop, get_or, take-append-drop, drop_of_length-le}
use lib.Seq.{append_snoc, drop-cons, take-suc, take_all}
use Rattle.text.specs.Text.{Text}
use Rattle.text.proofs.Laws.{clash}
use Rattle.er7.specs.declared.message.Place.{Place}
use Rattle.er7.specs.declared.separators.Separators.{Separators}
use Rattle.message_model.specs.Message.{Leaf, leaf, Label, segment, is_header_name, separators_of, is_header, ends_in_cr, without_last_cr, segment_lines, ends_leaf, next, leaves, leaves_behind, at_field, header_leaves, leaves_of, is_named, count, segments, message_of, segments_fault, message_fault, touchable, delimiter, lead, print_leaves, print_segments, print_message}
use Rattle.message_model.proofs.Places.{Positive, positive_field, positive_next, piece_of, next_piece, delimiter_next}
use Rattle.message_model.proofs.Faultless.{five_bytes, header_line, named_line, faultless_lines, Lines, lines, faultless, separators_are, segments_are, last_is, no_segments, lines_are}
use Rattle.message_model.specs.Chain.{Piece, a_field, a_repetition, a_component, a_subcomponent, next_place}

-- ---- leaves

-- a place whose leaf prints behind its delimiter
record Delimited (g : Label) (p : Place) : Type 0 where
  positive : Positive p
  past : is_header_name g.name ≡ true → 3 ≤ p.field

may_touch : (g : Label) (p : Place) → Delimited g p → touchable g p ≡ true
unfolding touchable
may_touch g p o = go (is_header_name g.name) _ (λ e. lt-leb p.field _ (omega (arith, o.past e)))
  where
    go : (a b : Bool) → (a ≡ true → b ≡ false) → not (a && b) ≡ true
    go true b h = rw (h refl)
    go false b h = refl

field_step : (k : Piece) (p : Place) → p.field ≤ (next_place k p).field
field_step a_field p = omega arith
field_step a_repetition p = omega arith
field_step a_component p = omega arith
field_step a_subcomponent p = omega arith

field_next : (s : Separators) (x : ℕ) (p : Place) → p.field ≤ (next s x p).field
field_next s x p = rw (next_piece s x p) (field_step (piece_of s x) p)

delimited_next : (s : Separators) (x : ℕ) (g : Label) (p : Place) → Delimited g p → Delimited g (next s x p)
delimited_next s x g p o = record {
  positive = positive_next s x p o.positive;
  past = λ e. let a = field_next s x p in omega (arith, o.past e);
}

module _ (s : Separators) (g : Label) where
  leaves_print : (t w : Text) (p : Place) → Delimited g p → print_leaves s g (leaves s p w t) ≡ delimiter s p ∷ (w ++ t)
  unfolding leaves print_leaves lead
  leaves_print [] w p o = rw (may_touch g p o)
  leaves_print (x ∷ t) w p o =
      go (ends_leaf s x) refl (leaves_print t [] (next s x p) (delimited_next s x g p o)) (leaves_print t (w ++ x ∷ []) p o)
    where
      go : (b : Bool) → ends_leaf s x ≡ b → print_leaves s g (leaves s (next s x p) [] t) ≡ delimiter s (next s x p) ∷ t
          → print_leaves s g (leaves s p (w ++ x ∷ []) t) ≡ delimiter s p ∷ ((w ++ x ∷ []) ++ t)
          → print_leaves s g (cond b (leaf p false (some w) ∷ leaves s (next s x p) [] t) (leaves s p (w ++ x ∷ []) t)) ≡ delimiter s p ∷ (w ++ x ∷ t)
      go true e ih ih2 = rw (may_touch g p o, ih, delimiter_next s x p o.positive e)
      go false e ih ih2 = ih2 ∙ rw (append_snoc w x t)

  -- what follows a name or MSH-2 is nothing, or the field delimiter and more
  behind_prints : (u : Text) (p : Place) → Delimited g (next s s.field p) → Positive p → (u ≡ []) ⊎ ((t : Text) × (u ≡ s.field ∷ t))
      → print_leaves s g (leaves_behind s p u) ≡ u
  unfolding leaves_behind print_leaves ends_leaf
  behind_prints u p o h (inl e) = rw e
  behind_prints u p o h (inr (t, e)) =
      rw e (leaves_print t [] _ o ∙ rw (delimiter_next s s.field p h (ends s.field s.repetition s.component s.subcomponent)))
    where
      ends : (f r c b : ℕ) → eqb f f || eqb f r || eqb f c || eqb f b ≡ true
      ends f r c b = rw (eq-eqb f f refl)

-- ---- a line

-- the rest of a line behind n bytes
behind : (f n : ℕ) (l : Text) → n ≤ length l → eqb (length l) n || eqb (get_or l n 0) f ≡ true
    → (drop n l ≡ []) ⊎ ((t : Text) × (drop n l ≡ f ∷ t))
behind f n l h e = go (eqb (length l) n) refl e
  where
    go : (b : Bool) → eqb (length l) n ≡ b → b || eqb (get_or l n 0) f ≡ true → (drop n l ≡ []) ⊎ ((t : Text) × (drop n l ≡ f ∷ t))
    go true q e = inl (drop_of_length-le l {i = n} (omega (arith, eqb-true (length l) n q)))
    go false q e =
        let ne : length l ≡ n → ⊥ = eqb-false (length l) n q in
        inr (drop (suc n) l, drop-cons l n 0 (omega arith) ∙ ap (λ (z : ℕ). z ∷ drop (suc n) l) (eqb-true _ _ e))

-- the label of a line's segment, with the number k
abbrev label_of : Text → ℕ → Label
label_of l k = record { name = take 3 l; occurrence = k }

pub named_prints : (s : Separators) (l : Text) (k : ℕ) → is_named s l ≡ true → take 3 l ++ print_leaves s (label_of l k) (leaves_of s l) ≡ l
unfolding leaves_of
named_prints s l k e =
    let g = label_of l k in
    let f = named_line s l e in
    let o : Delimited g (at_field 0) = record { positive = positive_field 0; past = λ e. clash (sym e ∙ f.no_header) } in
    let d = delimited_next s s.field g (at_field 0) o in
    rw (f.no_header, behind_prints s g (drop 3 l) (at_field 0) d (positive_field 0) (behind s.field 3 l f.long f.behind))
    (take-append-drop 3 l)

third : (s : Separators) (g : Label) → Delimited g (next s s.field (at_field 2))
unfolding next at_field
third s g = rw (eq-eqb s.field s.field refl) (record { positive = positive_field 3; past = λ e. omega arith })

-- any opener: MSH, FHS, BHS
pub opener_prints : (s : Separators) (l : Text) (k : ℕ) → is_header_name (take 3 l) ≡ true → 8 ≤ length l → eqb (length l) 8 || eqb (get_or l 8 0) (get_or l 3 0) ≡ true
    → s ≡ separators_of l → take 3 l ++ print_leaves s (label_of l k) (leaves_of s l) ≡ l
unfolding leaves_of header_leaves at_field separators_of print_leaves lead touchable
opener_prints s l k h long e q =
    let g = label_of l k in
    rw (h, behind_prints s g (drop 8 l) (at_field 2) (third s g) (positive_field 2) (behind s.field 8 l long (rw q e)), h)
    (rw q (ap (λ (z : Text). take 3 l ++ z) (sym (five_bytes l long)) ∙ take-append-drop 3 l))

-- ---- lines

-- lines, each with its CR, the last with one or none
abbrev pub joined : Bool → List Text → Text
joined cr [] = []
joined cr (l ∷ []) = l ++ cond cr (0x0d ∷ []) []
joined cr (l ∷ m ∷ ls) = l ++ 0x0d ∷ joined cr (m ∷ ls)

joined_more : (cr : Bool) (w : Text) (ls : List Text) → Lines ls → joined cr (w ∷ ls) ≡ w ++ 0x0d ∷ joined cr ls
joined_more cr w [] h = let e = h.are in let z : ◌≡◌ {A = ℕ} 0 1 = cc e in absurd (omega arith)
joined_more cr w (l ∷ ls) h = refl

pub lines_join : (cr : Bool) (w t : Text) → joined cr (segment_lines w t) ≡ (w ++ t) ++ cond cr (0x0d ∷ []) []
unfolding segment_lines
lines_join cr w [] = rw append-nil
lines_join cr w (x ∷ t) = go (eqb x 0x0d) refl (lines_join cr [] t) (lines_join cr (w ++ x ∷ []) t)
  where
    go : (b : Bool) → eqb x 0x0d ≡ b → joined cr (segment_lines [] t) ≡ t ++ cond cr (0x0d ∷ []) []
        → joined cr (segment_lines (w ++ x ∷ []) t) ≡ ((w ++ x ∷ []) ++ t) ++ cond cr (0x0d ∷ []) []
        → joined cr (cond b (w ∷ segment_lines [] t) (segment_lines (w ++ x ∷ []) t)) ≡ (w ++ x ∷ t) ++ cond cr (0x0d ∷ []) []
    go true e ih ih2 = joined_more cr w (segment_lines [] t) (lines [] t) ∙ rw (ih, eqb-true x 0x0d e, append_assoc)
    go false e ih ih2 = ih2 ∙ rw (append_snoc w x t)

pub last_back : (t : Text) → without_last_cr t ++ cond (ends_in_cr t) (0x0d ∷ []) [] ≡ t
unfolding without_last_cr ends_in_cr
last_back t = go (eqb (get_or t (length t - 1) 0) 0x0d) refl
  where
    last : (t : Text) → get_or t (length t - 1) 0 ≡ 0x0d → take (length t - 1) t ++ (0x0d ∷ []) ≡ t
    last [] e = absurd (omega (arith, e))
    last (x ∷ t) e =
        let m : length (x ∷ t) - 1 ≡ length t = omega arith in
        let f : get_or (x ∷ t) (length t) 0 ≡ 0x0d = rw m at e in
        rw (m, ← f) (sym (take-suc (x ∷ t) (length t) 0 (omega arith)) ∙ take_all (suc (length t)) (x ∷ t) (omega arith))

    go : (b : Bool) → eqb (get_or t (length t - 1) 0) 0x0d ≡ b → cond b (take (length t - 1) t) t ++ cond b (0x0d ∷ []) [] ≡ t
    go true e = last t (eqb-true _ _ e)
    go false e = append-nil t

-- ---- a message

front : (a b c l : Text) → a ++ b ≡ l → a ++ (b ++ c) ≡ l ++ c
front a b c l e = sym (append_assoc a b c) ∙ ap (λ (z : Text). z ++ c) e

module _ (s : Separators) (cr : Bool) where
  -- one segment in front of the others
  pub one_prints : (l : Text) (g : Label) (xs : List Leaf) (ls seen : List Text) → g.name ++ print_leaves s g xs ≡ l
      → print_segments s cr (segments s seen ls) ≡ joined cr ls → print_segments s cr (segment g xs ∷ segments s seen ls) ≡ joined cr (l ∷ ls)
  unfolding segments print_segments
  one_prints l g xs [] seen e ih = front g.name (print_leaves s g xs) _ l e
  one_prints l g xs (m ∷ ls) seen e ih = rw ih (front g.name (print_leaves s g xs) _ l e)

  pub others_print : (ls seen : List Text) (k n : ℕ) → 1 ≤ k → segments_fault s k n ls ≡ none
      → print_segments s cr (segments s seen ls) ≡ joined cr ls
  unfolding segments print_segments
  others_print [] seen k n h e = refl
  others_print (l ∷ ls) seen k n h e =
      let f = faultless_lines s k n l ls e in
      let z : eqb k 0 ≡ false = ne_eqb k 0 (λ e. omega arith) in
      one_prints l _ _ ls _ (named_prints s l _ (rw z at f.named_or_first))
      (others_print ls (seen ++ take 3 l ∷ []) (k + 1) _ (omega arith) f.others)

  all_print : (l : Text) (ls : List Text) → is_header l ≡ true → s ≡ separators_of l → segments_fault s 0 0 (l ∷ ls) ≡ none
      → print_segments s cr (segments s [] (l ∷ ls)) ≡ joined cr (l ∷ ls)
  unfolding segments count
  all_print l ls h q e =
      let f = header_line l h in
      one_prints l _ _ ls _ (opener_prints s l 1 f.header f.long f.behind q)
      (others_print ls (take 3 l ∷ []) 1 _ (omega arith) (faultless_lines s 0 0 l ls e).others)

pub message_prints : (t : Text) → message_fault t ≡ none → print_message (message_of t) ≡ t
unfolding print_message print_segments
message_prints [] e = rw no_segments
message_prints (x ∷ u) e =
    let t = x ∷ u in
    let f = faultless x u e in
    rw (separators_are t f, segments_are t f, last_is t)
    (all_print (separators_of f.line) (ends_in_cr t) f.line f.others f.header refl f.no_fault
    ∙ ap (joined (ends_in_cr t)) (sym f.are ∙ lines_are t (λ z. omega arith)) ∙ lines_join (ends_in_cr t) [] (without_last_cr t) ∙ last_back t)
