-- What it says of a message that it has no fault. Assumes nothing.
use mathlib.Core.Path.{◌≡◌, refl, ap, ◌∙◌}
use mathlib.Core.Bool.{Bool, true, false, not, cond, ◌&&◌, ◌||◌}
use mathlib.Core.List.{List, [], ◌∷◌, ◌++◌}
use mathlib.Core.Option.{Option, none, some}
use Prim.Native.Nat.{ℕ, ◌+◌, ◌≤◌}
use native.Mathlib.Omega.{arith}
use borrow.Author.Tests.{leb-true, not-true, not-false}
use lib.Dec.{eqb, leb, ltb}
use lib.ListN.{length, take, drop, get_or}
use lib.Seq.{drop-cons}
use Rattle.text.specs.Text.{Text, bytes, same, all}
use Rattle.text.proofs.Laws.{and_left, and_right}
use Rattle.text.proofs.Words.{same_eq}
use Rattle.refusal.specs.declared.Refusal.{Refusal}
use Rattle.refusal.specs.Refusal.{too_long, no_foreign}
use Rattle.refusal.specs.declared.input.Input.TheVariants as Inputs
use Rattle.refusal.specs.Limits.{LEAVES_MAX, SEGMENTS_MAX}
use Rattle.er7.specs.declared.separators.Separators.{Separators}
use Rattle.message_model.specs.Message.{may_delimit_all, separators_of, is_header_name, is_header, ends_in_cr, without_last_cr, segment_lines, message_lines, head_of, is_opened, leaves_of, is_name_byte, is_name, is_named, segments, message_of, segments_fault, message_fault}

-- a test that refuses has passed
passed : (b : Bool) (r : Refusal) (o : Option Refusal) → cond b (some r) o ≡ none → (b ≡ false) × (o ≡ none)
passed true r o e = let z : ◌≡◌ {A = ℕ} 0 1 = cc in absurd (omega arith)
passed false r o e = (refl, e)

pub three : (a b c : Bool) → a && b && c ≡ true → (a ≡ true) × (b ≡ true) × (c ≡ true)
three a b c e = let f = and_left (a && b) c e in (and_left a b f, and_right a b f, and_right (a && b) c e)

four : (a b c d : Bool) → a && b && c && d ≡ true → (a ≡ true) × (b ≡ true) × (c ≡ true) × (d ≡ true)
four a b c d e = let f = three a b c (and_left (a && b && c) d e) in (f.0, f.1, f.2, and_right (a && b && c) d e)

-- ---- a line that is a header

pub record HeaderLine (l : Text) : Type 0 where
  pub long : 8 ≤ length l
  pub name : take 3 l ≡ bytes "MSH"
  pub header : is_header_name (take 3 l) ≡ true
  pub five : drop 3 l ≡ get_or l 3 0 ∷ get_or l 4 0 ∷ get_or l 5 0 ∷ get_or l 6 0 ∷ get_or l 7 0 ∷ drop 8 l
  pub delimit : may_delimit_all (get_or l 3 0 ∷ get_or l 4 0 ∷ get_or l 5 0 ∷ get_or l 6 0 ∷ get_or l 7 0 ∷ []) ≡ true
  pub behind : eqb (length l) 8 || eqb (get_or l 8 0) (get_or l 3 0) ≡ true

pub five_bytes : (l : Text) → 8 ≤ length l → drop 3 l ≡ get_or l 3 0 ∷ get_or l 4 0 ∷ get_or l 5 0 ∷ get_or l 6 0 ∷ get_or l 7 0 ∷ drop 8 l
five_bytes l h =
    drop-cons l 3 0 (omega arith) ∙ ap (λ (z : Text). get_or l 3 0 ∷ z)
    (drop-cons l 4 0 (omega arith) ∙ ap (λ (z : Text). get_or l 4 0 ∷ z)
    (drop-cons l 5 0 (omega arith) ∙ ap (λ (z : Text). get_or l 5 0 ∷ z)
    (drop-cons l 6 0 (omega arith) ∙ ap (λ (z : Text). get_or l 6 0 ∷ z)
    (drop-cons l 7 0 (omega arith)))))

msh_header : (n : Text) → same n (bytes "MSH") ≡ true → is_header_name n ≡ true
unfolding is_header_name
msh_header n e = rw e

pub header_line : (l : Text) → is_header l ≡ true → HeaderLine l
unfolding is_header
header_line l e =
    let b = eqb (length l) 8 || eqb (get_or l 8 0) (get_or l 3 0) in
    let f = four (leb 8 (length l)) (same (take 3 l) (bytes "MSH")) (may_delimit_all (take 5 (drop 3 l))) b e in
    let long : 8 ≤ length l = leb-true 8 (length l) f.0 in
    let five = five_bytes l long in
    record {
      long = long;
      name = same_eq (take 3 l) _ f.1;
      header = msh_header (take 3 l) f.1;
      five = five;
      delimit = rw five at f.2;
      behind = f.3;
    }

-- ---- a line that is another segment

pub record NamedLine (s : Separators) (l : Text) : Type 0 where
  pub long : 3 ≤ length l
  pub name : is_name (take 3 l) ≡ true
  pub no_header : is_header_name (take 3 l) ≡ false
  pub behind : eqb (length l) 3 || eqb (get_or l 3 0) s.field ≡ true

name_no_header : (n : Text) → is_name n ≡ true → is_header_name n ≡ false
unfolding is_name
name_no_header n e = not-true _ (and_right (all is_name_byte n) _ e)

pub named_line : (s : Separators) (l : Text) → is_named s l ≡ true → NamedLine s l
unfolding is_named
named_line s l e =
    let f = three (leb 3 (length l)) (is_name (take 3 l)) (eqb (length l) 3 || eqb (get_or l 3 0) s.field) e in
    record { long = leb-true 3 (length l) f.0; name = f.1; no_header = name_no_header (take 3 l) f.1; behind = f.2 }

-- ---- lines

-- lines that follow k segments with n leaves have no fault: the first is named, or is the first of all, and those behind it have none
pub record FaultlessLines (s : Separators) (k n : ℕ) (l : Text) (ls : List Text) : Type 0 where
  pub named_or_first : eqb k 0 || is_named s l ≡ true
  pub within_limits : leb SEGMENTS_MAX k || ltb LEAVES_MAX (n + length (leaves_of s l)) ≡ false
  pub others : segments_fault s (k + 1) (n + length (leaves_of s l)) ls ≡ none

pub faultless_lines : (s : Separators) (k n : ℕ) (l : Text) (ls : List Text) → segments_fault s k n (l ∷ ls) ≡ none → FaultlessLines s k n l ls
unfolding segments_fault
faultless_lines s k n l ls e =
    let a = passed (not (eqb k 0 || is_named s l)) _ _ e in
    let b = passed (leb SEGMENTS_MAX k || ltb LEAVES_MAX (n + length (leaves_of s l))) _ _ a.1 in
    record { named_or_first = not-false _ a.0; within_limits = b.0; others = b.1 }

-- there is a first line
pub record Lines (ls : List Text) : Type 0 where
  pub line : Text
  pub others : List Text
  pub are : ls ≡ line ∷ others

pub lines : (w t : Text) → Lines (segment_lines w t)
unfolding segment_lines
lines w [] = record { line = w; others = []; are = refl }
lines w (x ∷ t) = go (eqb x 0x0d) (lines (w ++ x ∷ []) t)
  where
    go : (b : Bool) → Lines (segment_lines (w ++ x ∷ []) t) → Lines (cond b (w ∷ segment_lines [] t) (segment_lines (w ++ x ∷ []) t))
    go true h = record { line = w; others = segment_lines [] t; are = refl }
    go false h = h

-- ---- a message

pub not_too_long : (t : Text) → message_fault t ≡ none → too_long t ≡ false
unfolding message_fault
not_too_long t e = (passed (too_long t) _ _ e).0

-- one of no bytes has no segments
pub no_segments : (message_of []).segments ≡ []
unfolding message_of message_lines segments
no_segments = refl

pub lines_are : (t : Text) → (length t ≡ 0 → ⊥) → message_lines t ≡ segment_lines [] (without_last_cr t)
unfolding message_lines
lines_are [] h = absurd (h refl)
lines_are (x ∷ t) h = refl

-- one that has bytes
pub record Faultless (t : Text) : Type 0 where
  pub line : Text
  pub others : List Text
  pub are : message_lines t ≡ line ∷ others
  pub header : is_header line ≡ true
  pub no_fault : segments_fault (separators_of line) 0 0 (line ∷ others) ≡ none

pub faultless : (x : ℕ) (t : Text) → message_fault (x ∷ t) ≡ none → Faultless (x ∷ t)
unfolding message_fault message_lines head_of is_opened
faultless x t e =
    let f = lines [] (without_last_cr (x ∷ t)) in
    let a = passed (too_long (x ∷ t)) _ _ e in
    let b = passed (not (no_foreign Inputs.Message (x ∷ t))) _ _ a.1 in
    let c = passed (not (is_header f.line)) _ (segments_fault (separators_of f.line) 0 0 (f.line ∷ f.others)) (rw f.are at b.1) in
    record {
      line = f.line;
      others = f.others;
      are = f.are;
      header = not-false _ c.0;
      no_fault = c.1;
    }

pub separators_are : (t : Text) (f : Faultless t) → (message_of t).separators ≡ separators_of f.line
unfolding message_of head_of
separators_are t f = rw f.are

pub segments_are : (t : Text) (f : Faultless t) → (message_of t).segments ≡ segments (separators_of f.line) [] (f.line ∷ f.others)
unfolding message_of head_of
segments_are t f = rw f.are

pub last_is : (t : Text) → (message_of t).last_cr ≡ ends_in_cr t
unfolding message_of
last_is t = refl
