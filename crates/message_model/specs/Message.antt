-- message.rs, separators.rs, render.rs: messages, how they are read, and how they print. Assumes nothing: these are definitions.
use Rattle.std.specs.Prelude.{Bool, true, false, not, cond, ◌&&◌, ◌||◌, List, [], ◌∷◌, ◌++◌, ℕ, ◌+◌, ◌-◌, length, take, drop, get_or, eqb, leb, ltb}
use Rattle.std.proofs.Math.Option.{Option, none, some}
use Rattle.text.specs.Text.{Text, bytes, is_digit, is_upper, is_alphanumeric, is_blank, same, all}
use Rattle.refusal.specs.declared.Refusal.{Refusal}
use Rattle.refusal.specs.declared.Refusal.TheVariants.{TooLong, ForeignByte, BadHeader, BadSegment, TooMany}
use Rattle.refusal.specs.Refusal.{too_long, no_foreign}
use Rattle.refusal.specs.declared.input.Input.TheVariants as Inputs
use Rattle.refusal.specs.Limits.{LEAVES_MAX, SEGMENTS_MAX}
use Rattle.er7.specs.declared.message.Place.{Place}
use Rattle.er7.specs.declared.separators.Separators.{Separators}

-- ---- what a message is

-- the term "leaf": where it stands, whether it is "named", and its bytes as they stand in the message; none if it vanished in a collapse
pub data Leaf : Type 0 where
  leaf : Place → Bool → Option Text → Leaf

-- a segment's name, and its number among the segments of that name
pub record Label : Type 0 where
  pub name : Text
  pub occurrence : ℕ

pub data Segment : Type 0 where
  segment : Label → List Leaf → Segment

pub record Message : Type 0 where
  pub separators : Separators
  pub segments : List Segment
  pub last_cr : Bool

-- ---- the header

-- the names of headers; only MSH opens a message
unfoldable pub is_header_name : Text → Bool
is_header_name n = same n (bytes "MSH") || same n (bytes "FHS") || same n (bytes "BHS")

-- "none a letter, digit, blank, tab, CR or `"`"
unfoldable pub may_delimit : ℕ → Bool
may_delimit b = not (is_alphanumeric b || is_blank b || eqb b 0x0d || eqb b 0x22)

unfoldable pub absent : ℕ → Text → Bool
absent x [] = true
absent x (y ∷ ys) = not (eqb x y) && absent x ys

-- "five different bytes": each may delimit, and is none of those behind it
unfoldable pub may_delimit_all : Text → Bool
may_delimit_all [] = true
may_delimit_all (x ∷ xs) = may_delimit x && absent x xs && may_delimit_all xs

-- "`MSH`, the field delimiter, then component, repetition, escape and subcomponent delimiters"
unfoldable pub separators_of : Text → Separators
separators_of l =
    record { field = get_or l 3 0; component = get_or l 4 0; repetition = get_or l 5 0; escape = get_or l 6 0; subcomponent = get_or l 7 0 }

-- the first line opens so; "Next comes a field delimiter, CR or the end"
unfoldable pub is_header : Text → Bool
is_header l =
    leb 8 (length l) && same (take 3 l) (bytes "MSH") && may_delimit_all (take 5 (drop 3 l))
    && (eqb (length l) 8 || eqb (get_or l 8 0) (get_or l 3 0))

-- ---- lines: "Segments end in CR, the last CR is optional and written back as it came"

unfoldable pub ends_in_cr : Text → Bool
ends_in_cr t = eqb (get_or t (length t - 1) 0) 0x0d

unfoldable pub without_last_cr : Text → Text
without_last_cr t = cond (ends_in_cr t) (take (length t - 1) t) t

-- the lines between CRs; w is the first line so far
unfoldable pub segment_lines : Text → Text → List Text
segment_lines w [] = w ∷ []
segment_lines w (x ∷ t) = let more = segment_lines [] t in cond (eqb x 0x0d) (w ∷ more) (segment_lines (w ++ x ∷ []) t)

-- "An idle console sends nothing": a message of no bytes has no lines
unfoldable pub message_lines : Text → List Text
message_lines [] = []
message_lines (x ∷ t) = segment_lines [] (without_last_cr (x ∷ t))

unfoldable pub head_of : List Text → Text
head_of [] = []
head_of (l ∷ ls) = l

-- "Number 4 keeps only its other cases": the first line, where there is one, is a header
unfoldable pub is_opened : List Text → Bool
is_opened [] = true
is_opened (l ∷ ls) = is_header l

-- ---- leaves: "Every split of an empty text yields one empty piece; a bare name has no fields"

-- a byte that ends a leaf: every delimiter but the escape character
unfoldable pub ends_leaf : Separators → ℕ → Bool
ends_leaf s x = eqb x s.field || eqb x s.repetition || eqb x s.component || eqb x s.subcomponent

-- where the leaf behind the delimiter x stands, if the one before it stands at p
unfoldable pub next : Separators → ℕ → Place → Place
next s x p =
    cond (eqb x s.field) (record { field = p.field + 1; repetition = 1; component = 1; subcomponent = 1 })
    (cond (eqb x s.repetition) (record { field = p.field; repetition = p.repetition + 1; component = 1; subcomponent = 1 })
    (cond (eqb x s.component) (record { field = p.field; repetition = p.repetition; component = p.component + 1; subcomponent = 1 })
    (record { field = p.field; repetition = p.repetition; component = p.component; subcomponent = p.subcomponent + 1 })))

-- the leaves of a text whose first stands at p; w is that leaf's text so far
unfoldable pub leaves : Separators → Place → Text → Text → List Leaf
leaves s p w [] = leaf p false (some w) ∷ []
leaves s p w (x ∷ t) =
    let more = leaves s (next s x p) [] t in
    cond (ends_leaf s x) (leaf p false (some w) ∷ more) (leaves s p (w ++ x ∷ []) t)

-- the leaves of what follows a name or MSH-2, from its delimiter on; p is the place before them
unfoldable pub leaves_behind : Separators → Place → Text → List Leaf
leaves_behind s p [] = []
leaves_behind s p (x ∷ t) = leaves s (next s x p) [] t

unfoldable pub at_field : ℕ → Place
at_field n = record { field = n; repetition = 1; component = 1; subcomponent = 1 }

-- the leaves of a header's line; "MSH-1 and MSH-2 are one leaf each"
unfoldable pub header_leaves : Separators → Text → List Leaf
header_leaves s l =
    leaf (at_field 1) false (some (s.field ∷ []))
    ∷ leaf (at_field 2) false (some (s.component ∷ s.repetition ∷ s.escape ∷ s.subcomponent ∷ []))
    ∷ leaves_behind s (at_field 2) (drop 8 l)

-- the leaves of a line
unfoldable pub leaves_of : Separators → Text → List Leaf
leaves_of s l = cond (is_header_name (take 3 l)) (header_leaves s l) (leaves_behind s (at_field 0) (drop 3 l))

-- ---- segments

unfoldable pub is_name_byte : ℕ → Bool
is_name_byte b = is_upper b || is_digit b

-- "A name is three capitals or digits"; not "a second MSH, any FHS, BHS"
unfoldable pub is_name : Text → Bool
is_name n = all is_name_byte n && not (is_header_name n)

-- a line begins with a name, "followed by a field delimiter or the end"
unfoldable pub is_named : Separators → Text → Bool
is_named s l = leb 3 (length l) && is_name (take 3 l) && (eqb (length l) 3 || eqb (get_or l 3 0) s.field)

-- how many of the names are n
unfoldable pub count : Text → List Text → ℕ
count n [] = 0
count n (m ∷ ms) = cond (same m n) 1 0 + count n ms

-- the segments of lines that follow segments with the names `seen`; "Occurrences count from 1 among equal names"
unfoldable pub segments : Separators → List Text → List Text → List Segment
segments s seen [] = []
segments s seen (l ∷ ls) =
    segment (record { name = take 3 l; occurrence = count (take 3 l) seen + 1 }) (leaves_of s l)
    ∷ segments s (seen ++ take 3 l ∷ []) ls

-- the message of the bytes t
unfoldable pub message_of : Text → Message
message_of t =
    let ls = message_lines t in
    record {
      separators = separators_of (head_of ls);
      segments = segments (separators_of (head_of ls)) [] ls;
      last_cr = ends_in_cr t;
    }

-- ---- refusals: "2, 3, 4, then segments in order with 5 before 6"

-- the first fault of lines that follow k segments with n leaves: "empty, wrongly named, or a second MSH, any FHS, BHS";
-- "over 256 segments, 4,096 leaves"
unfoldable pub segments_fault : Separators → ℕ → ℕ → List Text → Option Refusal
segments_fault s k n [] = none
segments_fault s k n (l ∷ ls) =
    cond (not (eqb k 0 || is_named s l)) (some BadSegment)
    (cond (leb SEGMENTS_MAX k || ltb LEAVES_MAX (n + length (leaves_of s l))) (some TooMany)
    (segments_fault s (k + 1) (n + length (leaves_of s l)) ls))

unfoldable pub message_fault : Text → Option Refusal
message_fault t =
    let ls = message_lines t in
    cond (too_long t) (some TooLong)
    (cond (not (no_foreign Inputs.Message t)) (some ForeignByte)
    (cond (not (is_opened ls)) (some BadHeader)
    (segments_fault (separators_of (head_of ls)) 0 0 ls)))

-- ---- printing

-- "MSH-1 and MSH-2 are never touched"
unfoldable pub touchable : Label → Place → Bool
touchable g p = not (is_header_name g.name && leb p.field 2)

-- the delimiter before a leaf follows from its place
unfoldable pub delimiter : Separators → Place → ℕ
delimiter s p =
    cond (not (eqb p.subcomponent 1)) s.subcomponent
    (cond (not (eqb p.component 1)) s.component
    (cond (not (eqb p.repetition 1)) s.repetition s.field))

-- MSH-1 and MSH-2 are the delimiters themselves, and none stands before them
unfoldable pub lead : Separators → Label → Place → Text
lead s g p = cond (touchable g p) (delimiter s p ∷ []) []

unfoldable pub print_leaves : Separators → Label → List Leaf → Text
print_leaves s g [] = []
print_leaves s g (leaf p n none ∷ xs) = print_leaves s g xs
print_leaves s g (leaf p n (some t) ∷ xs) = lead s g p ++ (t ++ print_leaves s g xs)

unfoldable pub print_segments : Separators → Bool → List Segment → Text
print_segments s cr [] = []
print_segments s cr (segment g xs ∷ []) = g.name ++ (print_leaves s g xs ++ cond cr (0x0d ∷ []) [])
print_segments s cr (segment g xs ∷ z ∷ ss) = g.name ++ (print_leaves s g xs ++ (0x0d ∷ print_segments s cr (z ∷ ss)))

unfoldable pub print_message : Message → Text
print_message m = print_segments m.separators m.last_cr m.segments
