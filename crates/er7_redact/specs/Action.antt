-- action.rs: the actions, reading, printing and applying them. Assumes nothing: these are definitions.
use Rattle.std.specs.Prelude.{Bool, false, cond, ◌||◌, [], ◌∷◌, ◌++◌, ℕ, suc, ◌+◌, ◌-◌, ◌≤◌, eqb, leb, ℤ, pos, negsuc, neg_ℤ, length}
use Rattle.std.specs.Prelude as Std
use Rattle.std.proofs.Math.Option.{Option, none, some, map}
use Rattle.text.specs.Text.{Text, bytes, is_word, part}
use Rattle.text.specs.Characters.{char_count, first_chars, last_chars, character, one_char, mask_text, skip_blanks, word, behind_word}
use Rattle.text.specs.Number.{decimal, Taken, taken, refused, take_number}
use Rattle.pseudonym.specs.Pseudonym as P
use Rattle.calendar.specs.Shift.{shifted}
use Rattle.refusal.specs.declared.Refusal.{Refusal}
use Rattle.refusal.specs.declared.Refusal.TheVariants.{BadAction, BadDayCount}
use Rattle.er7_redact.specs.declared.action.Verb.{Verb}
use Rattle.er7_redact.specs.declared.action.Verb.TheVariants as Verbs
use Rattle.er7_redact.specs.declared.action.Action.{Action as HeldAction}
use Rattle.er7_redact.specs.declared.action.Action.TheVariants as Held

-- "one of eight actions: keep, clear, null, replace, mask, first, last, pseudonym"; "A new action `shift n` moves a date by n days"
pub data Action : Type 0 where
  keep clear null pseudonym : Action
  replace : Text → Action
  mask first last : ℕ → Action
  shift : ℤ → Action

-- an action as a number, each by its own
unfoldable pub kind : Action → ℕ
kind keep = 0
kind clear = 1
kind null = 2
kind pseudonym = 3
kind (replace t) = 4
kind (mask c) = 5
kind (first n) = 6
kind (last n) = 7
kind (shift n) = 8

unfoldable pub is_keep : Action → Bool
is_keep a = eqb (kind a) 0

unfoldable pub is_null_action : Action → Bool
is_null_action a = eqb (kind a) 2

-- ---- reading

-- the name is the first word, and the argument what stands behind the blanks that follow it
unfoldable pub name : Text → Text
name s = word s

unfoldable pub argument : Text → Text
argument s = skip_blanks (behind_word s)

-- "Names ignore case": those with an argument, and all
unfoldable pub verb_with_argument : Text → Verb
verb_with_argument w =
    cond (is_word w (bytes "replace")) Verbs.Replace
    (cond (is_word w (bytes "mask")) Verbs.Mask
    (cond (is_word w (bytes "first")) Verbs.First
    (cond (is_word w (bytes "last")) Verbs.Last
    (cond (is_word w (bytes "shift")) Verbs.Shift Verbs.Unknown))))

unfoldable pub verb : Text → Verb
verb w =
    cond (is_word w (bytes "keep")) Verbs.Keep
    (cond (is_word w (bytes "clear")) Verbs.Clear
    (cond (is_word w (bytes "null")) Verbs.Null
    (cond (is_word w (bytes "pseudonym")) Verbs.Pseudonym (verb_with_argument w))))

unfoldable pub bare : Action → Text → Option Action
bare a [] = some a
bare a (x ∷ s) = none

-- "Bare `replace` writes REDACTED"
unfoldable pub read_replace : Text → Option Action
read_replace [] = some (replace (bytes "REDACTED"))
read_replace (x ∷ s) = some (replace (x ∷ s))

-- "bare `mask` uses `*`"
unfoldable pub read_mask : Text → Option Action
read_mask [] = some (mask 0x2a)
read_mask (x ∷ s) = map mask (one_char (x ∷ s))

-- "`first` and `last` need a count, a leading `+` allowed"
unfoldable pub without_plus : Text → Text
without_plus [] = []
without_plus (x ∷ s) = cond (eqb x 0x2b) s (x ∷ s)

unfoldable pub whole : Taken → Option ℕ
whole (taken n []) = some n
whole (taken n (x ∷ s)) = none
whole refused = none

unfoldable pub read_count : Text → Option ℕ
read_count s = whole (take_number (without_plus s))

-- "n a signed decimal from -3650 to 3650, leading zeros allowed"
abbrev pub DAYS_MAX : ℕ
DAYS_MAX = 3650

unfoldable pub signed : Bool → ℕ → ℤ
signed minus n = cond minus (neg_ℤ (pos n)) (pos n)

unfoldable pub is_negative : Text → Bool
is_negative [] = false
is_negative (x ∷ s) = eqb x 0x2d

unfoldable pub without_sign : Text → Text
without_sign [] = []
without_sign (x ∷ s) = cond (eqb x 0x2b || eqb x 0x2d) s (x ∷ s)

unfoldable pub days_of : Bool → Option ℕ → Option ℤ
days_of minus none = none
days_of minus (some n) = cond (leb n DAYS_MAX) (some (signed minus n)) none

unfoldable pub read_days : Text → Option ℤ
read_days s = days_of (is_negative s) (whole (take_number (without_sign s)))

unfoldable pub read_argument : Verb → Text → Option Action
read_argument Verbs.Keep s = bare keep s
read_argument Verbs.Clear s = bare clear s
read_argument Verbs.Null s = bare null s
read_argument Verbs.Pseudonym s = bare pseudonym s
read_argument Verbs.Replace s = read_replace s
read_argument Verbs.Mask s = read_mask s
read_argument Verbs.First s = map first (read_count s)
read_argument Verbs.Last s = map last (read_count s)
read_argument Verbs.Shift s = map shift (read_days s)
read_argument Verbs.Unknown s = none

-- an action, or the refusal to give: "missing or unreadable"
pub data ActionRead : Type 0 where
  is_action : Action → ActionRead
  no_action : Refusal → ActionRead

-- "15, day count missing, unreadable or out of range, in the place of 7 for this action"
unfoldable pub refusal_of : Verb → Refusal
refusal_of Verbs.Keep = BadAction
refusal_of Verbs.Clear = BadAction
refusal_of Verbs.Null = BadAction
refusal_of Verbs.Pseudonym = BadAction
refusal_of Verbs.Replace = BadAction
refusal_of Verbs.Mask = BadAction
refusal_of Verbs.First = BadAction
refusal_of Verbs.Last = BadAction
refusal_of Verbs.Shift = BadDayCount
refusal_of Verbs.Unknown = BadAction

abbrev pub or_refused : Refusal → Option Action → ActionRead
or_refused e none = no_action e
or_refused e (some a) = is_action a

-- an action from a text with no blanks around it
unfoldable pub read_action : Text → ActionRead
read_action s = let v = verb (name s) in or_refused (refusal_of v) (read_argument v (argument s))

-- ---- printing

-- "Zero prints as `shift 0`; a plus isn't printed"
unfoldable pub print_days : ℤ → Text
print_days (pos n) = decimal n
print_days (negsuc n) = 0x2d ∷ decimal (suc n)

unfoldable pub print_action : Action → Text
print_action keep = bytes "keep"
print_action clear = bytes "clear"
print_action null = bytes "null"
print_action pseudonym = bytes "pseudonym"
print_action (replace t) = bytes "replace " ++ t
print_action (mask c) = bytes "mask " ++ character c
print_action (first n) = bytes "first " ++ decimal n
print_action (last n) = bytes "last " ++ decimal n
print_action (shift n) = bytes "shift " ++ print_days n

-- ---- applying

-- the text that an action writes in the place of the value v, under a key. "Keep and null give no replacement text"
unfoldable pub apply : ℕ → Action → Text → Option Text
apply key keep v = none
apply key clear v = some []
apply key null v = none
apply key pseudonym v = some (P.pseudonym key v)
apply key (replace t) v = some t
apply key (mask c) v = some (mask_text c (char_count v))
apply key (first n) v = some (first_chars n v)
apply key (last n) v = some (last_chars n v)
apply key (shift n) v = some (shifted n v)

-- ---- the enum: an action whose replacement is a part of a text

-- n bytes of t from index i on; no bytes stand for the replacement of a bare `replace`
unfoldable pub replacement : Text → ℕ → ℕ → Text
replacement t i n = cond (eqb n 0) (bytes "REDACTED") (part t i n)

-- the action that a stands for in the text t
unfoldable pub as_action : Text → HeldAction → Action
as_action t Held.Keep = keep
as_action t Held.Clear = clear
as_action t Held.Null = null
as_action t (Held.Replace i n) = replace (replacement t i n)
as_action t (Held.Mask c) = mask c
as_action t (Held.First n) = first n
as_action t (Held.Last n) = last n
as_action t Held.Pseudonym = pseudonym
as_action t (Held.Shift n) = shift n

-- a replacement lies in the text t
abbrev pub ActionHeld : Text → HeldAction → Type 0
ActionHeld t Held.Keep = Unit {0}
ActionHeld t Held.Clear = Unit {0}
ActionHeld t Held.Null = Unit {0}
ActionHeld t (Held.Replace i n) = i + n ≤ length t
ActionHeld t (Held.Mask c) = Unit {0}
ActionHeld t (Held.First n) = Unit {0}
ActionHeld t (Held.Last n) = Unit {0}
ActionHeld t Held.Pseudonym = Unit {0}
ActionHeld t (Held.Shift n) = Unit {0}

-- the enum for what was read, with an argument of n bytes at index i of a text
unfoldable pub held_as : ℕ → ℕ → Action → HeldAction
held_as i n keep = Held.Keep
held_as i n clear = Held.Clear
held_as i n null = Held.Null
held_as i n pseudonym = Held.Pseudonym
held_as i n (replace t) = Held.Replace i n
held_as i n (mask c) = Held.Mask c
held_as i n (first k) = Held.First k
held_as i n (last k) = Held.Last k
held_as i n (shift z) = Held.Shift z

unfoldable pub held_action : ℕ → ℕ → Option Action → Std.Result HeldAction Refusal
held_action i n none = Std.Err BadAction
held_action i n (some a) = Std.Ok (held_as i n a)

unfoldable pub held_read : ℕ → ℕ → ActionRead → Std.Result HeldAction Refusal
held_read i n (is_action a) = Std.Ok (held_as i n a)
held_read i n (no_action e) = Std.Err e

-- where the argument of s begins
unfoldable pub argument_at : Text → ℕ
argument_at s = length s - length (argument s)

-- the length of the text that an action writes, if it writes one
unfoldable pub answer : Option Text → Std.Option ℕ
answer none = Std.None
answer (some w) = Std.Some (length w)

-- what is written of it, and the room that it takes
unfoldable pub written : Option Text → Text
written none = []
written (some w) = w

unfoldable pub room : Option Text → ℕ
room none = 0
room (some w) = length w
