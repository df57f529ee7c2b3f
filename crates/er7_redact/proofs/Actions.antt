-- Laws of actions read from an index on. Assumes nothing.
use mathlib.Core.Path.{◌≡◌, refl, sym, ap, ◌∙◌}
use mathlib.Core.Bool.{true, false, ◌||◌}
use mathlib.Core.List.{[], ◌∷◌}
use Rattle.std.proofs.Math.Option.{Option, none, some, map}
use Rattle.std.proofs.Common.{Some, None, Ok, Err}
use Rattle.std.proofs.Common as Std
use Rattle.std.specs.Option.{is_some}
use Rattle.std.specs.Result.{is_ok}
use Rattle.std.proofs.lemmas.Option.{same_Some}
use Rattle.text.proofs.Laws.{clash, same_ok, same_err}
use Prim.Native.Nat.{ℕ, ◌+◌, ◌-◌, ◌≤◌, ◌<◌}
use native.Mathlib.Omega.{arith}
use borrow.Author.Tests.{eq-eqb, ne_eqb}
use lib.Dec.{eqb}
use lib.IntN.{ℤ}
use lib.ListN.{length, take, drop, get_or, length-take, length-drop, drop_of_length-le}
use Rattle.text.specs.declared.bytes.Class.TheVariants.{Blank, NotBlank}
use Rattle.text.specs.Text.{Text, bytes, is_in, is_blank, rest, part, RunEnd}
use Rattle.text.specs.Number.{take_number, as_taken, TakenAt}
use Rattle.text.proofs.Runs.{drop_step}
use Rattle.er7_redact.specs.declared.action.Verb.{Verb}
use Rattle.er7_redact.specs.declared.action.Verb.TheVariants as Verbs
use Rattle.er7_redact.specs.declared.action.Action.{Action as HeldAction}
use Rattle.er7_redact.specs.declared.action.Action.TheVariants as Held
use Rattle.refusal.specs.declared.Refusal.{Refusal}
use Rattle.refusal.specs.declared.Refusal.TheVariants.{BadAction, BadDayCount}
use Rattle.std.specs.Option.{ok_or}
use Rattle.er7_redact.specs.Action.{Action, shift, replacement, name, argument, argument_at, verb, read_action, without_plus, whole, read_count, is_negative, without_sign, read_days, read_mask, read_replace, read_argument, bare, held_as, refusal_of, or_refused, held_action, held_read, answer, written, room}
use Rattle.er7_redact.specs.Inner.{held_bare, held_number, held_count, held_days, Unsigned}

-- ---- counts

module _ {s : Text} {i : ℕ} where
  pub plus_yes : i < length s → get_or s i 0 ≡ 0x2b → Unsigned without_plus s i (i + 1)
  unfolding without_plus
  plus_yes h e = record { high = omega arith; is = sym (rw (drop_step s i h, eq-eqb (get_or s i 0) 0x2b e)) }

  pub plus_no : i < length s → (get_or s i 0 ≡ 0x2b → ⊥) → Unsigned without_plus s i i
  unfolding without_plus
  plus_no h e = record { high = omega arith; is = sym (rw (drop_step s i h, ne_eqb (get_or s i 0) 0x2b e)) }

  pub plus_end : i ≤ length s → length s ≤ i → Unsigned without_plus s i i
  unfolding without_plus
  plus_end l h = record { high = l; is = rw (drop_of_length-le s h) }

-- a number up to the end of s
module _ {s : Text} {k : ℕ} where
  pub whole_found : {n r : ℕ} → TakenAt take_number s k (Some (n, r)) → r ≡ length s → Some n ≡ held_number (whole (take_number (drop k s)))
  unfolding held_number whole as_taken
  whole_found {n} {r} g h = sym (rw (← g.is, drop_of_length-le s {i = r} (omega arith)))

  pub whole_left : {n r : ℕ} → TakenAt take_number s k (Some (n, r)) → (r ≡ length s → ⊥) → None ≡ held_number (whole (take_number (drop k s)))
  unfolding held_number whole as_taken
  whole_left {n} {r} g h = sym (rw (← g.is, drop_step s r (omega (arith, g.inside.1))))

  pub whole_none : TakenAt take_number s k None → None ≡ held_number (whole (take_number (drop k s)))
  unfolding held_number whole as_taken
  whole_none g = sym (rw (← g.is))

-- a number, or a refusal in its place
count_or : (o : Option ℕ) → ok_or (held_number o) BadAction ≡ held_count o
unfolding held_number held_count
count_or none = refl
count_or (some n) = refl

pub count_read : {s : Text} {i k : ℕ} {a : Std.Option ℕ} → Unsigned without_plus s i k → a ≡ held_number (whole (take_number (drop k s))) → ok_or a BadAction ≡ held_count (read_count (drop i s))
unfolding read_count
count_read {s} {i} {k} f e = ap (λ x. ok_or x BadAction) e ∙ count_or (whole (take_number (drop k s))) ∙ ap (λ (t : Text). held_count (whole (take_number t))) f.is

-- ---- days

module _ (s : Text) (i : ℕ) where
  pub minus_told : i < length s → eqb (get_or s i 0) 0x2d ≡ is_negative (drop i s)
  unfolding is_negative
  minus_told h = sym (rw (drop_step s i h))

  pub minus_end : length s ≤ i → false ≡ is_negative (drop i s)
  unfolding is_negative
  minus_end h = sym (rw (drop_of_length-le s h))

module _ {s : Text} {i : ℕ} where
  pub sign_yes : i < length s → (eqb (get_or s i 0) 0x2b || eqb (get_or s i 0) 0x2d) ≡ true → Unsigned without_sign s i (i + 1)
  unfolding without_sign
  sign_yes h e = record { high = omega arith; is = sym (rw (drop_step s i h, e)) }

  pub sign_no : i < length s → (eqb (get_or s i 0) 0x2b || eqb (get_or s i 0) 0x2d) ≡ false → Unsigned without_sign s i i
  unfolding without_sign
  sign_no h e = record { high = omega arith; is = sym (rw (drop_step s i h, e)) }

  pub sign_end : i ≤ length s → length s ≤ i → Unsigned without_sign s i i
  unfolding without_sign
  sign_end l h = record { high = l; is = rw (drop_of_length-le s h) }

-- ---- actions with their arguments

module _ (s : Text) (i : ℕ) (a : HeldAction) where
  pub bare_end : i ≡ length s → Ok a ≡ held_bare a (drop i s)
  unfolding held_bare
  bare_end h = sym (rw (drop_of_length-le s {i = i} (omega arith)))

  pub bare_more : i < length s → Err BadAction ≡ held_bare a (drop i s)
  unfolding held_bare
  bare_more h = sym (rw (drop_step s i h))

module _ (s : Text) (i j n : ℕ) where
  pub mask_bare : i ≡ length s → Ok (Held.Mask 0x2a) ≡ held_action j n (read_mask (drop i s))
  unfolding held_action held_as read_mask
  mask_bare h = sym (rw (drop_of_length-le s {i = i} (omega arith)))

  pub mask_one : i + 1 ≡ length s → Ok (Held.Mask (get_or s i 0)) ≡ held_action j n (read_mask (drop i s))
  unfolding held_action held_as read_mask
  mask_one h = sym (rw (drop_step s i (omega arith), drop_of_length-le s {i = i + 1} (omega arith)))

  pub mask_more : i + 1 < length s → Err BadAction ≡ held_action j n (read_mask (drop i s))
  unfolding held_action read_mask
  mask_more h = sym (rw (drop_step s i (omega arith), drop_step s (i + 1) h))

-- each verb
held_or : (i n : ℕ) (o : Option Action) → held_action i n o ≡ held_read i n (or_refused BadAction o)
unfolding held_action held_read
held_or i n none = refl
held_or i n (some a) = refl

bare_held : (j n : ℕ) (a : Action) (t : Text) → held_bare (held_as j n a) t ≡ held_action j n (bare a t)
unfolding held_bare held_action bare
bare_held j n a [] = refl
bare_held j n a (x ∷ t) = refl

-- what was read of a count, and of days
count_held : {k : ℕ} (j n : ℕ) (f : ℕ → Action) (o : Option ℕ) → Ok k ≡ held_count o → Ok (held_as j n (f k)) ≡ held_action j n (map f o)
unfolding held_count held_action
count_held j n f none e = clash (ap is_ok e)
count_held j n f (some k) e = ap (λ x. Ok (held_as j n (f x))) (same_ok _ _ e)

no_count : {x : Refusal} (j n : ℕ) (f : ℕ → Action) (o : Option ℕ) → Err x ≡ held_count o → Err x ≡ held_action j n (map f o)
unfolding held_count held_action
no_count j n f none e = same_err _ _ e
no_count j n f (some k) e = clash (sym (ap is_ok e))

days_held : {z : ℤ} (j n : ℕ) (o : Option ℤ) → Ok z ≡ held_days o → Ok (Held.Shift z) ≡ held_read j n (or_refused BadDayCount (map shift o))
unfolding held_days held_read held_as
days_held j n none e = clash (ap is_ok e)
days_held j n (some z) e = ap (λ x. Ok (Held.Shift x)) (same_ok _ _ e)

no_days : {x : Refusal} (j n : ℕ) (o : Option ℤ) → Err x ≡ held_days o → Err x ≡ held_read j n (or_refused BadDayCount (map shift o))
unfolding held_days held_read
no_days j n none e = same_err _ _ e
no_days j n (some z) e = clash (sym (ap is_ok e))

module _ {v w : Verb} (j n : ℕ) (t : Text) (e : v ≡ w) (b : refusal_of w ≡ BadAction) {r : Std.Result HeldAction Refusal} where
  pub by_verb : r ≡ held_action j n (read_argument v t) → r ≡ held_read j n (or_refused (refusal_of v) (read_argument v t))
  by_verb g =
      let q : refusal_of v ≡ BadAction = rw e b in
      g ∙ rw q (held_or j n (read_argument v t))

  pub by_bare : (a : Action) → ((u : Text) → read_argument w u ≡ bare a u) → r ≡ held_bare (held_as j n a) t → r ≡ held_read j n (or_refused (refusal_of v) (read_argument v t))
  by_bare a f g =
      let q : read_argument v t ≡ bare a t = rw e (f t) in
      by_verb (g ∙ rw q (bare_held j n a t))

  pub by_count : {k : ℕ} (f : ℕ → Action) → ((u : Text) → read_argument w u ≡ map f (read_count u)) → Ok k ≡ held_count (read_count t) → r ≡ Ok (held_as j n (f k))
      → r ≡ held_read j n (or_refused (refusal_of v) (read_argument v t))
  by_count f h p q =
      let a : read_argument v t ≡ map f (read_count t) = rw e (h t) in
      by_verb (q ∙ rw a (count_held j n f (read_count t) p))

  pub by_no_count : {x : Refusal} (f : ℕ → Action) → ((u : Text) → read_argument w u ≡ map f (read_count u)) → Err x ≡ held_count (read_count t) → r ≡ Err x
      → r ≡ held_read j n (or_refused (refusal_of v) (read_argument v t))
  by_no_count f h p q =
      let a : read_argument v t ≡ map f (read_count t) = rw e (h t) in
      by_verb (q ∙ rw a (no_count j n f (read_count t) p))

module _ {v : Verb} (j n : ℕ) (t : Text) (e : v ≡ Verbs.Shift) where
  pub by_days : {z : ℤ} → Ok z ≡ held_days (read_days t) → Ok (Held.Shift z) ≡ held_read j n (or_refused (refusal_of v) (read_argument v t))
  unfolding refusal_of read_argument
  by_days p = rw e (days_held j n (read_days t) p)

  pub by_no_days : {x : Refusal} → Err x ≡ held_days (read_days t) → Err x ≡ held_read j n (or_refused (refusal_of v) (read_argument v t))
  unfolding refusal_of read_argument
  by_no_days p = rw e (no_days j n (read_days t) p)

-- an argument of n bytes: its bytes, or none
pub replace_held : (s : Text) (i j : ℕ) → Ok (Held.Replace j (length s - i)) ≡ held_action j (length s - i) (read_replace (drop i s))
unfolding held_action held_as read_replace
replace_held s i j = go (drop i s)
  where
    go : (t : Text) → Ok (Held.Replace j (length s - i)) ≡ held_action j (length s - i) (read_replace t)
    go [] = refl
    go (x ∷ t) = refl

-- ---- a whole action

module _ {s : Text} {e k : ℕ} (f : RunEnd (is_in NotBlank) s 0 e) (g : RunEnd (is_in Blank) s e k) where
  name_is : take (e - 0) s ≡ name s
  unfolding name is_in part
  name_is = f.run_is

  argument_is : drop k s ≡ argument s
  unfolding argument is_in
  argument_is = g.rest_is ∙ ap (rest is_blank) f.rest_is

  argument_starts : argument_at s ≡ k
  unfolding argument_at
  argument_starts = rw (← argument_is) (simp length-drop (omega (arith, g.high)))

  argument_length : length (argument s) ≡ length s - k
  argument_length = rw (← argument_is) (length-drop k s)

  pub action_read : (base : ℕ) {v : Verb} {r : Std.Result HeldAction Refusal} → v ≡ verb (take (e - 0) s)
      → r ≡ held_read (base + k) (length s - k) (or_refused (refusal_of v) (read_argument v (drop k s)))
      → r ≡ held_read (base + argument_at s) (length (argument s)) (read_action s)
  unfolding read_action
  action_read base h q = q ∙ rw (h, name_is, argument_is, argument_starts, argument_length)

-- ---- printing

pub replacement_bare : (t : Text) (i n : ℕ) → n ≡ 0 → replacement t i n ≡ bytes "REDACTED"
unfolding replacement
replacement_bare t i n h = rw (eq-eqb n 0 h)

pub replacement_part : (t : Text) (i n : ℕ) → (n ≡ 0 → ⊥) → replacement t i n ≡ part t i n
unfolding replacement
replacement_part t i n h = rw (ne_eqb n 0 h)

pub replacement_length : (t : Text) (i n : ℕ) → (n ≡ 0 → ⊥) → i + n ≤ length t → length (replacement t i n) ≡ n
unfolding part
replacement_length t i n h l = rw (replacement_part t i n h) (simp (length-take, length-drop) (omega arith))

-- ---- applying

pub room_written : (o : Option Text) → room o ≡ length (written o)
unfolding room written
room_written none = refl
room_written (some w) = refl

-- what an answer says
pub answered_nothing : (o : Option Text) → answer o ≡ None → o ≡ none
unfolding answer
answered_nothing none e = refl
answered_nothing (some w) e = clash (ap is_some e)

pub answered_text : (o : Option Text) {n : ℕ} → answer o ≡ Some n → o ≡ some (written o)
unfolding answer written
answered_text none e = clash (sym (ap is_some e))
answered_text (some w) e = refl

pub answered_room : (o : Option Text) {n : ℕ} → answer o ≡ Some n → n ≡ room o
unfolding answer room
answered_room none e = clash (sym (ap is_some e))
answered_room (some w) {n} e = sym (same_Some _ _ e)

pub answered_length : (o : Option Text) {n : ℕ} → answer o ≡ Some n → n ≡ length (written o)
answered_length o e = answered_room o e ∙ room_written o
