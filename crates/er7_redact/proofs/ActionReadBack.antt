-- A printed action reads back as that action. Assumes nothing.
use mathlib.Core.Path.{◌≡◌, refl, sym, ap, ◌∙◌, subst}
use mathlib.Core.Bool.{Bool, true, false}
use mathlib.Core.List.{[], ◌∷◌, append-nil}
use mathlib.Core.Option.{Option, none, some, map}
use Prim.Native.Nat.{ℕ, zero, suc, ◌+◌, ◌-◌, ◌≤◌, ◌<◌, ◌^◌}
use native.Mathlib.Omega.{arith}
use borrow.Author.Tests.{ne_eqb, le-leb, leb-true, not-true}
use lib.Dec.{eqb, leb}
use lib.IntN.{ℤ, pos, negsuc, nat_abs}
use lib.ListN.{length, drop}
use lib.Seq.{drop-drop, drop-append_seam}
use Rattle.std.proofs.Common as Std
use Rattle.text.specs.Text.{Text, bytes, is_digit, is_upper, is_blank, not_blank, is_empty, lower_byte, lower, same, is_word, run, rest, part, all}
use Rattle.text.specs.Number.{decimal, Taken, taken, refused, take_number}
use Rattle.text.proofs.Laws.{Maybe, and_left, by_cond, clash}
use Rattle.text.proofs.Runs.{stop, rest_stop, stop_rest, run_rest, run_rest_length, part_behind}
use Rattle.text.proofs.Decimals.{OfTaken, NumberFrom, number_from, number_back, decimal_all, digit_low}
use Rattle.er7_redact.specs.declared.action.Verb.{Verb}
use Rattle.er7_redact.specs.declared.action.Verb.TheVariants as Verbs
use Rattle.refusal.specs.declared.Refusal.{Refusal}
use Rattle.refusal.specs.declared.Refusal.TheVariants.{BadAction}
use Rattle.er7_redact.proofs.Actions.{replacement_part}
use Rattle.er7_redact.specs.declared.action.Action.{Action as HeldAction}
use Rattle.er7_redact.specs.Action.{Action, ActionRead, is_action, no_action, refusal_of, or_refused, keep, clear, null, pseudonym, replace, mask, first, last, shift, name, argument, verb_with_argument, verb, bare, read_replace, read_mask, without_plus, whole, read_count, DAYS_MAX, signed, is_negative, without_sign, days_of, read_days, read_argument, read_action, print_days, print_action, replacement, as_action, ActionHeld, held_as, held_read, argument_at}

-- an action as reading gives it
pub data GoodAction : Action → Type 0 where
  good_keep : GoodAction keep
  good_clear : GoodAction clear
  good_null : GoodAction null
  good_pseudonym : GoodAction pseudonym
  good_replace : {t : Text} → is_empty t ≡ false → stop is_blank t ≡ true → GoodAction (replace t)
  good_mask : {c : ℕ} → is_blank c ≡ false → GoodAction (mask c)
  good_first : {n : ℕ} → n < 2 ^ 64 → GoodAction (first n)
  good_last : {n : ℕ} → n < 2 ^ 64 → GoodAction (last n)
  good_shift : {z : ℤ} → nat_abs z ≤ DAYS_MAX → GoodAction (shift z)

-- ---- a good action, printed and read

replace_back : (t : Text) → is_empty t ≡ false → read_replace t ≡ some (replace t)
unfolding read_replace is_empty
replace_back [] h = clash h
replace_back (x ∷ t) h = refl

-- digits begin with no sign and no blank
digit_plain : (x : ℕ) → is_digit x ≡ true → (eqb x 0x2b ≡ false) × (eqb x 0x2d ≡ false) × (is_blank x ≡ false)
unfolding is_blank
digit_plain x h =
    let l = digit_low x h in
    (ne_eqb x 0x2b (omega arith), ne_eqb x 0x2d (omega arith), rw (ne_eqb x 32 (omega arith), ne_eqb x 9 (omega arith)))

whole_back : (n : ℕ) → n < 2 ^ 64 → whole (take_number (decimal n)) ≡ some n
unfolding whole
whole_back n h = rw (← append-nil (decimal n), number_back n [] h (unfold stop in refl))

count_back : (n : ℕ) → n < 2 ^ 64 → read_count (decimal n) ≡ some n
unfolding read_count
count_back n h = rw (unsigned (decimal n) (decimal_all n)) (whole_back n h)
  where
    unsigned : (s : Text) → all is_digit s ≡ true → without_plus s ≡ s
    unsigned [] e = unfold without_plus in refl
    unsigned (x ∷ s) e = unfold without_plus all in rw (digit_plain x (and_left (is_digit x) (all is_digit s) e)).0

unsigned_days : (s : Text) → all is_digit s ≡ true → (is_negative s ≡ false) × (without_sign s ≡ s)
unfolding is_negative without_sign all
unsigned_days [] e = (refl, refl)
unsigned_days (x ∷ s) e = let p = digit_plain x (and_left (is_digit x) (all is_digit s) e) in rw (p.0, p.1) (refl, refl)

days_back : (z : ℤ) → nat_abs z ≤ DAYS_MAX → read_days (print_days z) ≡ some z
unfolding read_days print_days days_of signed
days_back (pos n) h =
    let u = unsigned_days (decimal n) (decimal_all n) in
    rw (u.0, u.1, whole_back n (omega arith), le-leb n DAYS_MAX h)
days_back (negsuc n) h = unfold is_negative without_sign in rw (whole_back (suc n) (omega arith), le-leb (suc n) DAYS_MAX h)

decimal_begins : (n : ℕ) → stop is_blank (decimal n) ≡ true
decimal_begins n = go (decimal n) (decimal_all n)
  where
    go : (s : Text) → all is_digit s ≡ true → stop is_blank s ≡ true
    go [] e = unfold stop in refl
    go (x ∷ s) e = unfold stop all in rw (digit_plain x (and_left (is_digit x) (all is_digit s) e)).2

days_begin : (z : ℤ) → stop is_blank (print_days z) ≡ true
unfolding print_days
days_begin (pos n) = decimal_begins n
days_begin (negsuc n) = unfold stop is_blank in refl

action_back : (a : Action) → GoodAction a → read_action (print_action a) ≡ is_action a
unfolding read_action refusal_of print_action bytes name argument verb_with_argument verb read_argument bare is_word same lower lower_byte is_upper run rest not_blank is_blank
action_back keep good_keep = refl
action_back clear good_clear = refl
action_back null good_null = refl
action_back pseudonym good_pseudonym = refl
action_back (replace t) (good_replace e b) = rw (rest_stop is_blank t b) (ap (or_refused BadAction) (replace_back t e))
action_back (mask c) (good_mask b) = unfold read_mask in rw b
action_back (first n) (good_first h) = rw (rest_stop is_blank (decimal n) (decimal_begins n), count_back n h)
action_back (last n) (good_last h) = rw (rest_stop is_blank (decimal n) (decimal_begins n), count_back n h)
action_back (shift z) (good_shift h) = rw (rest_stop is_blank (print_days z) (days_begin z), days_back z h)

-- ---- what reading gives

-- what holds of an action without an argument, of one with a count, and of one with days
pub bare_from : (P : Action → Type 0) (a : Action) (s : Text) → P a → Maybe P (bare a s)
unfolding bare
bare_from P a [] g = g
bare_from P a (x ∷ s) g = tt

pub count_from : (P : Action → Type 0) (f : ℕ → Action) → ((n : ℕ) → n < 2 ^ 64 → P (f n)) → (s : Text) → Maybe P (map f (read_count s))
unfolding read_count
count_from P f g s = go (take_number (without_plus s)) (number_from (without_plus s))
  where
    go : (t : Taken) → OfTaken (NumberFrom (without_plus s)) t → Maybe P (map f (whole t))
    go (taken n []) h = unfold whole in g n h.small
    go (taken n (x ∷ r)) h = unfold whole in tt
    go refused h = unfold whole in tt

pub days_from : (P : Action → Type 0) → ((z : ℤ) → nat_abs z ≤ DAYS_MAX → P (shift z)) → (s : Text) → Maybe P (map shift (read_days s))
unfolding read_days days_of
days_from P g s = go (is_negative s) (whole (take_number (without_sign s)))
  where
    size : (m : Bool) (n : ℕ) → nat_abs (signed m n) ≡ n
    size true zero = unfold signed in refl
    size true (suc n) = unfold signed in refl
    size false n = unfold signed in refl

    go : (m : Bool) (o : Option ℕ) → Maybe P (map shift (days_of m o))
    go m none = unfold days_of in tt
    go m (some n) = unfold days_of in
        by_cond (λ (o : Option ℤ). Maybe P (map shift o)) (leb n DAYS_MAX) (some (signed m n)) none
        (λ e. g (signed m n) (rw (size m n) (leb-true n DAYS_MAX e)))
        (λ _. tt)

replace_from : (s : Text) → stop is_blank s ≡ true → Maybe GoodAction (read_replace s)
unfolding read_replace stop is_empty bytes is_blank
replace_from [] h = good_replace refl refl
replace_from (x ∷ s) h = good_replace refl h

mask_from : (s : Text) → stop is_blank s ≡ true → Maybe GoodAction (read_mask s)
unfolding read_mask stop is_blank
mask_from [] h = good_mask refl
mask_from (x ∷ []) h = good_mask (not-true _ h)
mask_from (x ∷ y ∷ s) h = tt

argument_from : (v : Verb) (s : Text) → stop is_blank s ≡ true → Maybe GoodAction (read_argument v s)
unfolding read_argument
argument_from Verbs.Keep s h = bare_from GoodAction keep s good_keep
argument_from Verbs.Clear s h = bare_from GoodAction clear s good_clear
argument_from Verbs.Null s h = bare_from GoodAction null s good_null
argument_from Verbs.Replace s h = replace_from s h
argument_from Verbs.Mask s h = mask_from s h
argument_from Verbs.First s h = count_from GoodAction first (λ n l. good_first l) s
argument_from Verbs.Last s h = count_from GoodAction last (λ n l. good_last l) s
argument_from Verbs.Shift s h = days_from GoodAction (λ z l. good_shift l) s
argument_from Verbs.Pseudonym s h = bare_from GoodAction pseudonym s good_pseudonym
argument_from Verbs.Unknown s h = tt

-- what was read has P, if it is an action
abbrev pub IfRead : (Action → Type 0) → ActionRead → Type 0
IfRead P (is_action a) = P a
IfRead P (no_action e) = Unit {0}

pub if_read : (P : Action → Type 0) (e : Refusal) (o : Option Action) → Maybe P o → IfRead P (or_refused e o)
if_read P e none h = tt
if_read P e (some a) h = h

pub action_from : (s : Text) → IfRead GoodAction (read_action s)
unfolding read_action argument
action_from s = if_read GoodAction (refusal_of (verb (name s))) (read_argument (verb (name s)) (argument s)) (argument_from (verb (name s)) (argument s) (stop_rest is_blank (rest not_blank s)))

-- ---- the law

-- an action that was read, printed, reads back as that action
pub action_read_back : (s : Text) (a : Action) → read_action s ≡ is_action a → read_action (print_action a) ≡ is_action a
action_read_back s a e = action_back a (subst (IfRead GoodAction) e (action_from s))

-- ---- the enum stands for what was read

module _ (t : Text) (i : ℕ) where
  -- the enum for the action a, whose argument u stands in t from index i on
  stands : Text → Action → Type 0
  stands u a = as_action t (held_as i (length u) a) ≡ a

  argument_stands : (v : Verb) (u : Text) → part t i (length u) ≡ u → Maybe (stands u) (read_argument v u)
  unfolding read_argument stands as_action held_as
  argument_stands Verbs.Keep u e = bare_from (stands u) keep u refl
  argument_stands Verbs.Clear u e = bare_from (stands u) clear u refl
  argument_stands Verbs.Null u e = bare_from (stands u) null u refl
  argument_stands Verbs.Replace [] e = unfold read_replace replacement in refl
  argument_stands Verbs.Replace (x ∷ u) e = unfold read_replace in ap replace (replacement_part t i (suc (length u)) (omega arith) ∙ e)
  argument_stands Verbs.Mask [] e = unfold read_mask in refl
  argument_stands Verbs.Mask (x ∷ []) e = unfold read_mask in refl
  argument_stands Verbs.Mask (x ∷ y ∷ u) e = unfold read_mask in tt
  argument_stands Verbs.First u e = count_from (stands u) first (λ n h. refl) u
  argument_stands Verbs.Last u e = count_from (stands u) last (λ n h. refl) u
  argument_stands Verbs.Shift u e = days_from (stands u) (λ z h. refl) u
  argument_stands Verbs.Pseudonym u e = bare_from (stands u) pseudonym u refl
  argument_stands Verbs.Unknown u e = tt

-- the argument is what is left of s behind the name and the blanks
rest_suffix : (p : ℕ → Bool) (s : Text) → drop (length (run p s)) s ≡ rest p s
rest_suffix p s = ap (drop (length (run p s))) (sym (run_rest p s)) ∙ drop-append_seam (run p s) (rest p s)

argument_suffix : (s : Text) → drop (argument_at s) s ≡ argument s
unfolding argument_at argument
argument_suffix s =
    let b = run_rest_length not_blank s in
    let c = run_rest_length is_blank (rest not_blank s) in
    let k : length s - length (rest is_blank (rest not_blank s)) ≡ length (run not_blank s) + length (run is_blank (rest not_blank s)) = omega arith in
    rw (k, ← drop-drop (length (run is_blank (rest not_blank s))) (length (run not_blank s)) s, rest_suffix not_blank s) (rest_suffix is_blank (rest not_blank s))

argument_ends : (s : Text) → argument_at s + length (argument s) ≡ length s
unfolding argument_at argument
argument_ends s = omega (arith, run_rest_length not_blank s, run_rest_length is_blank (rest not_blank s))

-- in a text where s stands from index base on, the enum stands for the action that was read
pub held_stands : (t s : Text) (base : ℕ) (a : Action) → part t base (length s) ≡ s → read_action s ≡ is_action a
    → as_action t (held_as (base + argument_at s) (length (argument s)) a) ≡ a
unfolding read_action stands
held_stands t s base a w e =
    let k = argument_ends s in
    let n : length s - argument_at s ≡ length (argument s) = omega arith in
    let q : part t (base + argument_at s) (length (argument s)) ≡ argument s = rw (← n) (part_behind t s base (argument_at s) w (omega arith) ∙ argument_suffix s) in
    subst (IfRead (stands t (base + argument_at s) (argument s))) e (if_read (stands t (base + argument_at s) (argument s)) (refusal_of (verb (name s))) (read_argument (verb (name s)) (argument s)) (argument_stands t (base + argument_at s) (verb (name s)) (argument s) q))

-- and its replacement lies in that text
held_inside : (t : Text) (i n : ℕ) (a : Action) → i + n ≤ length t → ActionHeld t (held_as i n a)
unfolding held_as
held_inside t i n keep k = tt
held_inside t i n clear k = tt
held_inside t i n null k = tt
held_inside t i n pseudonym k = tt
held_inside t i n (replace w) k = k
held_inside t i n (mask c) k = tt
held_inside t i n (first m) k = tt
held_inside t i n (last m) k = tt
held_inside t i n (shift z) k = tt

pub parsed_held : (t s : Text) (base : ℕ) (r : Std.Result HeldAction Refusal) (h : HeldAction) → base + length s ≤ length t
    → r ≡ held_read (base + argument_at s) (length (argument s)) (read_action s) → r ≡ Std.Ok h → ActionHeld t h
parsed_held t s base r h l e f = go (read_action s) (sym f ∙ e)
  where
    go : (o : ActionRead) → Std.Ok h ≡ held_read (base + argument_at s) (length (argument s)) o → ActionHeld t h
    go (no_action x) q = unfold held_read in let z : ◌≡◌ {A = ℕ} 0 1 = cc in absurd (omega arith)
    go (is_action a) q = unfold held_read in
        let w : h ≡ held_as (base + argument_at s) (length (argument s)) a = cc in
        rw w (held_inside t (base + argument_at s) (length (argument s)) a (omega (arith, argument_ends s)))
