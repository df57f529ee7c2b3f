-- Laws of the key: what the reader makes of a byte, and that it reads the key that is defined. Assumes nothing.
use Rattle.std.proofs.Common.{◌≡◌, refl, sym, ◌∙◌, fold, Bool, true, false, cond, ◌&&◌, List, [], ◌∷◌, ◌++◌, ℕ, ◌+◌, ◌*◌, ◌-◌, ◌^◌, ◌≤◌, ◌<◌, arith, lt-ltb, le-ltb, ltb-true, ltb-false, eqb, ltb}
use mathlib.Core.List.{flatten}
use Rattle.std.proofs.Math.Option.{Option, none, some}
use Rattle.text.specs.Text.{Text, is_digit, is_empty, same, run, rest}
use Rattle.text.specs.Number.{worth, taken, refused, take_number}
use Rattle.text.proofs.Decimals.{digit_high}
use Rattle.striplog_text.specs.declared.key.Key.{Key}
use Rattle.striplog_text.specs.declared.key.Key.TheVariants.{Nothing, Digits, Ended, Bad}
use Rattle.striplog_text.specs.Striplog.{at_most_lf, key_taken, read_key}
use Rattle.striplog_text.specs.Key.{with_digit, behind_digits, fed_byte, fed, fed_all, key_of}

-- ---- a byte

module _ (n d : ℕ) where
  pub digit_fits : n * 10 + d < 2 ^ 64 → Digits (n * 10 + d) ≡ with_digit n d
  unfolding with_digit
  digit_fits h = rw (lt-ltb (n * 10 + d) (2 ^ 64) h)

  pub digit_large : 2 ^ 64 ≤ n * 10 + d → Bad ≡ with_digit n d
  unfolding with_digit
  digit_large h = rw (le-ltb (n * 10 + d) (2 ^ 64) h)

-- ---- a chunk

pub fed_fold : (k : Key) (s : Text) → fold fed_byte k s ≡ fed k s
unfolding fed
fed_fold k [] = refl
fed_fold k (x ∷ s) = fed_fold (fed_byte k x) s

-- ---- the reader reads the key that is defined

-- more digits are worth no less
worth_grows : (n : ℕ) (t : Text) → n ≤ worth n t
unfolding worth
worth_grows n [] = omega arith
worth_grows n (x ∷ t) = omega (arith, worth_grows (n * 10 + (x - 48)) t)

fed_bad : (s : Text) → fed Bad s ≡ Bad
unfolding fed fed_byte
fed_bad [] = refl
fed_bad (x ∷ s) = fed_bad s

-- what is left of a key's text behind digits worth n
unfoldable goes_on : ℕ → Text → Option ℕ
goes_on n s = cond (ltb (worth n (run is_digit s)) (2 ^ 64)) (key_taken (taken (worth n (run is_digit s)) (rest is_digit s))) none

module _ (n x : ℕ) (s : Text) where
  goes_digit : is_digit x ≡ true → goes_on n (x ∷ s) ≡ goes_on (n * 10 + (x - 48)) s
  unfolding goes_on run rest worth
  goes_digit h = rw h

  goes_full : is_digit x ≡ true → 2 ^ 64 ≤ n * 10 + (x - 48) → goes_on n (x ∷ s) ≡ none
  unfolding goes_on
  goes_full h k =
      goes_digit h ∙ rw (le-ltb (worth (n * 10 + (x - 48)) (run is_digit s)) (2 ^ 64) (omega (arith, worth_grows (n * 10 + (x - 48)) (run is_digit s))))

  goes_other : is_digit x ≡ false → n < 2 ^ 64 → goes_on n (x ∷ s) ≡ cond (at_most_lf (x ∷ s)) (some n) none
  unfolding goes_on run rest worth key_taken
  goes_other h k = rw (h, lt-ltb n (2 ^ 64) k)

-- a byte that is no digit, and what stands behind it
fed_other : (n x : ℕ) (s : Text) → key_of (fed (cond (eqb x 0x0a) (Ended n) Bad) s) ≡ cond (at_most_lf (x ∷ s)) (some n) none
unfolding fed fed_byte key_of at_most_lf is_empty same
fed_other n x [] = go (eqb x 0x0a)
  where
    go : (b : Bool) → key_of (cond b (Ended n) Bad) ≡ cond (b && true) (some n) none
    go true = refl
    go false = refl
fed_other n x (y ∷ s) = go (eqb x 0x0a)
  where
    go : (b : Bool) → key_of (fed (fed_byte (cond b (Ended n) Bad) y) s) ≡ cond (b && false) (some n) none
    go true = rw (fed_bad s)
    go false = rw (fed_bad s)

goes_none : (n : ℕ) → n < 2 ^ 64 → some n ≡ goes_on n []
unfolding goes_on run rest worth key_taken at_most_lf is_empty
goes_none n h = rw (lt-ltb n (2 ^ 64) h)

fed_digits : (s : Text) (n : ℕ) → n < 2 ^ 64 → key_of (fed (Digits n) s) ≡ goes_on n s
unfolding fed fed_byte key_of behind_digits
fed_digits [] n h = goes_none n h
fed_digits (x ∷ s) n h = go (is_digit x) refl (ltb (n * 10 + (x - 48)) (2 ^ 64)) refl (fed_digits s (n * 10 + (x - 48)))
  where
    go : (a : Bool) → is_digit x ≡ a → (b : Bool) → ltb (n * 10 + (x - 48)) (2 ^ 64) ≡ b
        → (n * 10 + (x - 48) < 2 ^ 64 → key_of (fed (Digits (n * 10 + (x - 48))) s) ≡ goes_on (n * 10 + (x - 48)) s)
        → key_of (fed (cond (is_digit x) (with_digit n (x - 48)) (cond (eqb x 0x0a) (Ended n) Bad)) s) ≡ goes_on n (x ∷ s)
    go true e true f ih = rw (e, ← digit_fits n (x - 48) (ltb-true _ _ f)) (ih (ltb-true _ _ f) ∙ sym (goes_digit n x s e))
    go true e false f ih = rw (e, ← digit_large n (x - 48) (ltb-false _ _ f), fed_bad s) (sym (goes_full n x s e (ltb-false _ _ f)))
    go false e b f ih = rw e (fed_other n x s ∙ sym (goes_other n x s e h))

read_none : none ≡ read_key []
unfolding read_key key_taken take_number run is_empty
read_none = refl

read_other : (x : ℕ) (s : Text) → is_digit x ≡ false → none ≡ read_key (x ∷ s)
unfolding read_key key_taken take_number run is_empty
read_other x s h = rw h

read_digit : (x : ℕ) (s : Text) → is_digit x ≡ true → goes_on (0 * 10 + (x - 48)) s ≡ read_key (x ∷ s)
unfolding read_key key_taken take_number run rest is_empty goes_on worth
read_digit x s h = rw h (go (ltb (worth (0 * 10 + (x - 48)) (run is_digit s)) (2 ^ 64)))
  where
    go : (b : Bool) → cond b (key_taken (taken (worth (0 * 10 + (x - 48)) (run is_digit s)) (rest is_digit s))) none
        ≡ key_taken (cond b (taken (worth (0 * 10 + (x - 48)) (run is_digit s)) (rest is_digit s)) refused)
    go true = refl
    go false = refl

-- the bytes of a file, fed one by one, leave the key that the file holds
pub key_read : (t : Text) → key_of (fed Nothing t) ≡ read_key t
unfolding fed fed_byte key_of
key_read [] = read_none
key_read (x ∷ s) = go (is_digit x) refl
  where
    go : (a : Bool) → is_digit x ≡ a → key_of (fed (cond (is_digit x) (with_digit 0 (x - 48)) Bad) s) ≡ read_key (x ∷ s)
    go true e =
        let h : 0 * 10 + (x - 48) < 2 ^ 64 = omega (arith, digit_high x e) in
        rw (e, ← digit_fits 0 (x - 48) h) (fed_digits s (0 * 10 + (x - 48)) h ∙ read_digit x s e)
    go false e = rw (e, fed_bad s) (read_other x s e)

fed_append : (k : Key) (s t : Text) → fed k (s ++ t) ≡ fed (fed k s) t
unfolding fed
fed_append k [] t = refl
fed_append k (x ∷ s) t = fed_append (fed_byte k x) s t

-- chunk by chunk, however the file is cut
all_fed : (k : Key) (ts : List Text) → fed_all k ts ≡ fed k (flatten ts)
unfolding fed_all fed flatten
all_fed k [] = refl
all_fed k (t ∷ ts) = all_fed (fed k t) ts ∙ sym (fed_append k t (flatten ts))

pub key_read_in_chunks : (ts : List Text) → key_of (fed_all Nothing ts) ≡ read_key (flatten ts)
key_read_in_chunks ts = rw (all_fed Nothing ts) (key_read (flatten ts))
