-- Laws of decimal numbers: printing, reading, and reading what was printed. Assumes nothing.
use mathlib.Core.Path.{◌≡◌, refl, sym, ◌∙◌, subst}
use mathlib.Core.Bool.{Bool, true, false, not, ◌&&◌}
use mathlib.Core.List.{[], ◌∷◌, ◌++◌}
use Prim.Native.Nat.{ℕ, zero, suc, ◌+◌, ◌*◌, ◌-◌, ◌/◌, ◌%◌, ◌^◌, ◌≤◌, ◌<◌}
use native.Mathlib.Omega.{arith}
use borrow.Author.Tests.{lt-ltb, le-ltb, le-leb, ltb-true, not-true}
use lib.Dec.{ltb}
use lib.ListN.{length, drop, get_or, set, length-append, length-drop}
use Rattle.text.specs.declared.bytes.Class.TheVariants.{Digit}
use Rattle.std.proofs.Common.{Option, Some, None, option_map, take, cond, ap}
use Rattle.std.proofs.lemmas.Option.{none-some, some_pair_parts}
use Rattle.std.proofs.lemmas.List.{drop-drop}
use Rattle.text.specs.Text.{Text, is_digit, is_in, is_empty, run, rest, Wrote, all}
use Rattle.text.specs.Number.{digits, decimal, worth, Taken, taken, refused, take_number, as_taken, TakenAt}
use Rattle.text.specs.Inner.{in_64_bits, leading}
use Rattle.text.proofs.Laws.{split, at_least, at_most, and_left, and_right, and_true, and_false, by_cond, clash}
use Rattle.text.proofs.Runs.{run_yes, run_no, run_none, stop, run_all, rest_all, all_append, all_run, run_rest_length, drop_run, drop_slice}
use Rattle.text.proofs.Writes.{wrote_byte, wrote_length, wrote_then}

-- ---- printing

-- any number above n bounds the calls as well
bound : (f g n : ℕ) → n < f → n < g → digits f n ≡ digits g n
unfolding digits
bound zero g n h k = absurd (omega arith)
bound (suc f) zero n h k = absurd (omega arith)
bound (suc f) (suc g) n h k = split n 10
    (λ l. rw (lt-ltb n 10 l, digits))
    (λ l. rw (le-ltb n 10 l, digits) (rw (bound f g (n / 10) (omega arith) (omega arith))))

pub decimal_small : (n : ℕ) → n < 10 → decimal n ≡ (48 + n) ∷ []
unfolding decimal digits
decimal_small n h = rw (lt-ltb n 10 h, digits)

pub decimal_more : (n : ℕ) → 10 ≤ n → decimal n ≡ decimal (n / 10) ++ ((48 + n % 10) ∷ [])
unfolding decimal digits
decimal_more n h = rw (le-ltb n 10 h, digits) (rw (bound n (suc (n / 10)) (n / 10) (omega arith) (omega arith)))

pub length_more : (n : ℕ) → 10 ≤ n → length (decimal n) ≡ length (decimal (n / 10)) + 1
length_more n h = rw (decimal_more n h, length-append)

pub length_small : (n : ℕ) → n < 10 → length (decimal n) ≡ 1
length_small n h = rw (decimal_small n h)

pub length_positive : (n : ℕ) → 0 < length (decimal n)
length_positive n = split n 10 (λ h. omega (arith, length_small n h)) (λ h. omega (arith, length_more n h))

-- at most k digits below 10 ^ k
pub length_most : (k n : ℕ) → n < 10 ^ suc k → length (decimal n) ≤ suc k
length_most zero n h = omega (arith, length_small n (omega arith))
length_most (suc k) n h = split n 10 (λ l. omega (arith, length_small n l)) (λ l. omega (arith, length_more n l, length_most k (n / 10) (omega arith)))

-- .. and no fewer from 10 ^ k on
pub length_is : (k n : ℕ) → 10 ^ k ≤ n → n < 10 * 10 ^ k → length (decimal n) ≡ k + 1
length_is zero n l h = omega (arith, length_small n (omega arith))
length_is (suc k) n l h = omega (arith, length_more n (omega arith), length_is k (n / 10) (omega arith) (omega arith))

pub length_u64 : (n : ℕ) → n < 2 ^ 64 → length (decimal n) ≤ 20
length_u64 n h = length_most 19 n (omega arith)

-- a digit, and a digit behind those of the quotient
module _ (d : Text) (at n v : ℕ) where
  pub wrote_digit : n < 10 → v ≡ 48 + n → at + length (decimal n) ≤ length d → Wrote d at (decimal n) (set d at v) (at + 1)
  wrote_digit h e r = rw (decimal_small n h, ← e) (wrote_byte d at v (omega (arith, length_small n h)))

  pub wrote_digits : {d' : Text} {k : ℕ} → 10 ≤ n → v ≡ 48 + n % 10 → at + length (decimal n) ≤ length d → Wrote d at (decimal (n / 10)) d' k → Wrote d at (decimal n) (set d' k v) (k + 1)
  wrote_digits {d'} {k} h e r w = rw (decimal_more n h, ← e) (wrote_then w (wrote_byte d' k v (omega (arith, w.end, wrote_length w, length_more n h))))

-- ---- reading

-- more digits are worth no less
worth_grows : (n : ℕ) (t : Text) → n ≤ worth n t
unfolding worth
worth_grows n [] = omega arith
worth_grows n (x ∷ t) = omega (arith, worth_grows (n * 10 + (x - 48)) t)

-- ---- the digits at the front that have been read up to index j are worth n so far

pub record Reading (s : Text) (j n : ℕ) : Type 0 where
  pub small : n < 2 ^ 64
  pub worth_is : worth 0 (run is_digit s) ≡ worth n (run is_digit (drop j s))
  pub many : length (run is_digit s) ≡ j + length (run is_digit (drop j s))

pub reading_start : (s : Text) → Reading s 0 0
reading_start s = record { small = omega arith; worth_is = refl; many = omega arith }

module _ {s : Text} {j n : ℕ} (g : Reading s j n) where
  read : run is_digit (drop j s) ≡ [] → Some (n, j) ≡ leading s
  unfolding leading in_64_bits worth
  read e =
      let w : worth 0 (run is_digit s) ≡ n = g.worth_is ∙ rw e in
      let l : length (run is_digit s) ≡ j = omega (arith, g.many, ap length e) in
      rw (w, l, lt-ltb n (2 ^ 64) g.small)

  pub reading_stop : j < length s → is_digit (get_or s j 0) ≡ false → Some (n, j) ≡ leading s
  reading_stop h e = read (run_no is_digit s j h e)

  pub reading_end : j ≡ length s → Some (n, length s) ≡ leading s
  reading_end h = subst (λ k. Some (n, k) ≡ leading s) h (read (run_none is_digit s j (omega (arith, h))))

  module _ (h : j < length s) (d : is_digit (get_or s j 0) ≡ true) where
    next : worth 0 (run is_digit s) ≡ worth (n * 10 + (get_or s j 0 - 48)) (run is_digit (drop (j + 1) s))
    unfolding worth
    next = g.worth_is ∙ rw (run_yes is_digit s j h d)

    pub reading_more : n * 10 + (get_or s j 0 - 48) < 2 ^ 64 → Reading s (j + 1) (n * 10 + (get_or s j 0 - 48))
    reading_more f = record { small = f; worth_is = next; many = omega (arith, g.many, ap length (run_yes is_digit s j h d)) }

    pub reading_over : 2 ^ 64 ≤ n * 10 + (get_or s j 0 - 48) → leading s ≡ None
    unfolding leading in_64_bits
    reading_over f =
        let k = worth_grows (n * 10 + (get_or s j 0 - 48)) (run is_digit (drop (j + 1) s)) in
        rw (le-ltb (worth 0 (run is_digit s)) (2 ^ 64) (rw next (omega arith)))

-- what a test of the class says of a byte
pub digit_yes : (x : ℕ) {t : Bool} → t ≡ is_in Digit x → t ≡ true → is_digit x ≡ true
unfolding is_in
digit_yes x e h = sym e ∙ h

pub digit_no : (x : ℕ) {t : Bool} → t ≡ is_in Digit x → t ≡ false → is_digit x ≡ false
unfolding is_in
digit_no x e h = sym e ∙ h

pub digit_low : (x : ℕ) → is_digit x ≡ true → 48 ≤ x
unfolding is_digit
digit_low x h = at_least 48 x 57 h

pub digit_high : (x : ℕ) → is_digit x ≡ true → x ≤ 57
unfolding is_digit
digit_high x h = at_most 48 x 57 h

-- ---- a number from index i on, by the digits at the front of what is left there

empty_is : (t : Text) → length t ≡ 0 → is_empty t ≡ true
unfolding is_empty
empty_is [] h = refl
empty_is (x ∷ t) h = absurd (omega (arith, h))

full_is : (t : Text) → (length t ≡ 0 → ⊥) → is_empty t ≡ false
unfolding is_empty
full_is [] h = absurd (h refl)
full_is (x ∷ t) h = refl

-- what is said of the digits at the front
leads : (t : Text) {n k : ℕ} → Some (n, k) ≡ leading t → (ltb (worth 0 (run is_digit t)) (2 ^ 64) ≡ true) × (worth 0 (run is_digit t) ≡ n) × (length (run is_digit t) ≡ k)
unfolding leading in_64_bits
leads t {n} {k} e = go (ltb (worth 0 (run is_digit t)) (2 ^ 64)) refl e
  where
    go : (b : Bool) → ltb (worth 0 (run is_digit t)) (2 ^ 64) ≡ b → ◌≡◌ {A = Option (ℕ × ℕ)} (Some (n, k)) (option_map (λ m. (m, length (run is_digit t))) (cond b (Some (worth 0 (run is_digit t))) None))
        → (ltb (worth 0 (run is_digit t)) (2 ^ 64) ≡ true) × (worth 0 (run is_digit t) ≡ n) × (length (run is_digit t) ≡ k)
    go true q f = let p = some_pair_parts _ _ _ _ (sym f) in (q, p.0, p.1)
    go false q f = absurd (none-some _ (sym f))

leads_none : (t : Text) → None ≡ leading t → ltb (worth 0 (run is_digit t)) (2 ^ 64) ≡ false
unfolding leading in_64_bits
leads_none t e = go (ltb (worth 0 (run is_digit t)) (2 ^ 64)) refl e
  where
    go : (b : Bool) → ltb (worth 0 (run is_digit t)) (2 ^ 64) ≡ b → ◌≡◌ {A = Option (ℕ × ℕ)} None (option_map (λ m. (m, length (run is_digit t))) (cond b (Some (worth 0 (run is_digit t))) None))
        → ltb (worth 0 (run is_digit t)) (2 ^ 64) ≡ false
    go true q f = absurd (none-some _ f)
    go false q f = q

module _ (s : Text) (i : ℕ) where
  pub number_large : None ≡ leading (take (length s - i) (drop i s)) → TakenAt take_number s i None
  unfolding take_number as_taken
  number_large e =
      let p = leads_none (drop i s) (rw (drop_slice s i) at e) in
      record { is = sym (rw (p, and_false)); inside = tt }

  module _ {n k : ℕ} (e : Some (n, k) ≡ leading (take (length s - i) (drop i s))) where
    front : (ltb (worth 0 (run is_digit (drop i s))) (2 ^ 64) ≡ true) × (worth 0 (run is_digit (drop i s)) ≡ n) × (length (run is_digit (drop i s)) ≡ k)
    front = leads (drop i s) (rw (drop_slice s i) at e)

    pub number_high : i ≤ length s → i + k ≤ length s
    number_high h = omega (arith, front.2, run_rest_length is_digit (drop i s), length-drop i s)

    pub no_digits : k ≡ 0 → TakenAt take_number s i None
    unfolding take_number as_taken
    no_digits q =
        let h : length (run is_digit (drop i s)) ≡ 0 = front.2 ∙ q in
        record { is = sym (rw (empty_is (run is_digit (drop i s)) h)); inside = tt }

    pub number_found : i ≤ length s → (k ≡ 0 → ⊥) → TakenAt take_number s i (Some (n, i + k))
    unfolding take_number as_taken
    number_found h q =
        let full : is_empty (run is_digit (drop i s)) ≡ false = full_is (run is_digit (drop i s)) (λ z. q (sym front.2 ∙ z)) in
        let behind : drop (i + k) s ≡ rest is_digit (drop i s) = sym (drop-drop k i s) ∙ rw (← front.2) (drop_run is_digit (drop i s)) in
        record { is = sym (rw (full, front.0, front.1, behind)); inside = (omega arith, number_high h) }

-- an answer, as the arm of a match knows it
pub known : {f : Text → Taken} {s : Text} {i : ℕ} {a b : Option (ℕ × ℕ)} → TakenAt f s i a → a ≡ b → TakenAt f s i b
known {f} {s} {i} g e = subst (TakenAt f s i) e g

pub known_end : {f : Text → Taken} {s : Text} {i n r : ℕ} {a : Option (ℕ × ℕ)} → TakenAt f s i a → a ≡ Some (n, r) → r ≤ length s
known_end g e = (known g e).inside.1

-- ---- what was printed is read

digit_is : (k : ℕ) → k < 10 → is_digit (48 + k) ≡ true
unfolding is_digit
digit_is k h = rw (le-leb 48 (48 + k) (omega arith), le-leb (48 + k) 57 (omega arith))

worth_append : (a : ℕ) (s : Text) (x : ℕ) → worth a (s ++ (x ∷ [])) ≡ worth a s * 10 + (x - 48)
unfolding worth
worth_append a [] x = refl
worth_append a (y ∷ s) x = worth_append (a * 10 + (y - 48)) s x

digits_worth : (f n : ℕ) → n < f → worth 0 (digits f n) ≡ n
unfolding digits worth
digits_worth zero n h = absurd (omega arith)
digits_worth (suc f) n h = split n 10
    (λ l. rw (lt-ltb n 10 l, digits) (omega arith))
    (λ l. rw (le-ltb n 10 l, digits) (rw (worth_append, digits_worth f (n / 10) (omega arith)) (omega arith)))

digits_all : (f n : ℕ) → all is_digit (digits f n) ≡ true
unfolding digits all
digits_all zero n = refl
digits_all (suc f) n = split n 10
    (λ l. rw (lt-ltb n 10 l, digits) (and_true _ _ (digit_is n l) refl))
    (λ l. rw (le-ltb n 10 l, digits) (all_append is_digit (digits f (n / 10)) ((48 + n % 10) ∷ []) (digits_all f (n / 10)) (and_true _ _ (digit_is (n % 10) (omega arith)) refl)))

pub decimal_all : (n : ℕ) → all is_digit (decimal n) ≡ true
unfolding decimal
decimal_all n = digits_all (suc n) n

pub decimal_full : (n : ℕ) → is_empty (decimal n) ≡ false
decimal_full n = go (decimal n) (length_positive n)
  where
    go : (s : Text) → 0 < length s → is_empty s ≡ false
    go [] h = absurd (omega arith)
    go (x ∷ s) h = unfold is_empty in refl

pub number_back : (n : ℕ) (r : Text) → n < 2 ^ 64 → stop is_digit r ≡ true → take_number (decimal n ++ r) ≡ taken n r
unfolding take_number decimal
number_back n r h k =
    rw (run_all is_digit (decimal n) r (decimal_all n) k, rest_all is_digit (decimal n) r (decimal_all n) k, decimal_full n, digits_worth (suc n) n (omega arith), lt-ltb n (2 ^ 64) h)

-- ---- what was read is printed in no more bytes

next_length : (a k : ℕ) → k < 10 → length (decimal (a * 10 + k)) ≤ length (decimal a) + 1
next_length a k h = split (a * 10 + k) 10
    (λ l. omega (arith, length_small (a * 10 + k) l))
    (λ l. let e : (a * 10 + k) / 10 ≡ a = omega arith in
    let m : length (decimal (a * 10 + k)) ≡ length (decimal a) + 1 = length_more (a * 10 + k) l ∙ rw e in omega arith)

worth_length : (a : ℕ) (s : Text) → all is_digit s ≡ true → length (decimal (worth a s)) ≤ length (decimal a) + length s
unfolding worth all
worth_length a [] h = omega arith
worth_length a (x ∷ s) h =
    let d = digit_high x (and_left (is_digit x) (all is_digit s) h) in
    omega (arith, worth_length (a * 10 + (x - 48)) s (and_right (is_digit x) (all is_digit s) h), next_length a (x - 48) (omega arith))

digits_length : (s : Text) → all is_digit s ≡ true → is_empty s ≡ false → length (decimal (worth 0 s)) ≤ length s
unfolding worth all is_empty
digits_length [] h n = clash n
digits_length (x ∷ s) h n =
    let d = digit_high x (and_left (is_digit x) (all is_digit s) h) in
    omega (arith, worth_length (0 * 10 + (x - 48)) s (and_right (is_digit x) (all is_digit s) h), length_small (0 * 10 + (x - 48)) (omega arith))

-- what holds of a number that was taken, and of what is left
abbrev pub OfTaken : (ℕ → Text → Type 0) → Taken → Type 0
OfTaken P (taken n r) = P n r
OfTaken P refused = Unit {0}

pub record NumberFrom (s : Text) (n : ℕ) (r : Text) : Type 0 where
  pub small : n < 2 ^ 64
  pub shorter : length (decimal n) + length r ≤ length s

pub number_from : (s : Text) → OfTaken (NumberFrom s) (take_number s)
unfolding take_number
number_from s = by_cond (OfTaken (NumberFrom s)) (not (is_empty (run is_digit s)) && ltb (worth 0 (run is_digit s)) (2 ^ 64)) _ refused
    (λ e. record {
      small = ltb-true _ _ (and_right (not (is_empty (run is_digit s))) _ e);
      shorter = omega (arith, run_rest_length is_digit s, digits_length (run is_digit s) (all_run is_digit s) (not-true _ (and_left (not (is_empty (run is_digit s))) _ e)));
    })
    (λ e. tt)
