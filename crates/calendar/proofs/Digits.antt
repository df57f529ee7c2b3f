-- Laws of digits: texts of digits, the numbers they are worth, and numbers spelled with eight digits. Assumes nothing.
use Rattle.std.proofs.Common.{◌≡◌, refl, sym, ap, ◌∙◌, true, ◌&&◌, [], ◌∷◌, ◌++◌, append_assoc, append-nil, ℕ, zero, suc, ◌+◌, ◌*◌, ◌-◌, ◌/◌, ◌%◌, ◌≤◌, ◌<◌, add-zero, zero-add, add-suc, suc-add, add-one, arith, le-leb, length, take, drop, get_or, length-take, take-append-drop, take-suc, take_all}
use Rattle.std.specs.List.{list_all}
use Rattle.text.specs.declared.bytes.Class.TheVariants.{Digit}
use Rattle.text.specs.Text.{Text, is_digit, is_in, all}
use Rattle.text.specs.Number.{worth, positional}
use Rattle.text.proofs.Laws.{and_left, and_right, and_true}
use Rattle.text.proofs.Runs.{all_append}
use Rattle.text.proofs.Decimals.{digit_low, digit_high}
use Rattle.calendar.specs.Shift.{digit}

-- ---- a text of digits

pub all_in : (s : Text) → list_all (is_in Digit) s ≡ all is_digit s
unfolding all is_in
all_in [] = refl
all_in (x ∷ s) = ap (λ b. is_digit x && b) (all_in s)

-- both parts of a text of digits
pub all_parts : (a b : Text) → all is_digit (a ++ b) ≡ true → (all is_digit a ≡ true) × (all is_digit b ≡ true)
unfolding all
all_parts [] b e = (refl, e)
all_parts (x ∷ a) b e =
    let r = all_parts a b (and_right (is_digit x) (all is_digit (a ++ b)) e) in
    (and_true (is_digit x) (all is_digit a) (and_left (is_digit x) (all is_digit (a ++ b)) e) r.0, r.1)

digit_at : (s : Text) (i : ℕ) → all is_digit s ≡ true → i < length s → is_digit (get_or s i 0) ≡ true
unfolding all
digit_at [] i e h = absurd (omega arith)
digit_at (x ∷ s) zero e h = and_left (is_digit x) (all is_digit s) e
digit_at (x ∷ s) (suc i) e h = digit_at s i (and_right (is_digit x) (all is_digit s) e) (omega arith)

-- ---- what digits are worth

worth_append : (a : ℕ) (s t : Text) → worth a (s ++ t) ≡ worth (worth a s) t
unfolding worth
worth_append a [] t = refl
worth_append a (x ∷ s) t = worth_append (a * 10 + (x - 48)) s t

-- 10 to the power i
unfoldable pub limit : ℕ → ℕ
limit zero = 1
limit (suc i) = 10 * limit i

limit_grows : (i j : ℕ) → limit i ≤ limit (j + i)
unfolding limit
limit_grows i zero = rw (zero-add i) (omega arith)
limit_grows i (suc j) = rw (suc-add j i) (omega (arith, limit_grows i j))

limit_most : (i : ℕ) → i < 8 → limit i ≤ 10000000
unfolding limit
limit_most i h = let e : (7 - i) + i ≡ 7 = omega arith in omega (arith, rw e at (limit_grows i (7 - i)))

-- n is what the first i of at most eight digits are worth
pub record Reading (s : Text) (i n : ℕ) : Type 0 where
  pub few : length s ≤ 8
  pub digits : all is_digit s ≡ true
  pub small : n < limit i
  pub is : n ≡ worth 0 (take i s)

pub reading_start : (s : Text) → all is_digit s ≡ true → Reading (take 8 s) 0 0
unfolding limit worth
reading_start s a = record {
  few = omega (arith, length-take 8 s);
  digits = (all_parts (take 8 s) (drop 8 s) (rw (take-append-drop 8 s) a)).0;
  small = omega arith;
  is = refl;
}

module _ {s : Text} {i n : ℕ} (r : Reading s i n) (h : i < length s) where
  pub reading_low : 48 ≤ get_or s i 0
  reading_low = digit_low (get_or s i 0) (digit_at s i r.digits h)

  pub reading_fits : n * 10 + (get_or s i 0 - 48) < 100000000
  reading_fits = omega (arith, r.small, r.few, limit_most i (omega (arith, r.few)), digit_high (get_or s i 0) (digit_at s i r.digits h))

  pub reading_more : {v : ℕ} → v ≡ get_or s i 0 - 48 → Reading s (i + 1) (n * 10 + v)
  unfolding limit worth
  reading_more e = rw (add-one i) (record {
    few = r.few;
    digits = r.digits;
    small = omega (arith, r.small, digit_high (get_or s i 0) (digit_at s i r.digits h));
    is = sym (rw (take-suc s i 0 h, worth_append 0 (take i s) (get_or s i 0 ∷ []), r.is, e));
  })

pub reading_end : {s : Text} {i n : ℕ} → Reading s i n → length s ≤ i → n ≡ worth 0 s
reading_end {s} {i} r h = r.is ∙ rw (take_all i s h)

-- ---- eight digits of a number, written from the last to the first

-- ---- spelling and reading are inverse

last_digit : (k a x : ℕ) → 48 ≤ x → x ≤ 57 → positional 10 digit (suc k) (a * 10 + (x - 48)) ≡ positional 10 digit k a ++ (x ∷ [])
unfolding positional digit
last_digit k a x h g =
    let q : (a * 10 + (x - 48)) / 10 ≡ a = omega arith in
    let r : 48 + (a * 10 + (x - 48)) % 10 ≡ x = omega arith in
    rw (q, r)

-- the digits of what s is worth behind a are those of a, and s
spelled_from : (a k : ℕ) (s : Text) → all is_digit s ≡ true → positional 10 digit (k + length s) (worth a s) ≡ positional 10 digit k a ++ s
unfolding all worth
spelled_from a k [] e = rw (add-zero k) (sym (append-nil (positional 10 digit k a)))
spelled_from a k (x ∷ s) e =
    let d = and_left (is_digit x) (all is_digit s) e in
    rw (add-suc k (length s), ← suc-add k (length s))
    (spelled_from (a * 10 + (x - 48)) (suc k) s (and_right (is_digit x) (all is_digit s) e)
    ∙ ap (λ l. l ++ s) (last_digit k a x (digit_low x d) (digit_high x d)) ∙ append_assoc (positional 10 digit k a) (x ∷ []) s)

pub spelled : (s : Text) → all is_digit s ≡ true → positional 10 digit (length s) (worth 0 s) ≡ s
unfolding positional
spelled s e = rw (zero-add (length s)) at (spelled_from 0 0 s e)

-- n has k digits
unfoldable pub Short : ℕ → ℕ → Type 0
Short zero n = n ≡ 0
Short (suc k) n = Short k (n / 10)

worth_positional : (k n : ℕ) → Short k n → worth 0 (positional 10 digit k n) ≡ n
unfolding Short positional worth digit
worth_positional zero n h = sym h
worth_positional (suc k) n h =
    worth_append 0 (positional 10 digit k (n / 10)) (digit (n % 10) ∷ []) ∙ rw (worth_positional k (n / 10) h) (omega arith)

pub worth_eight : (n : ℕ) → n < 100000000 → worth 0 (positional 10 digit 8 n) ≡ n
unfolding Short
worth_eight n h = worth_positional 8 n (omega arith)

pub all_positional : (k n : ℕ) → all is_digit (positional 10 digit k n) ≡ true
unfolding positional all is_digit digit
all_positional zero n = refl
all_positional (suc k) n =
    all_append is_digit (positional 10 digit k (n / 10)) (digit (n % 10) ∷ []) (all_positional k (n / 10))
    (rw (le-leb 48 (48 + n % 10) (omega arith), le-leb (48 + n % 10) 57 (omega arith)))
