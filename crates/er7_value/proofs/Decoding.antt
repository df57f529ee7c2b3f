-- Laws of `decode` and `value`: lengths, and a turn of the loop over plain values. Assumes nothing.
use Rattle.std.proofs.Common.{◌≡◌, refl, sym, ap, ◌∙◌, Bool, true, false, not, cond, [], ◌∷◌, ◌++◌, append-nil, append_assoc, ℕ, suc, ◌+◌, ◌-◌, ◌≤◌, ◌<◌, arith, eq-eqb, eqb-true, eqb, length, drop, get_or, length-append, length-take, length-drop, drop_of_length-le, Some, None}
use Rattle.std.proofs.Math.Option.{Option, none, some}
use Rattle.std.proofs.lemmas.Bool.{not-true, not-false}
use Rattle.text.specs.declared.bytes.Class.TheVariants.{AllBut}
use Rattle.text.specs.Text.{Text, bytes, is_empty, is_in, run, rest, part, Wrote, RunEnd}
use Rattle.text.proofs.Laws.{by_cond}
use Rattle.text.proofs.Runs.{drop_step, stop, stop_rest}
use Rattle.text.proofs.Words.{same_longer}
use Rattle.text.proofs.Writes.{wrote_none, wrote_then, wrote_length}
use Rattle.er7.specs.declared.separators.Separators.{Separators}
use Rattle.message_model.specs.Value.{NULL, is_null, is_empty_or_null, delimiter_of, letter_run, pair, Mode, outside, inside, adds, goes_on, decode_from, decode, value}
use Rattle.er7_value.specs.Escape.{held}

-- ---- no bytes, and others

pub empty_first : (t : Text) → length t ≡ 0 → true ≡ is_empty_or_null t
unfolding is_empty_or_null is_empty
empty_first [] e = refl
empty_first (x ∷ t) e = absurd (omega arith)

pub null_only : (t : Text) → (length t ≡ 0 → ⊥) → is_null t ≡ is_empty_or_null t
unfolding is_empty_or_null is_empty
null_only [] n = absurd (n refl)
null_only (x ∷ t) n = refl

pub null_length : length NULL ≡ 2
unfolding NULL bytes
null_length = refl

-- a text of three bytes is neither
pub long_full : (t : Text) → 3 ≤ length t → is_empty_or_null t ≡ false
unfolding is_null
long_full t h = sym (null_only t (λ e. absurd (omega arith))) ∙ same_longer t NULL (λ e. absurd (omega (arith, null_length)))

-- ---- a pair

-- a letter that names a delimiter, and another
pub letter_named : (s : Separators) (l b : ℕ) → Some b ≡ held (delimiter_of s l) → letter_run s l (delimiter_of s l) ≡ b ∷ []
unfolding held letter_run
letter_named s l b e = go (delimiter_of s l) e
  where
    go : (o : Option ℕ) → Some b ≡ held o → letter_run s l o ≡ b ∷ []
    go none e = cc
    go (some x) e = cc

pub letter_unnamed : (s : Separators) (l : ℕ) → None ≡ held (delimiter_of s l) → letter_run s l (delimiter_of s l) ≡ s.escape ∷ l ∷ s.escape ∷ []
unfolding held letter_run
letter_unnamed s l e = go (delimiter_of s l) e
  where
    go : (o : Option ℕ) → None ≡ held o → letter_run s l o ≡ s.escape ∷ l ∷ s.escape ∷ []
    go none e = refl
    go (some x) e = cc

-- a pair with one byte between its two, and another
pub pair_letter : (s : Separators) (w : Text) → length w ≡ 1 → pair s w ≡ letter_run s (get_or w 0 0) (delimiter_of s (get_or w 0 0))
unfolding pair
pair_letter s [] h = absurd (omega arith)
pair_letter s (l ∷ []) h = refl
pair_letter s (l ∷ k ∷ w) h = absurd (omega arith)

pub pair_itself : (s : Separators) (w : Text) → (length w ≡ 1 → ⊥) → pair s w ≡ s.escape ∷ (w ++ (s.escape ∷ []))
unfolding pair
pair_itself s [] h = refl
pair_itself s (l ∷ []) h = absurd (h refl)
pair_itself s (l ∷ k ∷ w) h = refl

-- ---- lengths

letter_length : (s : Separators) (l : ℕ) (o : Option ℕ) → length (letter_run s l o) ≤ 3
unfolding letter_run
letter_length s l (some b) = omega arith
letter_length s l none = omega arith

pub pair_length : (s : Separators) (w : Text) → length (pair s w) ≤ length w + 2
unfolding pair
pair_length s [] = omega arith
pair_length s (l ∷ []) = omega (arith, letter_length s l (delimiter_of s l))
pair_length s (l ∷ k ∷ w) = simp length-append (omega arith)

-- how many bytes a pair holds that has begun
unfoldable pending : Mode → ℕ
pending outside = 0
pending (inside w) = suc (length w)

turn_length : (s : Separators) (m : Mode) (x : ℕ) → length (adds s m x) + pending (goes_on s m x) ≤ suc (pending m)
unfolding adds goes_on pending
turn_length s outside x = go (eqb x s.escape)
  where
    go : (b : Bool) → length {A = ℕ} (cond b [] (x ∷ [])) + pending (cond b (inside []) outside) ≤ 1
    go true = omega arith
    go false = omega arith
turn_length s (inside w) x = go (eqb x s.escape)
  where
    go : (b : Bool) → length {A = ℕ} (cond b (pair s w) []) + pending (cond b outside (inside (w ++ (x ∷ [])))) ≤ suc (suc (length w))
    go true = omega (arith, pair_length s w)
    go false = simp length-append (omega arith)

from_length : (s : Separators) (m : Mode) (t : Text) → length (decode_from s m t) ≤ pending m + length t
unfolding decode_from pending
from_length s outside [] = omega arith
from_length s (inside w) [] = omega arith
from_length s m (x ∷ t) = simp length-append (omega (arith, turn_length s m x, from_length s (goes_on s m x) t))

pub decode_length : (s : Separators) (t : Text) → length (decode s t) ≤ length t
unfolding decode pending
decode_length s t = omega (arith, from_length s outside t)

pub value_length : (s : Separators) (t : Text) → length (value s t) ≤ length t
unfolding value
value_length s t = by_cond (λ (v : Text). length v ≤ length t) (is_null t) [] (decode s t) (λ e. omega arith) (λ e. decode_length s t)

-- a null leaf, and another
pub value_null : (s : Separators) (t : Text) → is_null t ≡ true → value s t ≡ []
unfolding value
value_null s t e = rw e

pub value_other : (s : Separators) (t : Text) → is_null t ≡ false → value s t ≡ decode s t
unfolding value
value_other s t e = rw e

-- ---- a stretch without an escape character

-- what a pair that has begun stands for, with all that follows it: w are its bytes up to its end, t is left from there on
unfoldable closes : Separators → Text → Text → Text
closes s w [] = s.escape ∷ w
closes s w (x ∷ t) = pair s w ++ decode_from s outside t

outside_run : (s : Separators) (t : Text) → decode_from s outside t ≡ run (is_in (AllBut s.escape)) t ++ decode_from s outside (rest (is_in (AllBut s.escape)) t)
unfolding decode_from run rest is_in adds goes_on
outside_run s [] = refl
outside_run s (x ∷ t) = go (eqb x s.escape) refl (outside_run s t)
  where
    go : (b : Bool) → eqb x s.escape ≡ b → decode_from s outside t ≡ run (is_in (AllBut s.escape)) t ++ decode_from s outside (rest (is_in (AllBut s.escape)) t)
        → decode_from s outside (x ∷ t) ≡ run (is_in (AllBut s.escape)) (x ∷ t) ++ decode_from s outside (rest (is_in (AllBut s.escape)) (x ∷ t))
    go true e ih = rw e (rw e)
    go false e ih = rw e (ap (λ (l : Text). x ∷ l) ih)

inside_run : (s : Separators) (w t : Text) → decode_from s (inside w) t ≡ closes s (w ++ run (is_in (AllBut s.escape)) t) (rest (is_in (AllBut s.escape)) t)
unfolding decode_from run rest is_in adds goes_on closes
inside_run s w [] = rw append-nil
inside_run s w (x ∷ t) = go (eqb x s.escape) refl (inside_run s (w ++ (x ∷ [])) t)
  where
    go : (b : Bool) → eqb x s.escape ≡ b
        → decode_from s (inside (w ++ (x ∷ []))) t ≡ closes s (w ++ (x ∷ []) ++ run (is_in (AllBut s.escape)) t) (rest (is_in (AllBut s.escape)) t)
        → decode_from s (inside w) (x ∷ t) ≡ closes s (w ++ run (is_in (AllBut s.escape)) (x ∷ t)) (rest (is_in (AllBut s.escape)) (x ∷ t))
    go true e ih = rw (e, append-nil)
    go false e ih = rw e (ih ∙ rw append_assoc)

-- ---- from an index on

-- what text t reads as from index i on, outside a pair
unfoldable pub read_from : Separators → Text → ℕ → Text
read_from s t i = decode_from s outside (drop i t)

module _ (s : Separators) (t : Text) (i e : ℕ) where
  read_end : length t ≤ e → read_from s t e ≡ []
  unfolding read_from decode_from
  read_end h = rw (drop_of_length-le t h)

  module _ (r : RunEnd (is_in (AllBut s.escape)) t i e) where
    read_stretch : read_from s t i ≡ part t i (e - i) ++ read_from s t e
    unfolding read_from
    read_stretch = outside_run s (drop i t) ∙ rw (r.run_is, r.rest_is)

    module _ (h : e < length t) where
      at_escape : get_or t e 0 ≡ s.escape
      unfolding stop is_in
      at_escape =
          let q : stop (is_in (AllBut s.escape)) (drop e t) ≡ true = rw r.rest_is (stop_rest (is_in (AllBut s.escape)) (drop i t)) in
          let n : not (not (eqb (get_or t e 0) s.escape)) ≡ true = rw (drop_step t e h) at q in
          eqb-true _ _ (not-false _ (not-true _ n))

      opens : read_from s t e ≡ decode_from s (inside []) (drop (e + 1) t)
      unfolding read_from decode_from adds goes_on
      opens = rw (drop_step t e h, eq-eqb (get_or t e 0) s.escape at_escape)

      module _ (f : ℕ) (q : RunEnd (is_in (AllBut s.escape)) t (e + 1) f) where
        read_unpaired : f ≡ length t → read_from s t e ≡ part t e (f - e)
        unfolding part closes
        read_unpaired l =
            let n : f - e ≡ suc (f - (e + 1)) = omega (arith, q.low) in
            let z : drop f t ≡ [] = drop_of_length-le t {i = f} (omega arith) in
            opens ∙ inside_run s [] (drop (e + 1) t) ∙ rw (← q.run_is, ← q.rest_is, z, n, drop_step t e h, at_escape)

        read_paired : f < length t → read_from s t e ≡ pair s (part t (e + 1) (f - (e + 1))) ++ read_from s t (f + 1)
        unfolding read_from closes
        read_paired l = opens ∙ inside_run s [] (drop (e + 1) t) ∙ rw (← q.run_is, ← q.rest_is, drop_step t f l)

-- ---- the loop

-- the text t, read up to index i, stands in d from index at to index k
pub record Decoding (s : Separators) (t d₀ : Text) (at i : ℕ) (d : Text) (k : ℕ) : Type 0 where
  pub within : i ≤ length t
  pub few : k ≤ at + i
  pub long : length d ≡ length d₀
  pub so_far : Text
  pub wrote : Wrote d₀ at so_far d k
  pub is : decode s t ≡ so_far ++ read_from s t i

pub decoding_start : (s : Separators) (t d : Text) (at : ℕ) → at ≤ length d → Decoding s t d at 0 d at
unfolding decode read_from
decoding_start s t d at h = record { within = omega arith; few = omega arith; long = refl; so_far = []; wrote = wrote_none d at h; is = refl }

part_length : (t : Text) (i e : ℕ) → e ≤ length t → length (part t i (e - i)) ≡ e - i
unfolding part
part_length t i e h = simp (length-take, length-drop) (omega arith)

decoding_more : {s : Separators} {t d₀ d d' w : Text} {at i k r : ℕ} (j : ℕ) → Decoding s t d₀ at i d k → Wrote d k w d' r
    → read_from s t i ≡ w ++ read_from s t j → i + length w ≤ j → j ≤ length t → Decoding s t d₀ at j d' r
decoding_more {s} {t} {d₀} {d} {d'} {w} {at} {i} {k} {r} j g p e h l = record {
  within = l;
  few = omega (arith, g.few, p.end);
  long = wrote_length p ∙ g.long;
  so_far = g.so_far ++ w;
  wrote = wrote_then g.wrote p;
  is = g.is ∙ rw (e, append_assoc);
}

pub decoding_end : {s : Separators} {t d₀ d : Text} {at i k : ℕ} → Decoding s t d₀ at i d k → length t ≤ i → Wrote d₀ at (decode s t) d k
decoding_end {s} {t} {d₀} {d} {at} {i} {k} g h = rw (g.is, read_end s t i i h, append-nil) g.wrote

module _ {s : Separators} {t d₀ d d' : Text} {at i e k r : ℕ} where
  -- a stretch was copied
  pub decoding_stretch : Decoding s t d₀ at i d k → RunEnd (is_in (AllBut s.escape)) t i e → Wrote d k (part t i (e - i)) d' r → Decoding s t d₀ at e d' r
  decoding_stretch g q p = decoding_more e g p (read_stretch s t i e q) (rw (part_length t i e q.high) (omega (arith, q.low))) q.high

  module _ (g : Decoding s t d₀ at e d k) (q : RunEnd (is_in (AllBut s.escape)) t i e) (h : e < length t) {f : ℕ} (q' : RunEnd (is_in (AllBut s.escape)) t (e + 1) f) where
    -- an escape character that is unpaired was copied with all that follows it
    pub decoding_unpaired : f ≡ length t → Wrote d k (part t e (f - e)) d' r → Wrote d₀ at (decode s t) d' r
    decoding_unpaired l p =
        let n : read_from s t e ≡ part t e (f - e) ++ read_from s t f = read_unpaired s t i e q h f q' l ∙ rw (read_end s t e f (omega arith), append-nil) in
        decoding_end (decoding_more f g p n (rw (part_length t e f q'.high) (omega (arith, q'.low))) q'.high) (omega arith)

    -- what a pair stands for was written
    pub decoding_paired : f < length t → Wrote d k (pair s (part t (e + 1) (f - (e + 1)))) d' r → Decoding s t d₀ at (f + 1) d' r
    decoding_paired l p =
        let n : length (part t (e + 1) (f - (e + 1))) ≡ f - (e + 1) = part_length t (e + 1) f q'.high in
        decoding_more (f + 1) g p (read_paired s t i e q h f q' l) (omega (arith, n, q'.low, pair_length s (part t (e + 1) (f - (e + 1))))) (omega arith)
