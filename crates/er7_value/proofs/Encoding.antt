-- Laws of `encode`: lengths, and a turn of the loops over plain values. Assumes nothing.
use Rattle.std.proofs.Common.{◌≡◌, refl, sym, ap, ◌∙◌, Bool, true, false, cond, ◌||◌, [], ◌∷◌, ◌++◌, append-nil, append_assoc, ℕ, ◌+◌, ◌*◌, ◌≤◌, ◌<◌, add-one, arith, length, take, drop, get_or, length-append, take-append-drop, eqb, take-suc, take_all, Some, None}
use Rattle.std.proofs.Math.Option.{Option, none, some}
use Rattle.std.specs.List.{sum_by}
use Rattle.std.proofs.lemmas.List.Sums.{sum_by-cons}
use Rattle.text.specs.Text.{Text, Wrote}
use Rattle.text.proofs.Writes.{wrote_none, wrote_then, wrote_length}
use Rattle.er7.specs.declared.separators.Separators.{Separators}
use Rattle.message_model.specs.Value.{letter_of, encode_byte, encode}
use Rattle.er7_value.specs.Escape.{held}

-- ---- a byte

-- a delimiter, and another byte
pub byte_escaped : (s : Separators) (b l : ℕ) → Some l ≡ held (letter_of s b) → encode_byte s b (letter_of s b) ≡ s.escape ∷ l ∷ s.escape ∷ []
unfolding held encode_byte
byte_escaped s b l e = go (letter_of s b) e
  where
    go : (o : Option ℕ) → Some l ≡ held o → encode_byte s b o ≡ s.escape ∷ l ∷ s.escape ∷ []
    go none e = cc
    go (some x) e = cc

pub byte_itself : (s : Separators) (b : ℕ) → None ≡ held (letter_of s b) → encode_byte s b (letter_of s b) ≡ b ∷ []
unfolding held encode_byte
byte_itself s b e = go (letter_of s b) e
  where
    go : (o : Option ℕ) → None ≡ held o → encode_byte s b o ≡ b ∷ []
    go none e = refl
    go (some x) e = cc

-- its length by one test of the five delimiters
pub byte_tested : (s : Separators) (b : ℕ)
    → length (encode_byte s b (letter_of s b)) ≡ cond (eqb b s.field || eqb b s.component || eqb b s.subcomponent || eqb b s.repetition || eqb b s.escape) 3 1
unfolding letter_of encode_byte
byte_tested s b = go (eqb b s.field) (eqb b s.component) (eqb b s.subcomponent) (eqb b s.repetition) (eqb b s.escape)
  where
    go : (f c u r e : Bool)
        → length (encode_byte s b (cond f (some 0x46) (cond c (some 0x53) (cond u (some 0x54) (cond r (some 0x52) (cond e (some 0x45) none)))))) ≡ cond (f || c || u || r || e) 3 1
    go true c u r e = refl
    go false true u r e = refl
    go false false true r e = refl
    go false false false true e = refl
    go false false false false true = refl
    go false false false false false = refl

byte_length : (s : Separators) (b : ℕ) (o : Option ℕ) → 1 ≤ length (encode_byte s b o)
unfolding encode_byte
byte_length s b (some l) = omega arith
byte_length s b none = omega arith

byte_long : (s : Separators) (b : ℕ) → length (encode_byte s b (letter_of s b)) ≤ 3
unfolding encode_byte
byte_long s b = go (letter_of s b)
  where
    go : (o : Option ℕ) → length (encode_byte s b o) ≤ 3
    go (some l) = omega arith
    go none = omega arith

-- ---- a value

pub encode_length : (s : Separators) (v : Text) → length v ≤ length (encode s v)
unfolding encode
encode_length s [] = omega arith
encode_length s (b ∷ v) = simp length-append (omega (arith, byte_length s b (letter_of s b), encode_length s v))

-- what is as long as the value is the value
pub encode_same : (s : Separators) (v : Text) → length (encode s v) ≡ length v → encode s v ≡ v
unfolding encode encode_byte
encode_same s [] e = refl
encode_same s (b ∷ v) e = go (letter_of s b) e (encode_same s v) (encode_length s v)
  where
    go : (o : Option ℕ) → length (encode_byte s b o ++ encode s v) ≡ length (b ∷ v) → (length (encode s v) ≡ length v → encode s v ≡ v) → length v ≤ length (encode s v) → encode_byte s b o ++ encode s v ≡ b ∷ v
    go none e f l = ap (λ (w : Text). b ∷ w) (f (omega arith))
    go (some x) e f l = absurd (omega arith)

pub encode_long : (s : Separators) (v : Text) → length (encode s v) ≤ 3 * length v
unfolding encode
encode_long s [] = omega arith
encode_long s (b ∷ v) = simp length-append (omega (arith, byte_long s b, encode_long s v))

-- a sum over the bytes
abbrev pub run_len : Separators → ℕ → ℕ
run_len s b = length (encode_byte s b (letter_of s b))

pub encode_sum : (s : Separators) (v : Text) → sum_by (run_len s) v ≡ length (encode s v)
unfolding encode
encode_sum s [] = refl
encode_sum s (b ∷ v) = sum_by-cons _ b v ∙ rw (encode_sum s v, length-append)

-- ---- up to an index

encode_append : (s : Separators) (u v : Text) → encode s (u ++ v) ≡ encode s u ++ encode s v
unfolding encode
encode_append s [] v = refl
encode_append s (b ∷ u) v = rw (encode_append s u v, append_assoc)

-- what is written for the first j bytes of v
unfoldable pub encoded_to : Separators → Text → ℕ → Text
encoded_to s v j = encode s (take j v)

to_none : (s : Separators) (v : Text) → encoded_to s v 0 ≡ []
unfolding encoded_to encode
to_none s v = refl

to_more : (s : Separators) (v : Text) (j : ℕ) → j < length v → encoded_to s v (j + 1) ≡ encoded_to s v j ++ encode_byte s (get_or v j 0) (letter_of s (get_or v j 0))
unfolding encoded_to encode
to_more s v j h = rw (add-one, take-suc v j 0 h, encode_append, append-nil)

to_all : (s : Separators) (v : Text) (j : ℕ) → length v ≤ j → encoded_to s v j ≡ encode s v
unfolding encoded_to
to_all s v j h = rw (take_all j v h)

to_length : (s : Separators) (v : Text) (j : ℕ) → length (encoded_to s v j) ≤ length (encode s v)
unfolding encoded_to
to_length s v j =
    let e : encode s v ≡ encode s (take j v) ++ encode s (drop j v) = ap (encode s) (sym (take-append-drop j v)) ∙ encode_append s (take j v) (drop j v) in
    rw (e, length-append) (omega arith)

-- ---- the loops

-- what is written for the first j bytes of v stands in d from index at to index k
pub record Encoding (s : Separators) (v d₀ : Text) (at j : ℕ) (d : Text) (k : ℕ) : Type 0 where
  pub within : j ≤ length v
  pub long : length d ≡ length d₀
  pub wrote : Wrote d₀ at (encoded_to s v j) d k

pub encoding_start : (s : Separators) (v d : Text) (at : ℕ) → at ≤ length d → Encoding s v d at 0 d at
encoding_start s v d at h = record { within = omega arith; long = refl; wrote = rw (to_none s v) (wrote_none d at h) }

module _ {s : Separators} {v d₀ d : Text} {at j k : ℕ} (g : Encoding s v d₀ at j d k) where
  pub encoding_room : j < length v → at + length (encode s v) ≤ length d₀ → k + length (encode_byte s (get_or v j 0) (letter_of s (get_or v j 0))) ≤ length d
  encoding_room h l =
      let e : length (encoded_to s v (j + 1)) ≡ length (encoded_to s v j) + length (encode_byte s (get_or v j 0) (letter_of s (get_or v j 0))) = rw (to_more s v j h, length-append) in
      omega (arith, e, to_length s v (j + 1), g.wrote.end, g.long)

  pub encoding_more : {d' : Text} {r : ℕ} → j < length v → Wrote d k (encode_byte s (get_or v j 0) (letter_of s (get_or v j 0))) d' r → Encoding s v d₀ at (j + 1) d' r
  encoding_more h p = record { within = omega arith; long = wrote_length p ∙ g.long; wrote = rw (to_more s v j h) (wrote_then g.wrote p) }

  pub encoding_end : length v ≤ j → Wrote d₀ at (encode s v) d k
  encoding_end h = rw (← to_all s v j h) g.wrote
