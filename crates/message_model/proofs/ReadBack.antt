-- What is written to a leaf reads back, and never splits it. Assumes nothing.
use mathlib.Core.Path.{◌≡◌, refl, sym, ap, ◌∙◌}
use mathlib.Core.Bool.{Bool, true, false, not}
use mathlib.Core.List.{[], ◌∷◌, ◌++◌}
use mathlib.Core.Option.{Option, none, some}
use Prim.Native.Nat.{ℕ}
use borrow.Author.Tests.{eqb-true, eqb-false, eq-eqb, ne_eqb}
use lib.Dec.{eqb}
use Rattle.text.specs.Text.{Text, bytes, is_digit, is_upper, is_lower, is_alphanumeric, is_blank, same, all}
use Rattle.text.proofs.Laws.{by_cond, clash}
use Rattle.text.proofs.Runs.{all_append}
use Rattle.text.proofs.Words.{same_eq, same_refl}
use Rattle.er7.specs.declared.separators.Separators.{Separators}
use Rattle.message_model.specs.Message.{may_delimit, ends_leaf}
use Rattle.message_model.specs.Value.{NULL, is_null, delimiter_of, letter_run, pair, outside, adds, goes_on, decode_from, decode, value, letter_of, encode_byte, encode}
use Rattle.message_model.proofs.Delimiters.{GoodSeparators, NoDelimiter, no_delimiter}

-- one letter between two escape characters
letter_back : (s : Separators) (l b : ℕ) (w : Text) → eqb l s.escape ≡ false → delimiter_of s l ≡ some b
    → decode_from s outside (s.escape ∷ l ∷ s.escape ∷ w) ≡ b ∷ decode_from s outside w
unfolding decode_from adds goes_on pair letter_run
letter_back s l b w n m = simp (eq-eqb s.escape s.escape refl, n, m)

other_back : (s : Separators) (b : ℕ) (w : Text) → eqb b s.escape ≡ false → decode_from s outside (b ∷ w) ≡ b ∷ decode_from s outside w
unfolding decode_from adds goes_on
other_back s b w n = rw n

-- what holds of the run of a letter, and of a byte that is no delimiter, holds of what is written for a byte
by_letter : (s : Separators) (P : Option ℕ → Type 0) (b : ℕ) → ((l : ℕ) → may_delimit l ≡ false → delimiter_of s l ≡ some b → P (some l))
    → (NoDelimiter s b → P none) → P (letter_of s b)
unfolding letter_of delimiter_of may_delimit is_alphanumeric is_digit is_upper is_lower is_blank
by_letter s P b run itself =
    by_cond P (eqb b s.field) _ _ (λ e. run 0x46 refl (ap some (sym (eqb-true _ _ e)))) (λ f.
    by_cond P (eqb b s.component) _ _ (λ e. run 0x53 refl (ap some (sym (eqb-true _ _ e)))) (λ c.
    by_cond P (eqb b s.subcomponent) _ _ (λ e. run 0x54 refl (ap some (sym (eqb-true _ _ e)))) (λ t.
    by_cond P (eqb b s.repetition) _ _ (λ e. run 0x52 refl (ap some (sym (eqb-true _ _ e)))) (λ r.
    by_cond P (eqb b s.escape) _ _ (λ e. run 0x45 refl (ap some (sym (eqb-true _ _ e)))) (λ x.
    itself (record { field = f; component = c; repetition = r; escape = x; subcomponent = t }))))))

no_letter : (s : Separators) (x : ℕ) → NoDelimiter s x → letter_of s x ≡ none
unfolding letter_of
no_letter s x n = rw (n.field, n.component, n.subcomponent, n.repetition, n.escape)

-- a quote may not delimit
quote : may_delimit 0x22 ≡ false
unfolding may_delimit is_alphanumeric is_digit is_upper is_lower is_blank
quote = refl

eqb_swap : (x y : ℕ) → eqb x y ≡ false → eqb y x ≡ false
eqb_swap x y e = ne_eqb y x (λ q. eqb-false x y e (sym q))

module _ (s : Separators) (g : GoodSeparators s) where
  byte_back : (b : ℕ) (w : Text) → decode_from s outside (encode_byte s b (letter_of s b) ++ w) ≡ b ∷ decode_from s outside w
  unfolding encode_byte
  byte_back b w =
      by_letter s (λ (o : Option ℕ). decode_from s outside (encode_byte s b o ++ w) ≡ b ∷ decode_from s outside w) b
      (λ l n m. letter_back s l b w (no_delimiter s g l n).escape m)
      (λ n. other_back s b w n.escape)

  pub decode_encode : (v : Text) → decode s (encode s v) ≡ v
  unfolding decode encode decode_from
  decode_encode [] = refl
  decode_encode (b ∷ v) = byte_back b (encode s v) ∙ ap (λ (l : Text). b ∷ l) (decode_encode v)

  -- ---- the null

  null_encodes : encode s NULL ≡ NULL
  unfolding NULL bytes encode encode_byte
  null_encodes = rw (no_letter s 0x22 (no_delimiter s g 0x22 quote))

  null_decodes : decode s NULL ≡ NULL
  null_decodes = ap (decode s) (sym null_encodes) ∙ decode_encode NULL

  encode_null : (v : Text) → is_null v ≡ false → is_null (encode s v) ≡ false
  unfolding is_null
  encode_null v n = go (same (encode s v) NULL) refl
    where
      go : (b : Bool) → same (encode s v) NULL ≡ b → b ≡ false
      go false e = refl
      go true e =
          let q : v ≡ NULL = sym (decode_encode v) ∙ ap (decode s) (same_eq (encode s v) NULL e) ∙ null_decodes in
          clash (sym (same_refl NULL) ∙ ap (λ (t : Text). same t NULL) (sym q) ∙ n)

  pub value_read_back : (v : Text) → is_null v ≡ false → value s (encode s v) ≡ v
  unfolding value
  value_read_back v n = rw (encode_null v n) (decode_encode v)

  pub null_reads_empty : value s (encode s NULL) ≡ []
  unfolding value is_null
  null_reads_empty = rw (null_encodes, same_refl NULL)

  -- ---- no delimiter that ends a leaf

  other_stays : (x : ℕ) → NoDelimiter s x → ends_leaf s x ≡ false
  unfolding ends_leaf
  other_stays x n = rw (n.field, n.repetition, n.component, n.subcomponent)

  escape_stays : ends_leaf s s.escape ≡ false
  unfolding ends_leaf
  escape_stays =
      let f = eqb_swap s.field s.escape g.field_escape in
      let r = eqb_swap s.repetition s.escape g.repetition_escape in
      let c = eqb_swap s.component s.escape g.component_escape in
      rw (f, r, c, g.escape_subcomponent)

  byte_stays : (b : ℕ) → all (λ x. not (ends_leaf s x)) (encode_byte s b (letter_of s b)) ≡ true
  unfolding encode_byte all
  byte_stays b =
      by_letter s (λ (o : Option ℕ). all (λ x. not (ends_leaf s x)) (encode_byte s b o) ≡ true) b
      (λ l n m. rw (escape_stays, other_stays l (no_delimiter s g l n)))
      (λ n. rw (other_stays b n))

  pub encode_stays : (v : Text) → all (λ x. not (ends_leaf s x)) (encode s v) ≡ true
  unfolding encode all
  encode_stays [] = refl
  encode_stays (b ∷ v) = all_append (λ x. not (ends_leaf s x)) (encode_byte s b (letter_of s b)) (encode s v) (byte_stays b) (encode_stays v)
