-- Laws of the bytes at which a word can start. Assumes nothing.
use Rattle.std.proofs.Common.{◌≡◌, refl, sym, ap, ◌∙◌, Bool, true, false, not, ◌&&◌, ◌||◌, List, [], ◌∷◌, ℕ, zero, suc, ◌+◌, ◌≤◌, ◌<◌, arith, eqb-true, eq-eqb, length, take, drop, get_or, set, replicate, length-set, drop_of_length-le, eqb, get_or-take, get_or-set_same, get_or-set_other}
use Rattle.std.proofs.Math.Bool.{or_assoc}
use Rattle.std.proofs.lemmas.Bool.{eqb-false}
use Rattle.text.specs.declared.bytes.Class.TheVariants.{Alphanumeric}
use Rattle.text.specs.Text.{Text, is_in, is_alphanumeric, begins}
use Rattle.text.proofs.Laws.{and_left, and_right, and_id, and_false, or_id, or_true, clash}
use Rattle.text.proofs.Runs.{drop_step}
use Rattle.text.proofs.Words.{same_eq}
use Rattle.message_model.specs.Value.{ends_word, is_hit, find_word, is_whole_word}
use Rattle.er7_value.specs.Starts.{starts_behind, starts_word, Starts}

-- ---- a whole word starts with no letter or digit before it

or_either : {X : Type 0} (a b : Bool) → (a || b) ≡ true → (a ≡ true → X) → (b ≡ true → X) → X
or_either true b e f g = f refl
or_either false b e f g = g e

-- the first byte of a hit is that of v
hit_first : (v t : Text) → 0 < length v → begins v t ≡ true → get_or t 0 0 ≡ get_or v 0 0
unfolding begins
hit_first v t h e = sym (get_or-take (length v) t 0 0 h) ∙ ap (λ (s : Text). get_or s 0 0) (sym (same_eq v (take (length v) t) e))

word_starts : (v : Text) (a : Bool) (t : Text) → 0 < length v → find_word v a t ≡ true → starts_behind a t (get_or v 0 0) ≡ true
unfolding starts_behind find_word
word_starts v a [] h e = clash (sym e)
word_starts v a (x ∷ t) h e =
    let ends = ends_word (drop (length v) (x ∷ t)) in
    or_either (is_hit v a (x ∷ t)) (find_word v (is_alphanumeric x) t) e
    (λ f. let b = and_left (begins v (x ∷ t)) ends (and_right (not a) _ f) in
    rw (and_left (not a) _ f, eq-eqb x (get_or v 0 0) (hit_first v (x ∷ t) h b)))
    (λ f. rw (word_starts v (is_alphanumeric x) t h f) (or_true (not a && eqb x (get_or v 0 0))))

-- a text in which the first byte of v is not marked does not have v as a word
pub word_unmarked : (v t : Text) {starts : List Bool} → Starts t starts → 0 < length v → get_or starts (get_or v 0 0) false ≡ false → is_whole_word v t ≡ false
unfolding is_whole_word starts_word
word_unmarked v t {starts} g h e = by_word (find_word v false t) refl
  where
    by_word : (b : Bool) → find_word v false t ≡ b → b ≡ false
    by_word false q = refl
    by_word true q = clash (sym (word_starts v false t h q) ∙ sym (g.marked (get_or v 0 0)) ∙ e)

-- ---- marking

pub none_marked : (n : ℕ) → Starts [] (replicate n false)
unfolding starts_word starts_behind
none_marked n = record { marked = go n }
  where
    go : (n b : ℕ) → get_or (replicate n false) b false ≡ false
    go zero b = refl
    go (suc n) zero = refl
    go (suc n) (suc b) = go n b

mark_one : (s : List Bool) (x b : ℕ) (m : Bool) → x < length s → get_or (set s x (get_or s x false || m)) b false ≡ get_or s b false || m && eqb x b
mark_one s x b m h = by_same (eqb x b) refl
  where
    by_same : (q : Bool) → eqb x b ≡ q → get_or (set s x (get_or s x false || m)) b false ≡ get_or s b false || m && q
    by_same true q = rw (← eqb-true x b q, and_id m) (get_or-set_same s x (get_or s x false || m) false h)
    by_same false q = rw (and_false m) (get_or-set_other s x b (get_or s x false || m) false (λ e. eqb-false x b q (sym e)) ∙ sym (or_id (get_or s b false)))

-- the bytes of t before index i are marked
pub record Marking (t : Text) (i : ℕ) (after : Bool) (starts : List Bool) : Type 0 where
  pub within : i ≤ length t
  pub long : length starts ≡ 256
  pub is : (b : ℕ) → starts_word t b ≡ get_or starts b false || starts_behind after (drop i t) b

pub marking_start : (t : Text) {starts : List Bool} → length starts ≡ 256 → Starts [] starts → Marking t 0 false starts
unfolding starts_word starts_behind
marking_start t l g = record { within = omega arith; long = l; is = λ b. rw (g.marked b) }

pub marking_more : {t : Text} {i : ℕ} {after next : Bool} {starts : List Bool} → Marking t i after starts → i < length t → get_or t i 0 < 256
    → next ≡ is_in Alphanumeric (get_or t i 0) → Marking t (i + 1) next (set starts (get_or t i 0) (get_or starts (get_or t i 0) false || not after))
unfolding is_in starts_behind
marking_more {t} {i} {after} {next} {starts} g h l e =
    let x = get_or t i 0 in
    record {
      within = omega arith;
      long = length-set starts x _ ∙ g.long;
      is = λ b. g.is b ∙ rw (drop_step t i h) (sym (rw (mark_one starts x b (not after) (omega (arith, g.long)), e) (or_assoc (get_or starts b false) _ _)));
    }

pub marking_end : {t : Text} {i : ℕ} {after : Bool} {starts : List Bool} → Marking t i after starts → length t ≤ i → Starts t starts
unfolding starts_behind
marking_end {t} {i} {after} {starts} g h = record { marked = λ b. sym (g.is b ∙ rw (drop_of_length-le t {i = i} h) (or_id (get_or starts b false))) }
