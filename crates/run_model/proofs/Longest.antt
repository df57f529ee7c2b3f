-- What is picked of the learnt values is found, and none found is better. Assumes nothing.
use mathlib.Core.Path.{◌≡◌, refl, sym, ap, ◌∙◌}
use mathlib.Core.Bool.{Bool, true, false, cond}
use mathlib.Core.List.{List, [], ◌∷◌, ◌++◌}
use mathlib.Core.Option.{Option, none, some}
use Prim.Native.Nat.{◌≤◌, ◌<◌}
use native.Mathlib.Omega.{arith}
use borrow.Author.Tests.{ltb-true, ltb-false}
use lib.Dec.{ltb}
use lib.ListN.{length}
use Rattle.text.specs.Text.{Text}
use Rattle.text.proofs.Laws.{clash}
use Rattle.message_model.specs.Value.{is_whole_word}
use Rattle.run_model.specs.Redact.{Known, longer_of, longest_found}
use Rattle.run_model.specs.Longest.{AllKnown, Longest, Picked}

pub known_map : (Q R : Text → Type 0) (ks : List Known) → ((v : Text) → Q v → R v) → AllKnown Q ks → AllKnown R ks
known_map Q R [] f h = tt
known_map Q R (k ∷ ks) f h = (f k.value h.0, known_map Q R ks f h.1)

known_join : (Q : Text → Type 0) (ks : List Known) (k : Known) (ls : List Known) → AllKnown Q ks → Q k.value → AllKnown Q ls → AllKnown Q (ks ++ k ∷ ls)
known_join Q [] k ls h q g = (q, g)
known_join Q (x ∷ ks) k ls h q g = (h.0, known_join Q ks k ls h.1 q g)

module _ (v : Text) where
  -- one is picked before others that are not as long
  first : (k : Known) (ks : List Known) → is_whole_word k.value v ≡ true → AllKnown (λ w. is_whole_word w v ≡ true → length w < length k.value) ks
      → Longest k (k ∷ ks) v
  first k ks e h = record { earlier = []; later = ks; place = refl; found = e; none_longer = tt; none_as_long = h }

  -- one is picked behind another that is not longer, or not found
  behind : {l : Known} (k : Known) {ks : List Known} → (is_whole_word k.value v ≡ true → length k.value ≤ length l.value) → Longest l ks v
      → Longest l (k ∷ ks) v
  behind k q h =
      record {
        earlier = k ∷ h.earlier;
        later = h.later;
        place = ap (λ (xs : List Known). k ∷ xs) h.place;
        found = h.found;
        none_longer = (q, h.none_longer);
        none_as_long = h.none_as_long;
      }

  -- a value that is not found changes nothing
  pass : (o : Option Known) (k : Known) (ks : List Known) → is_whole_word k.value v ≡ false → Picked o ks v → Picked o (k ∷ ks) v
  pass none k ks e h = (e, h)
  pass (some l) k ks e h = behind k (λ f. clash (sym f ∙ e)) h

  -- every value found is at most as long as the one that is picked
  at_most : {l : Known} {ks : List Known} → Longest l ks v → AllKnown (λ w. is_whole_word w v ≡ true → length w ≤ length l.value) ks
  at_most {l} {ks} h =
      rw h.place (known_join _ h.earlier l h.later h.none_longer (λ f. omega arith) (known_map _ _ h.later (λ w g f. omega (arith, g f)) h.none_as_long))

  join : (o : Option Known) (k : Known) (ks : List Known) → is_whole_word k.value v ≡ true → Picked o ks v → Picked (longer_of k o) (k ∷ ks) v
  unfolding longer_of
  join none k ks e h = first k ks e (known_map _ _ ks (λ w g f. clash (sym f ∙ g)) h)
  join (some l) k ks e h = by_length (ltb (length l.value) (length k.value)) refl
    where
      by_length : (b : Bool) → ltb (length l.value) (length k.value) ≡ b → Picked (cond b (some k) (some l)) (k ∷ ks) v
      by_length true q = first k ks e (known_map _ _ ks (λ w g f. omega (arith, g f, ltb-true (length l.value) (length k.value) q)) (at_most h))
      by_length false q = behind k (λ f. omega (arith, ltb-false (length l.value) (length k.value) q)) h

  pub longest_picked : (ks : List Known) → Picked (longest_found ks v) ks v
  unfolding longest_found
  longest_picked [] = tt
  longest_picked (k ∷ ks) = by_found (is_whole_word k.value v) refl (longest_picked ks)
    where
      by_found : (b : Bool) → is_whole_word k.value v ≡ b → Picked (longest_found ks v) ks v
          → Picked (cond b (longer_of k (longest_found ks v)) (longest_found ks v)) (k ∷ ks) v
      by_found true e h = join (longest_found ks v) k ks e h
      by_found false e h = pass (longest_found ks v) k ks e h
