-- Laws of paths read from an index on. Assumes nothing.
use mathlib.Core.Path.{◌≡◌, refl, sym, ap, ◌∙◌}
use mathlib.Core.Bool.{true, false}
use mathlib.Core.List.{[], ◌∷◌}
use Rattle.std.proofs.Math.Option as Maybe
use Rattle.std.proofs.Common.{Option, Some, None}
use Rattle.er7.specs.declared.path.Path.{Path as HeldPath}
use Prim.Native.Nat.{ℕ, zero, suc, ◌+◌, ◌≤◌, ◌<◌}
use native.Mathlib.Nat.{sub-zero}
use native.Mathlib.Omega.{arith}
use borrow.Author.Tests.{eq-eqb, ne_eqb}
use lib.ListN.{length, take, drop, get_or, drop_of_length-le}
use lib.Seq.{length-take-le}
use Rattle.text.specs.declared.bytes.Class.TheVariants.{Alphanumeric}
use Rattle.text.specs.Text.{Text, is_alphanumeric, is_in, is_empty, run, rest, part, RunEnd}
use Rattle.text.specs.Number.{Taken, taken, take_number, as_taken, Inside, TakenAt}
use Rattle.text.proofs.Runs.{drop_step}
use Rattle.er7.specs.Path.{Path, not_zero, take_index, close_bracket, take_occurrence, take_step, then, complete, read_subcomponent, read_field, read_segment, is_join, read_path, held_as, held_path}
use Rattle.er7.specs.Inner.{ParsedAt}

-- ---- indices

module _ {s : Text} {i : ℕ} where
  pub index_found : {n r : ℕ} → TakenAt take_number s i (Some (n, r)) → (n ≡ 0 → ⊥) → TakenAt take_index s i (Some (n, r))
  unfolding take_index not_zero as_taken
  index_found {n} g h = record { is = sym (rw (← g.is, ne_eqb n 0 h)); inside = g.inside }

  pub index_zero : {n r : ℕ} → TakenAt take_number s i (Some (n, r)) → n ≡ 0 → TakenAt take_index s i None
  unfolding take_index not_zero as_taken
  index_zero {n} g h = record { is = sym (rw (← g.is, eq-eqb n 0 h)); inside = tt }

  pub index_none : TakenAt take_number s i None → TakenAt take_index s i None
  unfolding take_index not_zero as_taken
  index_none g = record { is = sym (rw (← g.is)); inside = tt }

module _ (s : Text) (i : ℕ) where
  pub close_end : (n : ℕ) → i ≡ length s → TakenAt (λ t. close_bracket (taken n t)) s i None
  unfolding close_bracket as_taken
  close_end n h = record { is = rw (drop_of_length-le s {i = i} (omega arith)); inside = tt }

  pub close_no : (n : ℕ) → i < length s → (get_or s i 0 ≡ 0x5d → ⊥) → TakenAt (λ t. close_bracket (taken n t)) s i None
  unfolding close_bracket as_taken
  close_no n h e = record { is = rw (drop_step s i h, ne_eqb (get_or s i 0) 0x5d e); inside = tt }

  pub close_yes : (n : ℕ) → i < length s → get_or s i 0 ≡ 0x5d → TakenAt (λ t. close_bracket (taken n t)) s i (Some (n, i + 1))
  unfolding close_bracket as_taken
  close_yes n h e = record { is = sym (rw (drop_step s i h, eq-eqb (get_or s i 0) 0x5d e)); inside = (omega arith, omega arith) }

  pub occurrence_end : i ≡ length s → TakenAt take_occurrence s i (Some (0, i))
  unfolding take_occurrence as_taken
  occurrence_end h = record { is = rw (drop_of_length-le s {i = i} (omega arith)); inside = (omega arith, omega arith) }

  pub occurrence_no : i < length s → (get_or s i 0 ≡ 0x5b → ⊥) → TakenAt take_occurrence s i (Some (0, i))
  unfolding take_occurrence as_taken
  occurrence_no h e = record { is = sym (rw (drop_step s i h, ne_eqb (get_or s i 0) 0x5b e)); inside = (omega arith, omega arith) }

  -- from one index on, hence from an earlier one
  wider : (a : Option (ℕ × ℕ)) {r : ℕ} → i ≤ r → Inside s r a → Inside s i a
  wider (Some (m, q)) l h = (omega (arith, h.0), h.1)
  wider None l h = tt

  pub occurrence_bad : i < length s → get_or s i 0 ≡ 0x5b → TakenAt take_index s (i + 1) None → TakenAt take_occurrence s i None
  unfolding take_occurrence as_taken close_bracket
  occurrence_bad h e g = record { is = sym (rw (drop_step s i h, eq-eqb (get_or s i 0) 0x5b e, ← g.is)); inside = tt }

  pub occurrence_yes : (n r : ℕ) (a : Option (ℕ × ℕ)) → i < length s → get_or s i 0 ≡ 0x5b → TakenAt take_index s (i + 1) (Some (n, r))
      → TakenAt (λ t. close_bracket (taken n t)) s r a → TakenAt take_occurrence s i a
  unfolding take_occurrence as_taken
  occurrence_yes n r a h e g k = record {
    is = k.is ∙ sym (rw (drop_step s i h, eq-eqb (get_or s i 0) 0x5b e, ← g.is));
    inside = wider a (omega (arith, g.inside.0)) k.inside;
  }

  pub step_end : i ≡ length s → TakenAt take_step s i (Some (0, i))
  unfolding take_step as_taken
  step_end h = record { is = rw (drop_of_length-le s {i = i} (omega arith)); inside = (omega arith, omega arith) }

  pub step_no : i < length s → (get_or s i 0 ≡ 0x2e → ⊥) → TakenAt take_step s i (Some (0, i))
  unfolding take_step as_taken
  step_no h e = record { is = sym (rw (drop_step s i h, ne_eqb (get_or s i 0) 0x2e e)); inside = (omega arith, omega arith) }

  pub step_yes : (a : Option (ℕ × ℕ)) → i < length s → get_or s i 0 ≡ 0x2e → TakenAt take_index s (i + 1) a → TakenAt take_step s i a
  unfolding take_step as_taken
  step_yes a h e g = record {
    is = g.is ∙ sym (rw (drop_step s i h, eq-eqb (get_or s i 0) 0x2e e));
    inside = wider a (omega arith) g.inside;
  }

-- ---- parts of a path

-- go on with a number that was taken, or not
module _ {g : Text → Taken} {s : Text} {i at n : ℕ} (k : Text → ℕ → Text → Maybe.Option Path) where
  pub then_taken : {m r : ℕ} {a : Option HeldPath} → TakenAt g s i (Some (m, r)) → ParsedAt (λ w. k w m) s r at n a → ParsedAt (λ w t. then (g t) (k w)) s i at n a
  unfolding then as_taken
  then_taken h p = record { is = λ w. p.is w ∙ ap (held_path at n) (rw (← h.is)) }

  pub then_refused : TakenAt g s i None → ParsedAt (λ w t. then (g t) (k w)) s i at n None
  unfolding then as_taken held_path
  then_refused h = record { is = λ w. rw (← h.is) }

-- the last part: nothing is left over, or something is
module _ (o f p c : ℕ) {s : Text} {i at n m r : ℕ} (g : TakenAt take_step s i (Some (m, r))) where
  pub subcomponent_found : r ≡ length s → ParsedAt (λ w. read_subcomponent w o f p c) s i at n
      (Some (record { segment = at; segment_len = n; segment_occurrence = o; field = f; repetition = p; component = c; subcomponent = m }))
  unfolding read_subcomponent then complete held_path held_as as_taken
  subcomponent_found h = record { is = λ w. sym (rw (← g.is, drop_of_length-le s {i = r} (omega arith))) }

  pub subcomponent_left : (r ≡ length s → ⊥) → ParsedAt (λ w. read_subcomponent w o f p c) s i at n None
  unfolding read_subcomponent then complete held_path held_as as_taken
  subcomponent_left h = record { is = λ w. sym (rw (← g.is, drop_step s r (omega (arith, g.inside.1)))) }

-- behind the name and its occurrence
module _ (o : ℕ) {s : Text} {i at n : ℕ} where
  pub segment_alone : i ≡ length s → ParsedAt (λ w. read_segment w o) s i at n
      (Some (record { segment = at; segment_len = n; segment_occurrence = o; field = 0; repetition = 0; component = 0; subcomponent = 0 }))
  unfolding read_segment held_path held_as
  segment_alone h = record { is = λ w. sym (rw (drop_of_length-le s {i = i} (omega arith))) }

  pub segment_bad : i < length s → is_join (get_or s i 0) ≡ false → ParsedAt (λ w. read_segment w o) s i at n None
  unfolding read_segment held_path
  segment_bad h e = record { is = λ w. sym (rw (drop_step s i h, e)) }

  pub segment_then : {a : Option HeldPath} → i < length s → is_join (get_or s i 0) ≡ true → ParsedAt (λ w. read_field w o) s (i + 1) at n a → ParsedAt (λ w. read_segment w o) s i at n a
  unfolding read_segment
  segment_then h e g = record { is = λ w. g.is w ∙ sym (rw (drop_step s i h, e)) }

-- ---- a whole path

full_take : (s : Text) (n : ℕ) → 0 < n → n ≤ length s → is_empty (take n s) ≡ false
unfolding is_empty
full_take [] n h l = absurd (omega arith)
full_take (x ∷ s) zero h l = absurd (omega arith)
full_take (x ∷ s) (suc n) h l = refl

module _ {s : Text} {n : ℕ} (e : RunEnd (is_in Alphanumeric) s 0 n) where
  name : take n s ≡ run is_alphanumeric s
  unfolding is_in part
  name = rw (← sub-zero n) e.run_is

  tail : drop n s ≡ rest is_alphanumeric s
  unfolding is_in
  tail = e.rest_is

  name_length : length (run is_alphanumeric s) ≡ n
  name_length = rw (← name) (length-take-le n s e.high)

  pub path_nameless : (at : ℕ) → n ≡ 0 → None ≡ held_path at (length (run is_alphanumeric s)) (read_path s)
  unfolding read_path is_empty held_path
  path_nameless at h = sym (rw (← name, h))

  pub path_bad : (at : ℕ) → (n ≡ 0 → ⊥) → TakenAt take_occurrence s n None → None ≡ held_path at (length (run is_alphanumeric s)) (read_path s)
  unfolding read_path held_path then as_taken
  path_bad at h g = sym (rw (← tail, ← g.is, ← name, full_take s n (omega arith) e.high))

  pub path_then : {at m r : ℕ} {a : Option HeldPath} → (n ≡ 0 → ⊥) → TakenAt take_occurrence s n (Some (m, r)) → ParsedAt (λ w. read_segment w m) s r at n a
      → a ≡ held_path at (length (run is_alphanumeric s)) (read_path s)
  unfolding read_path then as_taken
  path_then {at} h g k = rw (name_length) (k.is (run is_alphanumeric s) ∙ ap (held_path at n) (rw (← tail, ← g.is) (rw (← name, full_take s n (omega arith) e.high))))
