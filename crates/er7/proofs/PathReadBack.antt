-- A printed path reads back as that path. Assumes nothing.
use mathlib.Core.Path.{◌≡◌, refl, sym, ap, ◌∙◌, subst}
use mathlib.Core.Bool.{Bool, true, false}
use mathlib.Core.List.{[], ◌∷◌, ◌++◌, append-nil, append_assoc}
use Rattle.std.proofs.Math.Option.{Option, none, some}
use Rattle.std.proofs.Common as Std
use Prim.Native.Nat.{ℕ, suc, ◌+◌, ◌≤◌, ◌<◌, ◌^◌}
use native.Mathlib.Omega.{arith}
use borrow.Author.Tests.{eqb-false, ne_eqb, not-true}
use lib.Dec.{eqb}
use lib.ListN.{length, take, drop, length-append}
use lib.Seq.{take-take, take-append_seam}
use Rattle.text.specs.Text.{Text, is_digit, is_upper, is_lower, is_alphanumeric, is_empty, run, rest, part, all}
use Rattle.text.specs.Number.{decimal, Taken, taken, refused, take_number}
use Rattle.text.proofs.Laws.{by_cond, zero_or, Maybe}
use Rattle.text.proofs.Runs.{stop, run_all, rest_all, all_run, run_rest, run_rest_length}
use Rattle.text.proofs.Decimals.{OfTaken, NumberFrom, number_from, number_back}
use Rattle.er7.specs.declared.path.Path.{Path as HeldPath}
use Rattle.er7.specs.Path.{Path, not_zero, take_index, close_bracket, take_occurrence, take_step, then, complete, read_subcomponent, read_component, read_repetition, read_field, read_segment, is_join, read_path, in_brackets, behind, print_path, as_path, PathHeld, held_as, held_path}
use Rattle.er7.proofs.PrintedPaths.{brackets_none, brackets_some, brackets_length, behind_none, behind_some, behind_length}

-- a path as reading gives it
pub record GoodPath (p : Path) : Type 0 where
  pub named : is_empty p.segment ≡ false
  pub letters : all is_alphanumeric p.segment ≡ true
  pub occurrence_fits : p.occurrence < 2 ^ 64
  pub field_fits : p.field < 2 ^ 64
  pub repetition_fits : p.repetition < 2 ^ 64
  pub component_fits : p.component < 2 ^ 64
  pub subcomponent_fits : p.subcomponent < 2 ^ 64
  pub field_first : p.field ≡ 0 → (p.repetition ≡ 0) × (p.component ≡ 0) × (p.subcomponent ≡ 0)
  pub component_first : p.component ≡ 0 → p.subcomponent ≡ 0

-- ---- a good path, printed and read

unfoldable is_byte : ℕ → ℕ → Bool
is_byte b x = eqb x b

index_back : (n : ℕ) (r : Text) → 0 < n → n < 2 ^ 64 → stop is_digit r ≡ true → take_index (decimal n ++ r) ≡ taken n r
unfolding take_index not_zero
index_back n r z h k = rw (number_back n r h k, ne_eqb n 0 (omega arith))

step_back : (n : ℕ) (r : Text) → n < 2 ^ 64 → stop is_digit r ≡ true → stop (is_byte 0x2e) r ≡ true → take_step (behind 0x2e n ++ r) ≡ taken n r
unfolding take_step
step_back n r h k d = zero_or n
    (λ e. rw (behind_none n 0x2e e, e) (absent r d))
    (λ z. rw (behind_some n 0x2e (omega arith)) (index_back n r z h k))
  where
    absent : (s : Text) → stop (is_byte 0x2e) s ≡ true → take_step s ≡ taken 0 s
    absent [] e = refl
    absent (x ∷ s) e = unfold stop is_byte in rw (not-true (eqb x 0x2e) e)

occurrence_back : (n : ℕ) (r : Text) → n < 2 ^ 64 → stop (is_byte 0x5b) r ≡ true → take_occurrence (in_brackets n ++ r) ≡ taken n r
unfolding take_occurrence close_bracket stop is_digit
occurrence_back n r h d = zero_or n
    (λ e. rw (brackets_none n e, e) (absent r d))
    (λ z. rw (brackets_some n (omega arith), append_assoc (decimal n) (0x5d ∷ []) r, index_back n (0x5d ∷ r) z h refl))
  where
    absent : (s : Text) → stop (is_byte 0x5b) s ≡ true → take_occurrence s ≡ taken 0 s
    absent [] e = refl
    absent (x ∷ s) e = unfold stop is_byte in rw (not-true (eqb x 0x5b) e)

-- how the parts begin
stop_behind : (p : ℕ → Bool) (c n : ℕ) (r : Text) → p c ≡ false → stop p r ≡ true → stop p (behind c n ++ r) ≡ true
unfolding stop
stop_behind p c n r h k = zero_or n (λ e. rw (behind_none n c e) k) (λ z. rw (behind_some n c (omega arith), h))

stop_brackets : (p : ℕ → Bool) (n : ℕ) (r : Text) → p 0x5b ≡ false → stop p r ≡ true → stop p (in_brackets n ++ r) ≡ true
unfolding stop
stop_brackets p n r h k = zero_or n (λ e. rw (brackets_none n e) k) (λ z. rw (brackets_some n (omega arith), h))

-- a path from its component on, and from its field on
abbrev steps : Path → Text
steps p = behind 0x2e p.component ++ behind 0x2e p.subcomponent

abbrev places : Path → Text
places p = behind 0x2d p.field ++ (in_brackets p.repetition ++ steps p)

module _ (p : Path) (g : GoodPath p) where
  stop_last : (q : ℕ → Bool) → q 0x2e ≡ false → stop q (behind 0x2e p.subcomponent) ≡ true
  unfolding stop
  stop_last q h = rw (← append-nil (behind 0x2e p.subcomponent)) (stop_behind q 0x2e p.subcomponent [] h refl)

  stop_steps : (q : ℕ → Bool) → q 0x2e ≡ false → stop q (steps p) ≡ true
  stop_steps q h = stop_behind q 0x2e p.component (behind 0x2e p.subcomponent) h (stop_last q h)

  subcomponent_back : take_step (behind 0x2e p.subcomponent) ≡ taken p.subcomponent []
  unfolding stop
  subcomponent_back = rw (← append-nil (behind 0x2e p.subcomponent)) (step_back p.subcomponent [] g.subcomponent_fits refl refl)

  component_back : take_step (steps p) ≡ taken p.component (behind 0x2e p.subcomponent)
  unfolding take_step
  component_back = zero_or p.component
      (λ e. rw (behind_none p.component 0x2e e, behind_none p.subcomponent 0x2e (g.component_first e), e))
      (λ z. rw (behind_some p.component 0x2e (omega arith)) (index_back p.component (behind 0x2e p.subcomponent) z g.component_fits (stop_last is_digit (unfold is_digit in refl))))

  field_back : 0 < p.field → read_segment p.segment p.occurrence (places p) ≡ some p
  unfolding read_segment is_join read_field read_repetition read_component read_subcomponent then complete
  field_back z = rw (
    behind_some p.field 0x2d (omega arith),
    index_back p.field (in_brackets p.repetition ++ steps p) z g.field_fits (stop_brackets is_digit p.repetition (steps p) (unfold is_digit in refl) (stop_steps is_digit (unfold is_digit in refl))),
    occurrence_back p.repetition (steps p) g.repetition_fits (stop_steps (is_byte 0x5b) (unfold is_byte in refl)),
    component_back,
    subcomponent_back,
  )

  no_places : p.field ≡ 0 → places p ≡ []
  no_places e = rw (behind_none p.field 0x2d e, brackets_none p.repetition (g.field_first e).0, behind_none p.component 0x2e (g.field_first e).1, behind_none p.subcomponent 0x2e (g.field_first e).2)

  segment_back : p.field ≡ 0 → read_segment p.segment p.occurrence (places p) ≡ some p
  unfolding read_segment
  segment_back e = rw (no_places e) (rw (e, (g.field_first e).0, (g.field_first e).1, (g.field_first e).2))

  stop_places : (q : ℕ → Bool) → q 0x2d ≡ false → stop q (places p) ≡ true
  unfolding stop
  stop_places q d = zero_or p.field (λ e. rw (no_places e)) (λ z. rw (behind_some p.field 0x2d (omega arith), d))

  path_back : read_path (print_path p) ≡ some p
  unfolding read_path print_path then
  path_back =
      let k : stop is_alphanumeric (in_brackets p.occurrence ++ places p) ≡ true =
      stop_brackets is_alphanumeric p.occurrence (places p) (unfold is_alphanumeric is_digit is_upper is_lower in refl) (stop_places is_alphanumeric (unfold is_alphanumeric is_digit is_upper is_lower in refl)) in
      rw (
        run_all is_alphanumeric p.segment (in_brackets p.occurrence ++ places p) g.letters k,
        rest_all is_alphanumeric p.segment (in_brackets p.occurrence ++ places p) g.letters k,
        g.named,
        occurrence_back p.occurrence (places p) g.occurrence_fits (stop_places (is_byte 0x5b) (unfold is_byte in refl)),
      )
      (zero_or p.field segment_back field_back)

-- ---- what reading gives, from a text s with r left behind it

record IndexFrom (s : Text) (n : ℕ) (r : Text) : Type 0 where
  positive : 0 < n
  small : n < 2 ^ 64
  shorter : length (decimal n) + length r ≤ length s

index_from : (s : Text) → OfTaken (IndexFrom s) (take_index s)
unfolding take_index
index_from s = go (take_number s) (number_from s)
  where
    go : (t : Taken) → OfTaken (NumberFrom s) t → OfTaken (IndexFrom s) (not_zero t)
    go (taken n r) h = unfold not_zero in by_cond (OfTaken (IndexFrom s)) (eqb n 0) refused (taken n r) (λ e. tt)
        (λ e. let z = eqb-false n 0 e in record { positive = omega arith; small = h.small; shorter = h.shorter })
    go refused h = unfold not_zero in tt

-- a part that may be absent, printed by f
record PartFrom (f : ℕ → Text) (s : Text) (n : ℕ) (r : Text) : Type 0 where
  small : n < 2 ^ 64
  shorter : length (f n) + length r ≤ length s
  absent : n ≡ 0 → r ≡ s

part_absent : (f : ℕ → Text) (s : Text) → f 0 ≡ [] → PartFrom f s 0 s
part_absent f s e = record { small = omega arith; shorter = rw e (omega arith); absent = λ h. refl }

occurrence_from : (s : Text) → OfTaken (PartFrom in_brackets s) (take_occurrence s)
unfolding take_occurrence
occurrence_from [] = part_absent in_brackets [] (brackets_none 0 refl)
occurrence_from (x ∷ s) = by_cond (OfTaken (PartFrom in_brackets (x ∷ s))) (eqb x 0x5b) (close_bracket (take_index s)) (taken 0 (x ∷ s))
    (λ e. go (take_index s) (index_from s))
    (λ e. part_absent in_brackets (x ∷ s) (brackets_none 0 refl))
  where
    go : (t : Taken) → OfTaken (IndexFrom s) t → OfTaken (PartFrom in_brackets (x ∷ s)) (close_bracket t)
    go (taken n []) h = unfold close_bracket in tt
    go (taken n (y ∷ r)) h = unfold close_bracket in by_cond (OfTaken (PartFrom in_brackets (x ∷ s))) (eqb y 0x5d) (taken n r) refused
        (λ e. let z = h.positive in
        let l = h.shorter in
        let b = brackets_length n (omega arith) in
        record { small = h.small; shorter = omega arith; absent = λ e. absurd (omega arith) })
        (λ e. tt)
    go refused h = unfold close_bracket in tt

step_from : (s : Text) → OfTaken (PartFrom (behind 0x2e) s) (take_step s)
unfolding take_step
step_from [] = part_absent (behind 0x2e) [] (behind_none 0 0x2e refl)
step_from (x ∷ s) = by_cond (OfTaken (PartFrom (behind 0x2e) (x ∷ s))) (eqb x 0x2e) (take_index s) (taken 0 (x ∷ s))
    (λ e. go (take_index s) (index_from s))
    (λ e. part_absent (behind 0x2e) (x ∷ s) (behind_none 0 0x2e refl))
  where
    go : (t : Taken) → OfTaken (IndexFrom s) t → OfTaken (PartFrom (behind 0x2e) (x ∷ s)) t
    go (taken n r) h =
        let z = h.positive in
        let l = h.shorter in
        let b = behind_length n 0x2e (omega arith) in
        record { small = h.small; shorter = omega arith; absent = λ e. absurd (omega arith) }
    go refused h = tt

-- a path that was read from the word s
pub record PathFrom (s : Text) (p : Path) : Type 0 where
  pub good : GoodPath p
  pub name : p.segment ≡ run is_alphanumeric s
  pub shorter : length (print_path p) ≤ length s
  pub alone : p.occurrence ≡ 0 → p.field ≡ 0 → p.segment ≡ s

by_then : (P : Option Path → Type 0) (t : Taken) (f : ℕ → Text → Option Path) → P none → ((n : ℕ) (r : Text) → t ≡ taken n r → P (f n r)) → P (then t f)
unfolding then
by_then P (taken n r) f z h = h n r refl
by_then P refused f z h = z

number_of : Taken → ℕ
number_of (taken n r) = n
number_of refused = 0

-- no component, no subcomponent
no_subcomponent : (c u : ℕ) (s t r : Text) → take_step s ≡ taken c t → (c ≡ 0 → t ≡ s) → take_step t ≡ taken u r → c ≡ 0 → u ≡ 0
unfolding number_of
no_subcomponent c u s t r e a f z = ap number_of (sym f ∙ ap take_step (a z) ∙ e) ∙ z

print_length : (p : Path) → length (print_path p)
    ≡ length p.segment + (length (in_brackets p.occurrence) + (length (behind 0x2d p.field) + (length (in_brackets p.repetition) + (length (behind 0x2e p.component) + length (behind 0x2e p.subcomponent)))))
unfolding print_path
print_length p = simp length-append

module _ (s : Text) (named : is_empty (run is_alphanumeric s) ≡ false) (o : ℕ) (r₁ : Text) (ob : PartFrom in_brackets (rest is_alphanumeric s) o r₁) where
  field_from : (x : ℕ) (s₀ : Text) → r₁ ≡ x ∷ s₀ → Maybe (PathFrom s) (read_field (run is_alphanumeric s) o s₀)
  unfolding read_field read_repetition read_component read_subcomponent
  field_from x s₀ q =
      by_then (Maybe (PathFrom s)) (take_index s₀) _ tt λ f s₁ e₁.
      by_then (Maybe (PathFrom s)) (take_occurrence s₁) _ tt λ r s₂ e₂.
      by_then (Maybe (PathFrom s)) (take_step s₂) _ tt λ c s₃ e₃.
      by_then (Maybe (PathFrom s)) (take_step s₃) _ tt λ u s₄ e₄.
      go f s₁ (subst (OfTaken (IndexFrom s₀)) e₁ (index_from s₀)) r s₂ (subst (OfTaken (PartFrom in_brackets s₁)) e₂ (occurrence_from s₁)) c s₃ e₃ u s₄ e₄
    where
      go : (f : ℕ) (s₁ : Text) → IndexFrom s₀ f s₁ → (r : ℕ) (s₂ : Text) → PartFrom in_brackets s₁ r s₂ → (c : ℕ) (s₃ : Text) → take_step s₂ ≡ taken c s₃ → (u : ℕ) (s₄ : Text) → take_step s₃ ≡ taken u s₄
          → Maybe (PathFrom s) (complete (record { segment = run is_alphanumeric s; occurrence = o; field = f; repetition = r; component = c; subcomponent = u }) s₄)
      go f s₁ g₁ r s₂ g₂ c s₃ e₃ u [] e₄ = unfold complete in
          let g₃ : PartFrom (behind 0x2e) s₂ c s₃ = subst (OfTaken (PartFrom (behind 0x2e) s₂)) e₃ (step_from s₂) in
          let g₄ : PartFrom (behind 0x2e) s₃ u [] = subst (OfTaken (PartFrom (behind 0x2e) s₃)) e₄ (step_from s₃) in
          let z = g₁.positive in
          let l : length r₁ ≡ suc (length s₀) = ap length q in
          record {
            good = record {
              named = named;
              letters = all_run is_alphanumeric s;
              occurrence_fits = ob.small;
              field_fits = g₁.small;
              repetition_fits = g₂.small;
              component_fits = g₃.small;
              subcomponent_fits = g₄.small;
              field_first = λ e. absurd (omega arith);
              component_first = no_subcomponent c u s₂ s₃ [] e₃ g₃.absent e₄;
            };
            name = refl;
            shorter = rw print_length (omega (arith, run_rest_length is_alphanumeric s, ob.shorter, behind_length f 0x2d (omega arith), g₁.shorter, g₂.shorter, g₃.shorter, g₄.shorter, l));
            alone = λ a b. absurd (omega arith);
          }
      go f s₁ g₁ r s₂ g₂ c s₃ e₃ u (y ∷ s₄) e₄ = unfold complete in tt

  segment_from : (r : Text) → r₁ ≡ r → Maybe (PathFrom s) (read_segment (run is_alphanumeric s) o r)
  unfolding read_segment
  segment_from [] q = record {
    good = record {
      named = named;
      letters = all_run is_alphanumeric s;
      occurrence_fits = ob.small;
      field_fits = omega arith;
      repetition_fits = omega arith;
      component_fits = omega arith;
      subcomponent_fits = omega arith;
      field_first = λ e. (refl, refl, refl);
      component_first = λ e. refl;
    };
    name = refl;
    shorter = rw (print_length, brackets_none 0 refl, behind_none 0 0x2d refl, behind_none 0 0x2e refl) (omega (arith, run_rest_length is_alphanumeric s, ob.shorter));
    alone = λ a b. sym (append-nil (run is_alphanumeric s)) ∙ ap (λ (t : Text). run is_alphanumeric s ++ t) (sym q ∙ ob.absent a) ∙ run_rest is_alphanumeric s;
  }
  segment_from (x ∷ r) q = by_cond (Maybe (PathFrom s)) (is_join x) (read_field (run is_alphanumeric s) o r) none (λ e. field_from x r q) (λ e. tt)

pub path_from : (s : Text) → Maybe (PathFrom s) (read_path s)
unfolding read_path
path_from s = by_cond (Maybe (PathFrom s)) (is_empty (run is_alphanumeric s)) none _ (λ e. tt)
    (λ e. by_then (Maybe (PathFrom s)) (take_occurrence (rest is_alphanumeric s)) (read_segment (run is_alphanumeric s)) tt
    (λ n r h. segment_from s e n r (subst (OfTaken (PartFrom in_brackets (rest is_alphanumeric s))) h (occurrence_from (rest is_alphanumeric s))) r refl))

-- ---- the laws

-- a path that was read, printed, reads back as that path
pub path_read_back : (s : Text) (p : Path) → read_path s ≡ some p → read_path (print_path p) ≡ some p
path_read_back s p e = path_back p (subst (Maybe (PathFrom s)) e (path_from s)).good

-- in a text where the word s stands from index i on, the struct stands for the path that was read
pub held_stands : (t s : Text) (i : ℕ) (p : Path) → part t i (length s) ≡ s → read_path s ≡ some p → as_path t (held_as i (length (run is_alphanumeric s)) p) ≡ p
unfolding as_path held_as part
held_stands t s i p w e =
    let n = length (run is_alphanumeric s) in
    let l : n ≤ length s = omega (arith, run_rest_length is_alphanumeric s) in
    let g : PathFrom s p = subst (Maybe (PathFrom s)) e (path_from s) in
    let f : take n s ≡ run is_alphanumeric s = ap (take n) (sym (run_rest is_alphanumeric s)) ∙ take-append_seam (run is_alphanumeric s) (rest is_alphanumeric s) in
    let k : take n (drop i t) ≡ p.segment = sym (take-take n (length s) (drop i t) l) ∙ rw w (f ∙ sym g.name) in
    rw k

-- and its name lies in that text
pub parsed_held : (t s : Text) (i : ℕ) (a : Std.Option HeldPath) (h : HeldPath) → i + length s ≤ length t → a ≡ held_path i (length (run is_alphanumeric s)) (read_path s) → a ≡ Std.Some h
    → PathHeld t h
parsed_held t s i a h l e f = go (read_path s) (sym f ∙ e)
  where
    go : (o : Option Path) → Std.Some h ≡ held_path i (length (run is_alphanumeric s)) o → PathHeld t h
    go none q = unfold held_path in let z : ◌≡◌ {A = ℕ} 0 1 = cc in absurd (omega arith)
    go (some p) q = unfold held_path held_as in
        let k = run_rest_length is_alphanumeric s in
        let w : h ≡ record { segment = i; segment_len = length (run is_alphanumeric s); segment_occurrence = p.occurrence; field = p.field; repetition = p.repetition; component = p.component; subcomponent = p.subcomponent } = cc in
        rw w (record { inside = omega arith })
