-- Laws of rows and of the report. Assumes nothing.
use mathlib.Core.Path.{◌≡◌, refl, sym, ap, ◌∙◌}
use mathlib.Core.List.{List, [], ◌∷◌, ◌++◌, append-nil, append_assoc}
use Prim.Native.Nat.{ℕ, suc, ◌+◌, ◌-◌, ◌^◌, ◌≤◌, ◌<◌}
use native.Mathlib.Nat.{zero-add}
use native.Mathlib.Omega.{arith}
use lib.IntN.{ℤ, pos, negsuc}
use lib.Signed.{mag}
use lib.ListN.{length, take, drop, length-append, length-take, length-drop, take-append-drop}
use lib.Seq.{take_at, drop-drop, drop-append-le}
use borrow.Rule.Slice.PartMut.{put_mid}
use Rattle.text.specs.Text.{Text, bytes, part, put, Wrote}
use Rattle.text.proofs.Decimals.{length_most, length_u64}
use Rattle.text.proofs.Laws.{zero_or}
use Rattle.text.proofs.Writes.{put_length}
use Rattle.er7.specs.declared.message.Place.{Place}
use Rattle.er7.specs.Path.{in_brackets, behind, print_path, as_path, PathHeld}
use Rattle.er7.proofs.PrintedPaths.{brackets_none, brackets_length, behind_none, behind_length, path_length}
use Rattle.er7_redact.specs.declared.action.Action.{Action as HeldAction}
use Rattle.er7_redact.specs.declared.action.Action.TheVariants as Held
use Rattle.er7_redact.specs.Action.{Action, print_days, print_action, as_action, ActionHeld, replacement}
use Rattle.er7_redact.proofs.Actions.{replacement_bare, replacement_length}
use Rattle.run_model.specs.Redact.{Row, row, print_row, print_rows}
use Rattle.er7.specs.declared.message.Label.{Label as HeldLabel}
use Rattle.er7_table.specs.Table.{as_label}
use Rattle.redact_6_row.specs.Report.{RowAt, Reported}
use Rattle.redact_6_row.specs.Inner.{leaf_path}

-- ---- a row in parts

module _ (g : HeldLabel) (p : Place) where
  pub leaf_held : PathHeld (g.a ∷ g.b ∷ g.c ∷ []) (leaf_path g p)
  unfolding leaf_path
  leaf_held = record { inside = omega arith }

  pub row_text : (a : Action) → print_row (row (as_label g) p a) ≡ print_path (as_path (g.a ∷ g.b ∷ g.c ∷ []) (leaf_path g p)) ++ (0x20 ∷ (print_action a ++ (0x0a ∷ [])))
  unfolding print_row row as_label as_path leaf_path part
  row_text a = refl

  pub row_length : (a : Action) → length (print_row (row (as_label g) p a)) ≡ length (print_path (as_path (g.a ∷ g.b ∷ g.c ∷ []) (leaf_path g p))) + length (print_action a) + 2
  row_length a = rw (row_text a) (simp length-append (omega arith))

-- ---- how long a row can be

brackets_most : (n : ℕ) → n < 2 ^ 64 → length (in_brackets n) ≤ 22
brackets_most n h = zero_or n (λ e. rw (brackets_none n e) (omega arith)) (λ l. omega (arith, brackets_length n (λ e. omega arith), length_u64 n h))

behind_most : (c n : ℕ) → n < 2 ^ 64 → length (behind c n) ≤ 21
behind_most c n h = zero_or n (λ e. rw (behind_none n c e) (omega arith)) (λ l. omega (arith, behind_length n c (λ e. omega arith), length_u64 n h))

-- the numbers of a label and a place have 64 bits, and so has an action's count
pub record Bits (g : HeldLabel) (p : Place) : Type 0 where
  pub occurrence : g.occurrence < 2 ^ 64
  pub field : p.field < 2 ^ 64
  pub repetition : p.repetition < 2 ^ 64
  pub component : p.component < 2 ^ 64
  pub subcomponent : p.subcomponent < 2 ^ 64

abbrev pub CountBits : HeldAction → Type 0
CountBits Held.Keep = Unit {0}
CountBits Held.Clear = Unit {0}
CountBits Held.Null = Unit {0}
CountBits (Held.Replace i n) = Unit {0}
CountBits (Held.Mask c) = Unit {0}
CountBits (Held.First n) = n < 2 ^ 64
CountBits (Held.Last n) = n < 2 ^ 64
CountBits Held.Pseudonym = Unit {0}
CountBits (Held.Shift z) = mag z < 2 ^ 63

path_most : (g : HeldLabel) (p : Place) → Bits g p → length (print_path (as_path (g.a ∷ g.b ∷ g.c ∷ []) (leaf_path g p))) ≤ 110
unfolding leaf_path
path_most g p b =
    omega (arith, path_length (g.a ∷ g.b ∷ g.c ∷ []) (leaf_path g p) (leaf_held g p), brackets_most g.occurrence b.occurrence, behind_most 0x2d p.field b.field, brackets_most p.repetition b.repetition, behind_most 0x2e p.component b.component, behind_most 0x2e p.subcomponent b.subcomponent)

replacement_most : (t : Text) (i n : ℕ) → i + n ≤ length t → length (replacement t i n) ≤ length t + 8
unfolding bytes
replacement_most t i n h = zero_or n (λ e. rw (replacement_bare t i n e) (omega arith)) (λ l. omega (arith, replacement_length t i n (λ e. omega arith) h))

days_most : (z : ℤ) → mag z < 2 ^ 63 → length (print_days z) ≤ 20
unfolding print_days
days_most (pos n) h = omega (arith, length_most 18 n (omega arith))
days_most (negsuc n) h = omega (arith, length_most 18 (suc n) (omega arith))

action_most : (t : Text) (a : HeldAction) → ActionHeld t a → CountBits a → length (print_action (as_action t a)) ≤ length t + 26
unfolding print_action as_action bytes
action_most t Held.Keep h b = omega arith
action_most t Held.Clear h b = omega arith
action_most t Held.Null h b = omega arith
action_most t (Held.Replace i n) h b = omega (arith, replacement_most t i n h)
action_most t (Held.Mask c) h b = omega arith
action_most t (Held.First n) h b = omega (arith, length_u64 n b)
action_most t (Held.Last n) h b = omega (arith, length_u64 n b)
action_most t Held.Pseudonym h b = omega arith
action_most t (Held.Shift z) h b = omega (arith, days_most z b)

pub row_most : (g : HeldLabel) (p : Place) (t : Text) (a : HeldAction) → Bits g p → ActionHeld t a → CountBits a
    → length (print_row (row (as_label g) p (as_action t a))) ≤ length t + 138
row_most g p t a b h k = omega (arith, row_length g p (as_action t a), path_most g p b, action_most t a h k)

-- ---- the report

-- of a buffer d all bytes from index at on were lent, and have come back as e with s at their front
pub put_part : (d : Text) (at : ℕ) (s e : Text) {r : ℕ} → at ≤ length d → Wrote (take (length d - at) (drop at d)) 0 s e r → put_mid at (length d - at) d e ≡ put d at s
unfolding put
put_part d at s e {r} h w =
    let k = length d - at in
    let D : Text = drop at d in
    let l : length s ≤ k = omega (arith, w.end, w.high, length-take k D) in
    let rest : drop (length s) (take k D) ++ drop k D ≡ drop (length s) D =
    sym (drop-append-le (length s) (take k D) (drop k D) (simp (length-take, length-drop) (omega arith))) ∙ ap (drop (length s)) (take-append-drop k D) in
    rw (w.text, zero-add (length s), append_assoc s _ _, rest, drop-drop (length s) at d, append_assoc)

-- a row that was added
module _ (d : Text) (len : ℕ) (w : Text) where
  pub row_full : {r : ℕ} → r ≡ length w → length d < len + r → RowAt d len w d (len + r)
  row_full e h = record { end = omega arith; long = refl; fits = λ k. absurd (omega arith); full = λ k. refl }

  pub row_room : {r : ℕ} {d' : Text} → r ≡ length w → len + r ≤ length d → d' ≡ put d len w → RowAt d len w d' (len + r)
  row_room e h q = record { end = omega arith; long = ap length q ∙ put_length d len w (omega arith); fits = λ k. q; full = λ k. absurd (omega arith) }

rows_more : (ρs : List Row) (ρ : Row) → print_rows (ρs ++ (ρ ∷ [])) ≡ print_rows ρs ++ print_row ρ
unfolding print_rows
rows_more [] ρ = append-nil (print_row ρ)
rows_more (x ∷ ρs) ρ = rw (rows_more ρs ρ) (sym (append_assoc (print_row x) (print_rows ρs) (print_row ρ)))

-- no row yet
pub reported_none : (d : Text) → Reported d 0 []
unfolding print_rows
reported_none d = record { long = refl; text = λ h. refl }

-- what stands before a text that was written, and the text
put_front : (d : Text) (at : ℕ) (s : Text) → at + length s ≤ length d → take (at + length s) (put d at s) ≡ take at d ++ s
unfolding put
put_front d at s h = take_at (take at d ++ s) (drop (at + length s) d) (at + length s) (simp (length-append, length-take) (omega arith))

-- one row more
pub reported_more : (ρ : Row) {d d' : Text} {len r : ℕ} {ρs : List Row} → Reported d len ρs → RowAt d len (print_row ρ) d' r → Reported d' r (ρs ++ (ρ ∷ []))
reported_more ρ {d} {d'} {len} {r} {ρs} p q = record {
  long = rw (rows_more ρs ρ) (simp length-append (omega (arith, p.long, q.end)));
  text = λ h.
      let k : len + length (print_row ρ) ≤ length d = omega (arith, q.end, q.long) in
      rw (rows_more ρs ρ, q.fits k, q.end, ← p.text (omega arith)) (put_front d len (print_row ρ) k);
}
