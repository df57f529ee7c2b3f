-- Demand 3 holds. Assumes nothing.
use mathlib.Core.Path.{◌≡◌, refl, sym, ap, ◌∙◌, subst}
use mathlib.Core.Bool.{true, false, not}
use mathlib.Core.List.{List, [], ◌∷◌}
use mathlib.Core.Option.{none}
use Prim.Native.Nat.{ℕ, suc}
use native.Mathlib.Omega.{arith}
use lib.Dec.{T}
use lib.ListN.{length, take}
use lib.Seq.{take_at}
use Rattle.text.specs.Text.{Text, bytes, same}
use Rattle.er7.specs.declared.separators.Separators.{Separators}
use Rattle.er7_redact.specs.Policy.{Rule}
use Rattle.message_model.specs.Message.{Leaf, Label, Segment, segment, Message, message_lines, segments, message_of, message_fault, is_header_name, at_field, touchable}
use Rattle.message_model.proofs.Delimiters.{separators_same}
use Rattle.message_model.proofs.Messages.{header_label, delimiter_leaves, HeaderFirst, leaves_of_header}
use Rattle.run_model.specs.Redact as R
use Rattle.run_model.specs.Redact.{Row, covers, print_rows}
use Rattle.run_model.specs.Entries.{done, LentReport, RedactOutcome, filled, outcome_with_report, redact_outcome}
use Rattle.run_model.specs.Demand.{covered, AlikeLeaves, AlikeSegments, Alike, Demand3}
use Rattle.run_model.proofs.TwoMessages.{two_messages}
use Rattle.run_model.proofs.Accepted.{is_done}

-- ---- the same delimiters follow from equal MSH-1 and MSH-2

-- no rule covers MSH-1 and MSH-2
uncovered : (rs : List Rule) (g : Label) (n : ℕ) → touchable g (at_field n) ≡ false → T (not (covered rs g (at_field n)))
unfolding covers
uncovered [] g n h = tt
uncovered (r ∷ rs) g n h = rw h (uncovered rs g n h)

-- two headers with alike leaves: MSH, FHS or BHS
leaves_separators : (rs : List Rule) (g : Label) → is_header_name g.name ≡ true → (s z : Separators) (xs ys : List Leaf)
    → AlikeLeaves rs g (delimiter_leaves s xs) (delimiter_leaves z ys) → s ≡ z
unfolding touchable at_field
leaves_separators rs g h s z xs ys (AlikeLeaves.next p t u e (AlikeLeaves.next q v w f k)) =
    separators_same s z (e (uncovered rs g 1 (rw h))) (f (uncovered rs g 2 (rw h)))

pub header_separators : (rs : List Rule) (a b : Label) → is_header_name a.name ≡ true → (s z : Separators) (xs ys : List Leaf) (ss zs : List Segment)
    → AlikeSegments rs (segment a (delimiter_leaves s xs) ∷ ss) (segment b (delimiter_leaves z ys) ∷ zs) → s ≡ z
header_separators rs a b h s z xs ys ss zs (AlikeSegments.next g w v) = leaves_separators rs a h s z xs ys w

pub same_separators : (rs : List Rule) (a b : Message) → HeaderFirst a.separators a.segments → HeaderFirst b.separators b.segments
    → Alike rs a b → a.separators ≡ b.separators
same_separators rs a b f g h =
    header_separators rs header_label header_label (unfold is_header_name same bytes in refl) a.separators b.separators f.rest g.rest f.others g.others
    (subst (λ (z : List Segment). AlikeSegments rs (segment header_label (delimiter_leaves a.separators f.rest) ∷ f.others) z) g.are
    (subst (λ (z : List Segment). AlikeSegments rs z b.segments) f.are h.segments))

-- as many segments
alike_length : {rs : List Rule} {ss zs : List Segment} → AlikeSegments rs ss zs → length ss ≡ length zs
alike_length AlikeSegments.end = refl
alike_length (AlikeSegments.next g w v) = ap suc (alike_length v)

some_segment : {s : Separators} {ss : List Segment} → HeaderFirst s ss → length ss ≡ 0 → ⊥
some_segment f e = let h = ap length f.are in omega arith

message_separators : (rs : List Rule) (m n : Text) → message_fault m ≡ none → message_fault n ≡ none → Alike rs (message_of m) (message_of n)
    → (message_of m).separators ≡ (message_of n).separators
unfolding message_of message_lines segments
message_separators rs [] [] f g h = refl
message_separators rs [] (y ∷ n) f g h = absurd (some_segment (leaves_of_header y n g) (sym (alike_length h.segments)))
message_separators rs (x ∷ m) [] f g h = absurd (some_segment (leaves_of_header x m f) (alike_length h.segments))
message_separators rs (x ∷ m) (y ∷ n) f g h = same_separators rs _ _ (leaves_of_header x m f) (leaves_of_header y n g) h

-- ---- the buffers' fronts

pub filled_front : (t : Text) (n : ℕ) → take (length t) (filled t n) ≡ t
unfolding filled
filled_front t n = take_at t _ (length t) refl

-- what a success shows
module _ (b : LentReport) (t : Text) (ρs : List Row) (o : RedactOutcome) (e : o ≡ outcome_with_report b (done (record { text = t; rows = ρs }))) where
  shows_rows : o.rows ≡ length ρs
  unfolding outcome_with_report
  shows_rows = rw e

  shows_text : take o.text_length o.output ≡ t
  unfolding outcome_with_report
  shows_text = rw (e, filled_front t b.buffers.output)

  shows_report : take o.report_length o.report ≡ print_rows ρs
  unfolding outcome_with_report
  shows_report = rw (e, filled_front (print_rows ρs) b.report)

done_text : (t u : Text) (ρs σs : List Row) → R.done t ρs ≡ R.done u σs → (t ≡ u) × (ρs ≡ σs)
done_text t u ρs σs e = (cc, cc)

pub demand3 : Demand3
unfolding redact_outcome
demand3 policy key P m n b c h settled unswept =
    let f = is_done b m policy key P h.policy_reads h.first_accepted in
    let g = is_done c n policy key P h.policy_reads h.second_accepted in
    let e = two_messages key P (message_of m) (message_of n) (message_separators P.rules m n f.no_fault g.no_fault h.alike) h.alike settled unswept (f.text, f.rows, f.run) (g.text, g.rows, g.run) in
    let d = done_text f.text g.text f.rows g.rows (sym f.run ∙ e ∙ g.run) in
    let o = ap (outcome_with_report b) f.answer in
    let q = ap (outcome_with_report c) g.answer in
    record {
      rows = shows_rows b f.text f.rows _ o ∙ ap length d.1 ∙ sym (shows_rows c g.text g.rows _ q);
      text = shows_text b f.text f.rows _ o ∙ d.0 ∙ sym (shows_text c g.text g.rows _ q);
      report = shows_report b f.text f.rows _ o ∙ ap print_rows d.1 ∙ sym (shows_report c g.text g.rows _ q);
    }
