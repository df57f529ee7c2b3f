-- Laws of the entry redact. Assumes nothing.
use Rattle.std.specs.Prelude.{◌≡◌, ℕ, ◌<◌, ◌≤◌, Bool, true, false, cond, ltb, List, length, take, Ok, Err}
use Rattle.std.specs.declared.result.Result.{Result}
use Rattle.std.specs.Result.{IsErrAnd}
use Rattle.std.proofs.lemmas.Result.{err_from_is_err_and}
use mathlib.Core.Path.{refl, sym, ap, subst, ◌∙◌}
use mathlib.Core.Option.{none}
use native.Mathlib.Omega.{arith}
use borrow.Author.Tests.{lt-ltb, le-ltb, ltb-false}
use Rattle.text.specs.Text.{Text, part, Wrote}
use Rattle.text.proofs.Laws.{clash}
use Rattle.text.proofs.Writes.{wrote_length}
use Rattle.refusal.specs.Refusal.{too_long, without_line}
use Rattle.refusal.specs.declared.Refused.{Refused}
use Rattle.refusal.specs.declared.Refusal.{Refusal}
use Rattle.refusal.specs.declared.Refusal.TheVariants.{TooLong, ReportTooLong}
use Rattle.refusal.specs.Limits.{INPUT_MAX, LEAVES_MAX, TEXT_MAX}
use Rattle.message_model.specs.Message.{message_of, message_fault}
use Rattle.message_model.proofs.Faultless.{not_too_long}
use Rattle.message_model.proofs.PrintBack.{message_prints}
use Rattle.message_model.proofs.Messages.{message_chains}
use Rattle.policy.specs.declared.policy.Policy.{Policy as HeldPolicy}
use Rattle.policy.specs.Policy.{as_policy, as_read, PolicyIs}
use Rattle.policy_model.specs.Policy as Q
use Rattle.policy_model.specs.Policy.{Policy, PolicyRead, read, read_policy}
use Rattle.run_model.specs.Redact.{redact, redact_from, print_rows}
use Rattle.run_model.specs.Entries.{Answer, done, refused, Redaction, RedactOutcome, outcome_with_report, with_policy, without_fault, reported, with_buffers, is_short}
use Rattle.run_model.proofs.Chains.{message_fields_first}
use Rattle.run_model.proofs.Sizes.{redacted_fits}
use Rattle.er7_table.specs.declared.table.Leaf.{Leaf as HeldLeaf}
use Rattle.er7_table.specs.declared.table.Segment.{Segment as HeldSegment}
use Rattle.er7_table.specs.Filling.{LeafRoom}
use Rattle.er7_message.specs.Parsed.{fault_of, ParsedAs}
use Rattle.er7_message.specs.declared.message.Layout.{Layout}
use Rattle.text.proofs.Kept.{wrote_part}
use Rattle.redact_1_run.specs.declared.from_tables.Redacted.{Redacted}
use Rattle.redact_1_run.specs.Ran.{Loaded, AnyLoaded, Left, RedactedIs}
use Rattle.entries.specs.Returned.{lent, lent_report}
use Rattle.entries.proofs.Outcomes as Outcomes
use Rattle.redact.specs.Answered.{AnsweredAs}

-- ---- a text that was written stands at the front

wrote_taken : {d d' w : Text} {n : ℕ} → Wrote d 0 w d' n → take n d' ≡ w
unfolding part
wrote_taken {d} {d'} {w} {n} p = let e : n ≡ length w = omega (arith, p.end) in rw e (wrote_part p)

-- ---- the message's tables

-- a message without fault is short
not_long : (t : Text) → message_fault t ≡ none → length t ≤ INPUT_MAX
unfolding too_long
not_long t e = ltb-false INPUT_MAX (length t) (not_too_long t e)

module _ {message : Text} {segs : List HeldSegment} {held : List HeldLeaf} {layout : Layout} (p : ParsedAs message (message_fault message) (message_of message) segs held (Ok layout)) where
  pub no_fault : message_fault message ≡ none
  unfolding fault_of
  no_fault = sym p.is

  pub parsed_loaded : {policy : Text} → length policy ≤ INPUT_MAX → Loaded message (message_of message) policy (length message) layout segs held
  parsed_loaded {policy} h = record {
    standing = p.tables;
    prints = message_prints message no_fault;
    chained = message_chains message;
    first = message_fields_first message no_fault;
    policy_short = h;
    within = omega arith;
    most = omega (arith, not_long message no_fault);
  }

  pub any_loaded : {policy : Text} → length policy ≤ INPUT_MAX → AnyLoaded message policy (length message) layout segs held
  any_loaded h = record { message = message_of message; loaded = parsed_loaded h }

-- ---- refusals that are handed on

pub hands_on : {x : Answer Redaction} {output report : Text} {e : Refused} (r : Result Redacted Refused) → IsErrAnd r (λ y. y ≡ e) → AnsweredAs x output report (Err e) → AnsweredAs x output report r
hands_on r h g = let p = err_from_is_err_and r h in rw (p.1, p.2) g

pub message_refused : {message : Text} {segs : List HeldSegment} {held : List HeldLeaf} {x : Refusal} {output report : Text} → ParsedAs message (message_fault message) (message_of message) segs held (Err x) → (y : Answer Redaction)
    → AnsweredAs (without_fault (message_fault message) y) output report (Err (without_line x))
unfolding without_fault fault_of without_line
message_refused p y = record { out = rw (← p.is) refl }

-- ---- the run's answer

-- a message by itself
alone : (key : ℕ) (P : Policy) (message : Text) → message_fault message ≡ none → redact_from (length message) key P (message_of message) ≡ redact key P (message_of message)
unfolding redact
alone key P message f = ap (λ (t : Text). redact_from (length t) key P (message_of message)) (sym (message_prints message f))

module _ (key : ℕ) (P : Policy) (message : Text) (f : message_fault message ≡ none) {output output' report' : Text} where
  pub run_refused : (b : ℕ) {x : Refusal} {o ρ : Text} → RedactedIs (redact_from (length message) key P (message_of message)) output output' report' (Err x)
      → AnsweredAs (without_fault (message_fault message) (reported b (redact key P (message_of message)))) o ρ (Err (without_line x))
  unfolding without_fault reported without_line
  run_refused b g = record { out = rw (f, ← alone key P message f, g.out.0) refl }

  module _ {q : Redacted} (g : RedactedIs (redact_from (length message) key P (message_of message)) output output' report' (Ok q)) where
    left : Left (redact_from (length message) key P (message_of message)) q.text_len q.report_len q.rows output output' report'
    left = g.out

    pub report_full : (b : ℕ) {o ρ : Text} → b < q.report_len → AnsweredAs (without_fault (message_fault message) (reported b (redact key P (message_of message)))) o ρ (Err (without_line ReportTooLong))
    unfolding without_fault reported without_line
    report_full b h = record { out = rw (f, ← alone key P message f, left.is, ← left.reported.long, lt-ltb b q.report_len h) refl }

    pub run_done : (b : ℕ) → TEXT_MAX ≤ length output → b ≡ length report' → q.report_len ≤ length report'
        → AnsweredAs (without_fault (message_fault message) (reported b (redact key P (message_of message)))) output' report' (Ok q)
    run_done b wide long fits =
        record {
          out = record {
            gives = record { text = left.text; rows = left.rows };
            is = is;
            text_fits = omega (arith, left.long, short, wide, wrote_length wrote);
            text_is = wrote_taken wrote;
            report_fits = fits;
            report_is = left.reported.text fits;
            count = left.count;
          };
        }
      where
        short : length left.text ≤ TEXT_MAX
        short = redacted_fits key P message f left.text left.rows (sym (alone key P message f) ∙ left.is)

        wrote : Wrote output 0 left.text output' q.text_len
        wrote = left.fits (omega (arith, short, wide))

        is : without_fault (message_fault message) (reported b (redact key P (message_of message))) ≡ done (record { text = left.text; rows = left.rows })
        is = unfold without_fault reported in rw (f, ← alone key P message f, left.is, ← left.reported.long, le-ltb b q.report_len (omega (arith, long, fits)))

-- ---- the policy

-- one that was read is not too long
pub read_not_long : (t : Text) (p : Policy) → read_policy t ≡ read p → length t ≤ INPUT_MAX
unfolding read_policy too_long
read_not_long t p e = go (ltb INPUT_MAX (length t)) refl _ e
  where
    is_read_lem : PolicyRead → Bool
    is_read_lem (read q) = true
    is_read_lem (Q.refused x n) = false

    go : (b : Bool) → ltb INPUT_MAX (length t) ≡ b → (o : PolicyRead) → cond b (Q.refused TooLong 0) o ≡ read p → length t ≤ INPUT_MAX
    go true q o h = clash (sym (ap is_read_lem h))
    go false q o h = ltb-false INPUT_MAX (length t) q

module _ (t : Text) (f : Policy → Answer Redaction) where
  pub refuses_policy : {e : Refused} {output report : Text} → PolicyIs t (Err e) → AnsweredAs (with_policy (read_policy t) f) output report (Err e)
  unfolding as_read
  refuses_policy g = record { out = sym (Outcomes.refuses_policy (read_policy t) f (sym g.is)) }

  pub policy_read : {p : HeldPolicy} {output report : Text} {r : Result Redacted Refused} → PolicyIs t (Ok p) → AnsweredAs (f (as_policy t p)) output report r
      → AnsweredAs (with_policy (read_policy t) f) output report r
  unfolding as_read
  policy_read {p} {output} {report} {r} g h = subst (λ (x : Answer Redaction). AnsweredAs x output report r) (Outcomes.policy_read (read_policy t) f (as_policy t p) (sym g.is)) h

pub policy_not_long : (t : Text) {p : HeldPolicy} → PolicyIs t (Ok p) → length t ≤ INPUT_MAX
unfolding as_read
policy_not_long t {p} g = read_not_long t (as_policy t p) (sym g.is)

-- ---- what is handed back

-- buffers keep their lengths
same_lent : {a' a ρ' ρ : ℕ} (b : ℕ) (x : Answer Redaction) → a' ≡ a → ρ' ≡ ρ → outcome_with_report (lent_report a' ρ' b) x ≡ outcome_with_report (lent_report a ρ b) x
same_lent b x e f = rw (e, f)

module _ {x : Answer Redaction} {output report : Text} (a ρ b : ℕ) (wide : is_short (lent a b) ≡ false) (oh : length output ≡ a) (rh : length report ≡ ρ) where
  pub returned_done : {o : RedactOutcome} {q : Redacted} → AnsweredAs x output report (Ok q)
      → ((d : Redaction) → take q.text_len output ≡ d.text → take q.report_len report ≡ print_rows d.rows → q.rows ≡ length d.rows → o ≡ outcome_with_report (lent_report (length output) (length report) b) (done d))
      → o ≡ outcome_with_report (lent_report a ρ b) (with_buffers (lent a b) x)
  returned_done g f =
      let w = g.out in
      f w.gives w.text_is w.report_is w.count ∙ same_lent b _ oh rh ∙ ap (outcome_with_report (lent_report a ρ b)) (Outcomes.wide_answer (lent a b) x wide (sym w.is))

  pub returned_refused : {o : RedactOutcome} {e : Refused} → AnsweredAs x output report (Err e)
      → o ≡ outcome_with_report (lent_report (length output) (length report) b) (refused e.refusal e.line)
      → o ≡ outcome_with_report (lent_report a ρ b) (with_buffers (lent a b) x)
  returned_refused g f = f ∙ same_lent b _ oh rh ∙ ap (outcome_with_report (lent_report a ρ b)) (Outcomes.wide_answer (lent a b) x wide (sym g.out))

-- ---- room in the table of leaves

-- for as many as a message of m bytes can have
pub short_room : (held : List HeldLeaf) (m : ℕ) → m ≤ length held → LeafRoom held m
short_room held m h = record { room = λ i a b. omega arith }

-- or for 4096
pub full_room : (held : List HeldLeaf) (m : ℕ) → LEAVES_MAX ≤ length held → LeafRoom held m
full_room held m h = record { room = λ i a b. omega arith }
