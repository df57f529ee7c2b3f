-- The table of refusals, row by row: which rows apply to a call, whatever their order. "Success is 0, exactly when no row applies".
-- Assumes nothing: these are definitions.
use Rattle.std.specs.Prelude.{◌≡◌, Bool, true, false, not, cond, ◌&&◌, ◌||◌, List, [], ◌∷◌, ◌++◌, ℕ, suc, ◌+◌, ◌-◌, length, eqb, ltb}
use Rattle.text.specs.Text.{Text}
use Rattle.er7.specs.declared.separators.Separators.{Separators}
use Rattle.refusal.specs.declared.Refusal.{Refusal}
use Rattle.refusal.specs.declared.Refusal.TheVariants.{ShortBuffer, TooLong, ForeignByte, BadHeader, BadSegment, TooMany, TooMuchLearnt, MessageTooLong, ReportTooLong, Withheld, NoSuchBuiltin}
use Rattle.refusal.specs.Refusal.{number, too_long, no_foreign}
use Rattle.refusal.specs.declared.input.Input.TheVariants as Inputs
use Rattle.refusal.specs.Limits.{LEARNT_BYTES_MAX, LEARNT_MAX, LEAVES_MAX, RULES_MAX, SEGMENTS_MAX, TEXT_MAX}
use Rattle.message_model.specs.Message.{Message, message_of, message_lines, head_of, is_opened, separators_of, is_named, leaves_of, print_message}
use Rattle.policy_model.specs.Policy as Q
use Rattle.policy_model.specs.Policy.{Policy, PolicyRead, read, read_policy, LineRead, nothing, rule, wrong, read_line, policy_lines, Unrecognised, pass, refuse, apply}
use Rattle.run_model.specs.Redact.{Row, Event, learn, change, Known, knows, known_bytes, segments_events, unnamed_events, for_sweep, before_sweep, events_before_sweep, print_rows}
use Rattle.run_model.specs.Entries.{Lent, LentReport, is_short}

unfoldable pub is : Refusal → Refusal → Bool
is e x = eqb (number e) (number x)

-- "output or scratch below 49,152 bytes"
unfoldable pub buffer_row : Lent → Refusal → Bool
buffer_row b e = is e ShortBuffer && is_short b

-- ---- a policy

unfoldable pub is_wrong : Refusal → LineRead → Bool
is_wrong e nothing = false
is_wrong e (rule r) = false
is_wrong e (Q.posture x) = false
is_wrong e (Q.unrecognised x) = false
is_wrong e (Q.sweep x) = false
is_wrong e (wrong x) = is e x

unfoldable pub is_rule : LineRead → Bool
is_rule nothing = false
is_rule (rule r) = true
is_rule (Q.posture x) = false
is_rule (Q.unrecognised x) = false
is_rule (Q.sweep x) = false
is_rule (wrong x) = false

-- some line is refused with e
unfoldable pub any_wrong : Refusal → List Text → Bool
any_wrong e [] = false
any_wrong e (l ∷ ls) = is_wrong e (read_line l) || any_wrong e ls

unfoldable pub rule_count : List Text → ℕ
rule_count [] = 0
rule_count (l ∷ ls) = let more = rule_count ls in cond (is_rule (read_line l)) (suc more) more

-- "policy above 32,768 bytes"; "a byte other than .."; "over .. 128 rules"; and whatever a single line is refused with
unfoldable pub policy_row : Text → Refusal → Bool
policy_row s e =
    is e TooLong && too_long s || is e ForeignByte && not (no_foreign Inputs.Policy s) || is e TooMany && ltb RULES_MAX (rule_count (policy_lines s))
    || any_wrong e (policy_lines s)

unfoldable pub with_policy_row : PolicyRead → (Policy → Bool) → Bool
with_policy_row (read P) f = f P
with_policy_row (Q.refused e n) f = false

-- ---- a message

unfoldable pub all_named : Separators → List Text → Bool
all_named s [] = true
all_named s (l ∷ ls) = is_named s l && all_named s ls

unfoldable pub others_of : List Text → List Text
others_of [] = []
others_of (l ∷ ls) = ls

unfoldable pub leaf_count : Separators → List Text → ℕ
leaf_count s [] = 0
leaf_count s (l ∷ ls) = length (leaves_of s l) + leaf_count s ls

-- "message .. above 32,768 bytes"; "a byte other than .."; "MSH opening not as above", no longer "no bytes"; "empty, wrongly named, or a
-- second MSH, any FHS, BHS"; "over 256 segments, 4,096 leaves"
unfoldable pub message_row : Text → Refusal → Bool
message_row t e =
    let ls = message_lines t in
    let s = separators_of (head_of ls) in
    is e TooLong && too_long t || is e ForeignByte && not (no_foreign Inputs.Message t) || is e BadHeader && not (is_opened ls)
    || is e BadSegment && not (all_named s (others_of ls))
    || is e TooMany && (ltb SEGMENTS_MAX (length ls) || ltb LEAVES_MAX (leaf_count s ls))

-- ---- a run, with nothing that stops it

-- what is learnt from events, behind what is known
unfoldable pub learnt_from : List Known → List Event → List Known
learnt_from ks [] = ks
learnt_from ks (learn v a ∷ es) = learnt_from (cond (knows v ks) ks (ks ++ (record { value = v; action = a } ∷ []))) es
learnt_from ks (change ρ went came ∷ es) = learnt_from ks es

abbrev pub rows_of : List Event → List Row
rows_of [] = []
rows_of (learn v a ∷ es) = rows_of es
rows_of (change ρ went came ∷ es) = ρ ∷ rows_of es

-- some change leaves a message of z bytes over 49,152 bytes
unfoldable pub overflows : ℕ → List Event → Bool
overflows z [] = false
overflows z (learn v a ∷ es) = overflows z es
overflows z (change ρ went came ∷ es) = ltb TEXT_MAX (z - went + came) || overflows (z - went + came) es

unfoldable pub learnt_in : ℕ → Policy → Message → List Known
learnt_in key P m = cond P.sweep (learnt_from [] (events_before_sweep key m.separators P m.segments)) []

unfoldable pub events_of : ℕ → Policy → Message → List Event
events_of key P m =
    let s = m.separators in
    events_before_sweep key s P m.segments
    ++ segments_events (unnamed_events key s (for_sweep s (learnt_in key P m))) (before_sweep key s P m.segments)

-- "a 513th value or over 16,384 bytes of them"
unfoldable pub exceeds : List Known → Bool
exceeds ks = ltb LEARNT_MAX (length ks) || ltb LEARNT_BYTES_MAX (known_bytes ks)

-- "sweep on, and .."; "a change leaves the message over 49,152 bytes"; "report longer than
-- its buffer"
unfoldable pub run_row : ℕ → ℕ → ℕ → Policy → Message → Refusal → Bool
run_row z n key P m e =
    let ks = learnt_in key P m in
    let es = events_of key P m in
    is e TooMuchLearnt && exceeds ks || is e MessageTooLong && overflows z es
    || is e ReportTooLong && ltb n (length (print_rows (rows_of es)))

-- ---- the five entries

unfoldable pub row_of_redact : LentReport → Text → Text → ℕ → Refusal → Bool
row_of_redact b message policy key e =
    buffer_row b.buffers e || (policy_row policy e || (message_row message e
    || with_policy_row (read_policy policy) λ P. run_row (length (print_message (message_of message))) b.report key P (message_of message) e))

unfoldable pub row_of_print : Lent → Text → Refusal → Bool
row_of_print b policy e = buffer_row b e || policy_row policy e

-- "over .. 128 rules", merged
unfoldable pub row_of_append : Lent → Text → Text → Refusal → Bool
row_of_append b first second e =
    buffer_row b e || (policy_row first e || (policy_row second e
    || with_policy_row (read_policy first) λ P. with_policy_row (read_policy second) λ Q. is e TooMany && ltb RULES_MAX (length P.rules + length Q.rules)))

-- "number above 3"
unfoldable pub row_of_builtin : Lent → ℕ → Refusal → Bool
row_of_builtin b n e = buffer_row b e || is e NoSuchBuiltin && ltb 3 n

unfoldable pub refuses : Unrecognised → Bool
refuses pass = false
refuses refuse = true
refuses (apply a) = false

-- "payload above 32,768 bytes"; "a byte other than .."; "payload under refuse"
unfoldable pub row_of_payload : Lent → Text → Text → Refusal → Bool
row_of_payload b payload policy e =
    buffer_row b e || (policy_row policy e || ((is e TooLong && too_long payload || is e ForeignByte && not (no_foreign Inputs.Payload payload))
    || with_policy_row (read_policy policy) λ P. is e Withheld && refuses P.unrecognised))

-- ---- "Success is 0, exactly when no row applies": a call's number n, by the rows that apply to it

pub record Exactly (row : Refusal → Bool) (n : ℕ) : Type 0 where
  -- an input to which no row applies gets 0
  pub accepts : ((e : Refusal) → row e ≡ false) → n ≡ 0
  -- to an input that gets 0 no row applies
  pub no_row : n ≡ 0 → (e : Refusal) → row e ≡ false
  -- the row of a refusal applies
  pub row_applies : (n ≡ 0 → ⊥) → (e : Refusal) × (n ≡ number e) × (row e ≡ true)
