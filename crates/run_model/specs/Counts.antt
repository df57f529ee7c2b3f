-- Rows counted for each policy line (Paper 9): "one count for every rule, one for the posture and one for the sweep, each of the rows it wrote".
-- Assumes nothing: these are definitions.
use Rattle.std.specs.Prelude.{◌≡◌, true, false, List, [], ◌∷◌, ◌++◌, ℕ, ◌+◌, length}
use Rattle.text.specs.Text.{Text}
use Rattle.refusal.specs.declared.Refusal.TheVariants.{TooMuchLearnt, MessageTooLong}
use Rattle.er7.specs.declared.separators.Separators.{Separators}
use Rattle.er7_redact.specs.Policy.{Rule}
use Rattle.message_model.specs.Message.{Segment, Message, print_segments}
use Rattle.policy_model.specs.Policy.{Policy}
use Rattle.run_model.specs.Redact.{Event, segments_events, rule_events, unnamed_events, after_rule, after_rules, for_posture, for_sweep, before_sweep, over_segments, unnamed_leaf, Redacted, done, refused}
use Rattle.run_model.specs.Table.{rows_of, learnt_in, events_of, exceeds, overflows}

-- what each rule's turn says
unfoldable pub rule_turns : ℕ → Separators → List Rule → List Segment → List (List Event)
rule_turns key s [] ss = []
rule_turns key s (r ∷ rs) ss = segments_events (rule_events key s r) ss ∷ rule_turns key s rs (after_rule key s r ss)

unfoldable pub posture_turn : ℕ → Policy → Message → List Event
posture_turn key P m =
    segments_events (unnamed_events key m.separators (for_posture P.posture)) (after_rules key m.separators P.rules m.segments)

-- "A swept row belongs to the sweep, whichever rule learnt the value"
unfoldable pub sweep_turn : ℕ → Policy → Message → List Event
sweep_turn key P m =
    segments_events (unnamed_events key m.separators (for_sweep m.separators (learnt_in key P m))) (before_sweep key m.separators P m.segments)

unfoldable pub row_counts : List (List Event) → List ℕ
row_counts [] = []
row_counts (es ∷ ess) = length (rows_of es) ∷ row_counts ess

-- "in this order"
unfoldable pub counts_of : ℕ → Policy → Message → List ℕ
counts_of key P m =
    row_counts (rule_turns key m.separators P.rules m.segments)
    ++ (length (rows_of (posture_turn key P m)) ∷ (length (rows_of (sweep_turn key P m)) ∷ []))

unfoldable pub sum : List ℕ → ℕ
sum [] = 0
sum (n ∷ ns) = n + sum ns

-- ---- a run with nothing that stops it: its text
unfoldable pub text_after : ℕ → Policy → Message → Text
text_after key P m =
    print_segments m.separators m.last_cr
    (over_segments (unnamed_leaf key m.separators (for_sweep m.separators (learnt_in key P m))) (before_sweep key m.separators P m.segments))

-- what a run that begins with z bytes is
pub data RunIs (z key : ℕ) (P : Policy) (m : Message) : Redacted → Type 0 where
  goes : exceeds (learnt_in key P m) ≡ false → overflows z (events_of key P m) ≡ false → RunIs z key P m (done (text_after key P m) (rows_of (events_of key P m)))
  learnt_full : exceeds (learnt_in key P m) ≡ true → RunIs z key P m (refused TooMuchLearnt)
  too_long_lem : overflows z (events_of key P m) ≡ true → RunIs z key P m (refused MessageTooLong)
