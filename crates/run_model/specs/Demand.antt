-- Demand 3, a claim about two whole calls of redact: what holds before, and what is found afterwards. Assumes nothing: these are definitions.
use Rattle.std.specs.Prelude.{◌≡◌, ◌⊎◌, Bool, false, not, cond, ◌&&◌, ◌||◌, ℕ, zero, suc, T, take}
use mathlib.Core.List.{List, [], ◌∷◌, Memᴰ}
use Rattle.std.proofs.Math.Option.{Option, none, some}
use Rattle.text.specs.Text.{Text}
use Rattle.text.specs.Characters.{lower_text}
use Rattle.er7.specs.declared.message.Place.{Place}
use Rattle.er7.specs.declared.separators.Separators.{Separators}
use Rattle.er7_redact.specs.Action.{Action, is_keep}
use Rattle.er7_redact.specs.Policy.{Rule}
use Rattle.message_model.specs.Message.{Leaf, leaf, Label, Segment, segment, Message, message_of}
use Rattle.message_model.specs.Value.{value, is_whole_word}
use Rattle.policy_model.specs.Policy.{Policy, read, read_policy}
use Rattle.run_model.specs.Redact.{covers, reach, is_node, effect, moved, is_unnamed, learn, after_rule, rules_events, before_sweep}
use Rattle.run_model.specs.Entries.{LentReport, RedactOutcome, redact_outcome}

-- ---- positions: a segment's number and a leaf's number in it, from 0. A leaf that vanished keeps its number

-- what f says of the leaf at a position, and d where there is none
abbrev pub at_leaf : {X : Type 0} → X → (Label → Leaf → List Leaf → X) → Label → List Leaf → ℕ → X
at_leaf d f g [] j = d
at_leaf d f g (x ∷ xs) zero = f g x xs
at_leaf d f g (x ∷ xs) (suc j) = at_leaf d f g xs j

abbrev pub at : {X : Type 0} → X → (Label → Leaf → List Leaf → X) → List Segment → ℕ → ℕ → X
at d f [] i j = d
at d f (segment g xs ∷ ss) zero j = at_leaf d f g xs j
at d f (segment g xs ∷ ss) (suc i) j = at d f ss i j

-- "A leaf's text is its bytes as they stand in the message"
abbrev pub text : Label → Leaf → List Leaf → Option Text
text g (leaf p n t) xs = t

abbrev pub text_at : List Segment → ℕ → ℕ → Option Text
text_at ss i j = at none text ss i j

-- "They differ at a position if their leaves there differ in text"
abbrev pub DifferAt : List Segment → List Segment → ℕ → ℕ → Type 0
DifferAt a b i j = text_at a i j ≡ text_at b i j → ⊥

-- ---- "the first covering action other than keep changed the leaf in both and left the same text"

-- the rule covers the leaf with an action other than keep
abbrev pub acts : Rule → Label → Leaf → List Leaf → Bool
acts r g (leaf p n t) xs = covers r g p && not (is_keep r.action)

abbrev pub acts_at : Rule → List Segment → ℕ → ℕ → Bool
acts_at r ss i j = at false (acts r) ss i j

-- "in a collapse every leaf of the node vanishes", its first included
abbrev pub collapsed : ℕ → Separators → Rule → Label → Leaf → List Leaf → Bool
collapsed key s r g (leaf p n none) xs = false
collapsed key s r g (leaf p n (some t)) xs = is_node (reach r) && moved (effect key s r g p t xs)

-- "An action changed a leaf if its text is another after that rule's turn than before, or if it vanished"
abbrev pub ChangedAt : ℕ → Separators → Rule → List Segment → ℕ → ℕ → Type 0
ChangedAt key s r ss i j = DifferAt ss (after_rule key s r ss) i j ⊎ T (at false (collapsed key s r) ss i j)

-- "and two that both vanished count as left with the same text": the node's first leaf then has the null in both, the others none
abbrev pub SettledAt : ℕ → Separators → Separators → List Rule → List Segment → List Segment → ℕ → ℕ → Type 0
SettledAt key s z [] a b i j = ⊥
SettledAt key s z (r ∷ rs) a b i j =
    cond (acts_at r a i j)
    (ChangedAt key s r a i j × ChangedAt key z r b i j × (text_at (after_rule key s r a) i j ≡ text_at (after_rule key z r b) i j))
    (SettledAt key s z rs (after_rule key s r a) (after_rule key z r b) i j)

-- ---- "when it starts, no value learnt from a message is a whole word of an unnamed leaf of that message"

-- "which values learnt follows from message, policy and key .., not from a run's marks or lists"
abbrev pub Learnt : ℕ → Separators → List Rule → List Segment → Text → Type 0
Learnt key s rs ss v = (a : Action) × Memᴰ (learn v a) (rules_events key s rs ss)

-- "Unnamed leaves are those not named that may be touched, with the text that rules and posture left them"
abbrev pub NotIn : Separators → Text → Label → Leaf → Type 0
NotIn s v g (leaf p n none) = Unit {0}
NotIn s v g (leaf p n (some t)) = T (is_unnamed g p n) → T (not (is_whole_word v (lower_text (value s t))))

abbrev pub NotInLeaves : Separators → Text → Label → List Leaf → Type 0
NotInLeaves s v g [] = Unit {0}
NotInLeaves s v g (x ∷ xs) = NotIn s v g x × NotInLeaves s v g xs

abbrev pub NotInSegments : Separators → Text → List Segment → Type 0
NotInSegments s v [] = Unit {0}
NotInSegments s v (segment g xs ∷ ss) = NotInLeaves s v g xs × NotInSegments s v ss

abbrev pub NothingToSweep : ℕ → Policy → Message → Type 0
NothingToSweep key P m =
    (v : Text) → Learnt key m.separators P.rules m.segments v
    → NotInSegments m.separators v (before_sweep key m.separators P m.segments)

-- ---- "alike in all but covered leaves"

abbrev pub covered : List Rule → Label → Place → Bool
covered [] g p = false
covered (r ∷ rs) g p = covers r g p || covered rs g p

-- "the same pieces in number, nesting and order, .. and the same text in every leaf that no rule covers"
pub data AlikeLeaves (rs : List Rule) (g : Label) : List Leaf → List Leaf → Type 0 where
  end : AlikeLeaves rs g [] []
  next : {xs ys : List Leaf} (p : Place) (t u : Text) → (T (not (covered rs g p)) → t ≡ u)
      → AlikeLeaves rs g xs ys → AlikeLeaves rs g (leaf p false (some t) ∷ xs) (leaf p false (some u) ∷ ys)

-- "the same segment names": with their occurrences, which follow from them
pub data AlikeSegments (rs : List Rule) : List Segment → List Segment → Type 0 where
  end : AlikeSegments rs [] []
  next : {ss zs : List Segment} {xs ys : List Leaf} (g : Label) → AlikeLeaves rs g xs ys → AlikeSegments rs ss zs
      → AlikeSegments rs (segment g xs ∷ ss) (segment g ys ∷ zs)

-- "the same last CR or none"
pub record Alike (rs : List Rule) (a b : Message) : Type 0 where
  pub last_cr : a.last_cr ≡ b.last_cr
  pub segments : AlikeSegments rs a.segments b.segments

-- ---- before and afterwards

-- "redact with any one policy and key on any two accepted messages that are alike in all but covered leaves": the policy P reads from
-- one text, the buffers have any lengths. "A message is accepted if its answer is 0"
pub record TwoCalls (policy : Text) (key : ℕ) (P : Policy) (m n : Text) (b c : LentReport) : Type 0 where
  pub policy_reads : read_policy policy ≡ read P
  pub first_accepted : (redact_outcome b m policy key).number ≡ 0
  pub second_accepted : (redact_outcome c n policy key).number ≡ 0
  pub alike : Alike P.rules (message_of m) (message_of n)

-- "At every position where the two differ, the first covering action other than keep changed the leaf in both and left the same text"
abbrev pub Settled : ℕ → Policy → Message → Message → Type 0
Settled key P a b =
    (i j : ℕ) → DifferAt a.segments b.segments i j
    → SettledAt key a.separators b.separators P.rules a.segments b.segments i j

-- "And the sweep is off or, when it starts, no value learnt from a message is a whole word of an unnamed leaf of that message"
abbrev pub Unswept : ℕ → Policy → Message → Message → Type 0
Unswept key P a b = T (not P.sweep) ⊎ (NothingToSweep key P a × NothingToSweep key P b)

-- "Text and report are what output and report hold up to their lengths; the number of rows is the one returned"
pub record SameResult (o q : RedactOutcome) : Type 0 where
  pub rows : o.rows ≡ q.rows
  pub text : take o.text_length o.output ≡ take q.text_length q.output
  pub report : take o.report_length o.report ≡ take q.report_length q.report

abbrev pub Demand3 : Type 0
Demand3 =
    (policy : Text) (key : ℕ) (P : Policy) (m n : Text) (b c : LentReport) → TwoCalls policy key P m n b c
    → Settled key P (message_of m) (message_of n) → Unswept key P (message_of m) (message_of n)
    → SameResult (redact_outcome b m policy key) (redact_outcome c n policy key)
