-- Demand 3's premises can be met, with the sweep on and two different messages: where a rule changes the one leaf that differs, where
-- it is kept before it is collapsed, and where leaves vanish that a later rule still covers. And without either of the two provisos two
-- calls may differ. Assumes nothing.
use mathlib.Core.Path.{◌≡◌, refl, subst}
use mathlib.Core.Logic.{inl, inr, ⊎_elim}
use mathlib.Core.Bool.{true, false}
use mathlib.Core.List.Memᴰ
use mathlib.Core.List.{List, [], ◌∷◌, Memᴰ}
use mathlib.Core.Option.{Option, none, some}
use Prim.Native.Nat.{ℕ, zero, suc}
use native.Mathlib.Omega.{arith}
use lib.Dec.{T}
use Rattle.text.specs.Text.{Text, bytes, same}
use Rattle.er7_redact.specs.Action as A
use Rattle.er7_redact.specs.Action.{Action, keep, clear, null, mask}
use Rattle.er7_redact.specs.Policy.{Rule, accept, reject}
use Rattle.er7.specs.declared.message.Place.{Place}
use Rattle.message_model.specs.Message.{Leaf, leaf, Label, segment, message_of}
use Rattle.policy_model.specs.Policy.{Policy, read, read_policy, refuse}
use Rattle.run_model.specs.Redact.{Row, learn, change, before_sweep}
use Rattle.run_model.specs.Entries.{LentReport, redact_outcome}
use Rattle.run_model.specs.Demand.{NothingToSweep, NotInSegments, AlikeLeaves, AlikeSegments, TwoCalls, Settled, Unswept, SameResult}
use Rattle.run_model.proofs.Computes.{computes}
use Rattle.refusal.specs.Limits.{TEXT_MAX}

abbrev lent : ℕ → LentReport
lent n = record { buffers = record { output = TEXT_MAX; scratch = TEXT_MAX }; report = n }

abbrev first_field : Action → Rule
first_field a = record { path = record { segment = bytes "PID"; occurrence = 0; field = 1; repetition = 0; component = 0; subcomponent = 0 }; action = a }

abbrev second_component : Rule
second_component = record { path = record { segment = bytes "PID"; occurrence = 0; field = 1; repetition = 0; component = 2; subcomponent = 0 }; action = mask 0x2a }

-- two segments with two leaves each: what holds where there is nothing to show in the first
only_behind : (D S : ℕ → ℕ → Type 0) → (D 1 0 → S 1 0) → (D 1 1 → S 1 1) → (D 0 0 → ⊥) → (D 0 1 → ⊥) → ((j : ℕ) → D 0 (suc (suc j)) → ⊥)
    → ((j : ℕ) → D 1 (suc (suc j)) → ⊥) → ((i j : ℕ) → D (suc (suc i)) j → ⊥) → (i j : ℕ) → D i j → S i j
only_behind D S h k a b c e f zero zero x = absurd (a x)
only_behind D S h k a b c e f zero (suc zero) x = absurd (b x)
only_behind D S h k a b c e f zero (suc (suc j)) x = absurd (c j x)
only_behind D S h k a b c e f (suc zero) zero x = h x
only_behind D S h k a b c e f (suc zero) (suc zero) x = k x
only_behind D S h k a b c e f (suc zero) (suc (suc j)) x = absurd (e j x)
only_behind D S h k a b c e f (suc (suc i)) j x = absurd (f i j x)

abbrev Is : Text → Option Text → Type 0
Is t none = ⊥
Is t (some u) = T (same t u)

-- a header of two leaves, and behind it a segment
behind_header : {rs : List Rule} {g h : Label} {p q : Place} {t u : Text} {xs ys : List Leaf} → AlikeLeaves rs h xs ys
    → AlikeSegments rs (segment g (leaf p false (some t) ∷ leaf q false (some u) ∷ []) ∷ segment h xs ∷ [])
    (segment g (leaf p false (some t) ∷ leaf q false (some u) ∷ []) ∷ segment h ys ∷ [])
behind_header {g = g} {h = h} {p = p} {q = q} {t = t} {u = u} w =
    AlikeSegments.next g (AlikeLeaves.next p t t (λ _. refl) (AlikeLeaves.next q u u (λ _. refl) AlikeLeaves.end))
    (AlikeSegments.next h w AlikeSegments.end)

-- two calls under the key 0
two_calls : {policy : Text} {P : Policy} {m n : Text} {b c : LentReport} → read_policy policy ≡ read P → (redact_outcome b m policy 0).number ≡ 0
    → (redact_outcome c n policy 0).number ≡ 0 → (message_of m).last_cr ≡ (message_of n).last_cr
    → AlikeSegments P.rules (message_of m).segments (message_of n).segments → TwoCalls policy 0 P m n b c
two_calls r f s l g = record { policy_reads = r; first_accepted = f; second_accepted = s; alike = record { last_cr = l; segments = g } }

-- ---- an instance: a first field of abc and one of xyz, masked, before a field that has neither

abbrev masks : Text
masks = bytes "PID-1 mask"

-- what `masks` reads as
abbrev P : Policy
P = record { rules = first_field (mask 0x2a) ∷ []; posture = accept; unrecognised = refuse; sweep = true }

abbrev first : Text
first = bytes "MSH|^~\\&\rPID|abc|hello"

abbrev second : Text
second = bytes "MSH|^~\\&\rPID|xyz|hello"

calls : TwoCalls masks 0 P first second (lent 65536) (lent 23)
unfolding computes
calls = two_calls refl refl refl refl (behind_header (AlikeLeaves.next _ _ _ (λ h. absurd h) (AlikeLeaves.next _ _ _ (λ h. refl) AlikeLeaves.end)))

settled : Settled 0 P (message_of first) (message_of second)
unfolding computes
settled =
    only_behind _ _ (λ d. (inl (λ e. subst (Is (bytes "abc")) e tt), inl (λ e. subst (Is (bytes "xyz")) e tt), refl)) (λ d. absurd (d refl))
    (λ d. d refl) (λ d. d refl) (λ j d. d refl) (λ j d. d refl) (λ i j d. d refl)

no_change : (v : Text) (a : Action) (ρ : Row) (m n : ℕ) → Memᴰ (learn v a) (change ρ m n ∷ []) → ⊥
no_change v a ρ m n h = ⊎_elim (λ e. let z : ◌≡◌ {A = ℕ} 0 1 = cc in omega arith) Memᴰ.not-nil (Memᴰ.cases_cons h)

-- all that is learnt of the first field is its text
only : (t v : Text) (b a : Action) (ρ : Row) (m n : ℕ) → Memᴰ (learn v a) (learn t b ∷ change ρ m n ∷ []) → t ≡ v
only t v b a ρ m n h = ⊎_elim (λ e. cc) (λ k. absurd (no_change v a ρ m n k)) (Memᴰ.cases_cons h)

-- nothing is found in what the rule leaves: MSH-1 and MSH-2 may not be touched, the first field is named, the second has no word of it
quiet_first : NothingToSweep 0 P (message_of first)
unfolding computes
quiet_first v l =
    subst (λ (u : Text). NotInSegments (message_of first).separators u (before_sweep 0 (message_of first).separators P (message_of first).segments))
    (only (bytes "abc") v _ l.0 _ _ _ l.1)
    (((λ h. absurd h), ((λ h. absurd h), tt)), (((λ h. absurd h), ((λ h. tt), tt)), tt))

quiet_second : NothingToSweep 0 P (message_of second)
unfolding computes
quiet_second v l =
    subst (λ (u : Text). NotInSegments (message_of second).separators u (before_sweep 0 (message_of second).separators P (message_of second).segments))
    (only (bytes "xyz") v _ l.0 _ _ _ l.1)
    (((λ h. absurd h), ((λ h. absurd h), tt)), (((λ h. absurd h), ((λ h. tt), tt)), tt))

pub premises_met :
    TwoCalls masks 0 P first second (lent 65536) (lent 23) × Settled 0 P (message_of first) (message_of second)
    × Unswept 0 P (message_of first) (message_of second) × (first ≡ second → ⊥)
unfolding computes
premises_met = (calls, settled, inr (quiet_first, quiet_second), λ e. absurd (subst (λ (t : Text). T (same first t)) e tt))

-- ---- an instance: `""^x` and `a^x`, kept and then collapsed. Keep is passed by, and the null that was there counts as changed

abbrev collapsing : Text
collapsing = bytes "PID-1 keep\nPID-1 null\nreject mask"

abbrev K : Policy
K = record { rules = first_field keep ∷ first_field null ∷ []; posture = reject (mask 0x2a); unrecognised = refuse; sweep = true }

abbrev nulled : Text
nulled = bytes "MSH|^~\\&\rPID|\"\"^x"

abbrev full : Text
full = bytes "MSH|^~\\&\rPID|a^x"

pub keep_passed :
    TwoCalls collapsing 0 K nulled full (lent 65536) (lent 65536) × Settled 0 K (message_of nulled) (message_of full)
    × Unswept 0 K (message_of nulled) (message_of full) × (nulled ≡ full → ⊥)
unfolding computes
keep_passed = (
  two_calls refl refl refl refl (behind_header (AlikeLeaves.next _ _ _ (λ h. absurd h) (AlikeLeaves.next _ _ _ (λ h. absurd h) AlikeLeaves.end))),
  only_behind _ _ (λ d. (inr tt, inr tt, refl)) (λ d. absurd (d refl)) (λ d. d refl) (λ d. d refl) (λ j d. d refl) (λ j d. d refl) (λ i j d. d refl),
  inr ((λ v l. absurd (no_change v l.0 _ _ _ l.1)), (λ v l. absurd (no_change v l.0 _ _ _ l.1))),
  λ e. absurd (subst (λ (t : Text). T (same nulled t)) e tt),
)

-- ---- an instance: both leaves of `a^x` and `b^y` vanish in a collapse, and a later rule covers the second

abbrev vanishes : Text
vanishes = bytes "PID-1 null\nPID-1.2 mask"

abbrev C : Policy
C = record { rules = first_field null ∷ second_component ∷ []; posture = accept; unrecognised = refuse; sweep = true }

abbrev other : Text
other = bytes "MSH|^~\\&\rPID|b^y"

pub vanished_covered :
    TwoCalls vanishes 0 C full other (lent 65536) (lent 65536) × Settled 0 C (message_of full) (message_of other)
    × Unswept 0 C (message_of full) (message_of other) × (full ≡ other → ⊥)
unfolding computes
vanished_covered = (
  two_calls refl refl refl refl (behind_header (AlikeLeaves.next _ _ _ (λ h. absurd h) (AlikeLeaves.next _ _ _ (λ h. absurd h) AlikeLeaves.end))),
  only_behind _ _ (λ d. (inr tt, inr tt, refl)) (λ d. (inr tt, inr tt, refl)) (λ d. d refl) (λ d. d refl) (λ j d. d refl) (λ j d. d refl) (λ i j d. d refl),
  inr ((λ v l. absurd (no_change v l.0 _ _ _ l.1)), (λ v l. absurd (no_change v l.0 _ _ _ l.1))),
  λ e. absurd (subst (λ (t : Text). T (same full t)) e tt),
)

-- ---- why the first covering action must settle: under two rules abc changes once and abcd twice, though the second rule leaves the same text

abbrev shortens : Text
shortens = bytes "PID-1 first 3\nPID-1 clear\nknown-values off"

abbrev Q : Policy
Q = record { rules = first_field (A.first 3) ∷ first_field clear ∷ []; posture = accept; unrecognised = refuse; sweep = false }

abbrev three : Text
three = bytes "MSH|^~\\&\rPID|abc"

abbrev four : Text
four = bytes "MSH|^~\\&\rPID|abcd"

pub settled_needed :
    TwoCalls shortens 0 Q three four (lent 65536) (lent 65536) × Unswept 0 Q (message_of three) (message_of four)
    × (SameResult (redact_outcome (lent 65536) three shortens 0) (redact_outcome (lent 65536) four shortens 0) → ⊥)
unfolding computes
settled_needed = (
  two_calls refl refl refl refl (behind_header (AlikeLeaves.next _ _ _ (λ h. absurd h) AlikeLeaves.end)),
  inl tt,
  λ h. let e : ◌≡◌ {A = ℕ} 1 2 = h.rows in omega arith,
)

-- ---- why the sweep must find nothing: where the second field is abc too, it is swept in one message and not in the other

abbrev swept : Text
swept = bytes "MSH|^~\\&\rPID|abc|abc"

abbrev unswept : Text
unswept = bytes "MSH|^~\\&\rPID|xyz|abc"

pub unswept_needed :
    TwoCalls masks 0 P swept unswept (lent 65536) (lent 65536) × Settled 0 P (message_of swept) (message_of unswept)
    × (SameResult (redact_outcome (lent 65536) swept masks 0) (redact_outcome (lent 65536) unswept masks 0) → ⊥)
unfolding computes
unswept_needed = (
  two_calls refl refl refl refl (behind_header (AlikeLeaves.next _ _ _ (λ h. absurd h) (AlikeLeaves.next _ _ _ (λ h. refl) AlikeLeaves.end))),
  only_behind _ _ (λ d. (inl (λ e. subst (Is (bytes "abc")) e tt), inl (λ e. subst (Is (bytes "xyz")) e tt), refl)) (λ d. absurd (d refl))
      (λ d. d refl) (λ d. d refl) (λ j d. d refl) (λ j d. d refl) (λ i j d. d refl),
  λ h. let e : ◌≡◌ {A = ℕ} 2 1 = h.rows in omega arith,
)
