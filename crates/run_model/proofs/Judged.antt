-- The parts of a call, each judged as the table says: with no refusal no row applies, and the row of a refusal applies. Assumes nothing.
use mathlib.Core.Path.{◌≡◌, refl, sym, ◌∙◌}
use mathlib.Core.Bool.{Bool, true, false, not, cond, ◌&&◌, ◌||◌}
use mathlib.Core.List.{List, [], ◌∷◌, ◌++◌}
use mathlib.Core.Option.{Option, none, some}
use Prim.Native.Nat.{ℕ, suc, ◌+◌, ◌≤◌, ◌<◌}
use native.Mathlib.Nat.{zero-add}
use native.Mathlib.Omega.{arith}
use borrow.Author.Tests.{eq-eqb, ne_eqb, lt-ltb, le-ltb, ltb-true, ltb-false, leb-true, leb-false}
use lib.ListN.{length, length-append}
use lib.Dec.{leb, ltb}
use Rattle.text.specs.Text.{Text}
use Rattle.text.proofs.Laws.{and_false, clash}
use Rattle.er7.specs.declared.separators.Separators.{Separators}
use Rattle.er7_redact.specs.Policy.{Rule}
use Rattle.refusal.specs.declared.Refusal.{Refusal}
use Rattle.refusal.specs.declared.Refusal.TheVariants.{TooLong, ForeignByte, BadHeader, BadSegment, TooMany}
use Rattle.refusal.specs.Refusal.{number, too_long, no_foreign}
use Rattle.refusal.specs.declared.input.Input.TheVariants as Inputs
use Rattle.refusal.specs.Limits.{LEAVES_MAX, RULES_MAX, SEGMENTS_MAX}
use Rattle.message_model.specs.Message.{message_lines, head_of, is_opened, separators_of, is_named, leaves_of, segments_fault, message_fault}
use Rattle.policy_model.specs.Policy as Q
use Rattle.policy_model.specs.Policy.{Policy, PolicyRead, read, read_policy, LineRead, nothing, rule, wrong, read_line, policy_lines, with_rules, after_line, read_lines, start}
use Rattle.run_model.specs.Table.{is, is_wrong, is_rule, any_wrong, rule_count, policy_row, all_named, others_of, leaf_count, message_row}

-- no row applies, or that of the refusal does
abbrev pub Judges : (Refusal → Bool) → Option Refusal → Type 0
Judges row none = (e : Refusal) → row e ≡ false
Judges row (some e) = row e ≡ true

pub judges_same : (f g : Refusal → Bool) (o : Option Refusal) → ((e : Refusal) → f e ≡ g e) → Judges f o → Judges g o
judges_same f g none h k = λ e. sym (h e) ∙ k e
judges_same f g (some e) h k = sym (h e) ∙ k

-- ---- tests

pub or_false : {a b : Bool} → a ≡ false → b ≡ false → (a || b) ≡ false
or_false {a} {b} h k = rw (h, k)

pub or_left : {a : Bool} (b : Bool) → a ≡ true → (a || b) ≡ true
or_left {a} b h = rw h

pub or_right : (a : Bool) {b : Bool} → b ≡ true → (a || b) ≡ true
or_right true h = refl
or_right false h = h

pub and_none : (a : Bool) {b : Bool} → b ≡ false → (a && b) ≡ false
and_none true h = h
and_none false h = refl

pub is_self : (e : Refusal) → is e e ≡ true
unfolding is
is_self e = eq-eqb (number e) (number e) refl

-- ---- a policy

unfoldable pub policy_refusal : PolicyRead → Option Refusal
policy_refusal (read P) = none
policy_refusal (Q.refused e n) = some e

-- lines behind k rules
unfoldable lines_row : ℕ → List Text → Refusal → Bool
lines_row k ls e = is e TooMany && ltb RULES_MAX (k + rule_count ls) || any_wrong e ls

module _ (n : ℕ) (l : Text) (ls : List Text) (ih : (p : Policy) → length p.rules ≤ RULES_MAX → Judges (lines_row (length p.rules) ls) (policy_refusal (read_lines (suc n) p ls))) where
  -- a line that is no rule and not wrong changes no row
  silent : (x : LineRead) → read_line l ≡ x → is_rule x ≡ false → ((e : Refusal) → is_wrong e x ≡ false) → (k : ℕ) (e : Refusal) → lines_row k ls e ≡ lines_row k (l ∷ ls) e
  unfolding lines_row rule_count any_wrong
  silent x q h w k e = rw (q, h, w e)

  a_rule : (r : Rule) → read_line l ≡ rule r → (p : Policy) (e : Refusal) → lines_row (length (p.rules ++ (r ∷ []))) ls e ≡ lines_row (length p.rules) (l ∷ ls) e
  unfolding lines_row rule_count any_wrong is_rule is_wrong
  a_rule r q p e =
      let h : length (p.rules ++ (r ∷ [])) + rule_count ls ≡ length p.rules + suc (rule_count ls) = simp length-append (omega arith) in
      rw (q, h)

  quiet : (q : Policy) → length q.rules ≤ RULES_MAX → (x : LineRead) → read_line l ≡ x → is_rule x ≡ false → ((e : Refusal) → is_wrong e x ≡ false)
      → Judges (lines_row (length q.rules) (l ∷ ls)) (policy_refusal (read_lines (suc n) q ls))
  quiet q h x e a b =
      judges_same (lines_row (length q.rules) ls) (lines_row (length q.rules) (l ∷ ls)) (policy_refusal (read_lines (suc n) q ls))
      (silent x e a b (length q.rules)) (ih q h)

  line_judged : (p : Policy) → length p.rules ≤ RULES_MAX → (x : LineRead) → read_line l ≡ x
      → Judges (lines_row (length p.rules) (l ∷ ls)) (policy_refusal (after_line n p x λ q. read_lines (suc n) q ls))
  unfolding after_line with_rules
  line_judged p h nothing q = quiet p h nothing q (unfold is_rule in refl) (λ e. unfold is_wrong in refl)
  line_judged p h (rule r) q = go (ltb (length p.rules) RULES_MAX) refl
    where
      go : (c : Bool) → ltb (length p.rules) RULES_MAX ≡ c
          → Judges (lines_row (length p.rules) (l ∷ ls))
          (policy_refusal (cond c (read_lines (suc n) (with_rules p (p.rules ++ (r ∷ []))) ls) (Q.refused TooMany n)))
      go true c =
          judges_same (lines_row (length (p.rules ++ (r ∷ []))) ls) (lines_row (length p.rules) (l ∷ ls))
          (policy_refusal (read_lines (suc n) (with_rules p (p.rules ++ (r ∷ []))) ls)) (a_rule r q p) (ih (with_rules p (p.rules ++ (r ∷ []))) (few (ltb-true (length p.rules) RULES_MAX c)))
        where
          few : length p.rules < RULES_MAX → length (p.rules ++ (r ∷ [])) ≤ RULES_MAX
          few f = simp length-append (omega arith)
      go false c = unfold policy_refusal lines_row is number rule_count is_rule in rw (q, lt-ltb RULES_MAX (length p.rules + suc (rule_count ls)) (omega (arith, ltb-false (length p.rules) RULES_MAX c)))
  line_judged p h (Q.posture x) q =
      quiet (record { rules = p.rules; posture = x; unrecognised = p.unrecognised; sweep = p.sweep }) h (Q.posture x) q (unfold is_rule in refl) (λ e. unfold is_wrong in refl)
  line_judged p h (Q.unrecognised x) q =
      quiet (record { rules = p.rules; posture = p.posture; unrecognised = x; sweep = p.sweep }) h (Q.unrecognised x) q (unfold is_rule in refl) (λ e. unfold is_wrong in refl)
  line_judged p h (Q.sweep x) q =
      quiet (record { rules = p.rules; posture = p.posture; unrecognised = p.unrecognised; sweep = x }) h (Q.sweep x) q (unfold is_rule in refl) (λ e. unfold is_wrong in refl)
  line_judged p h (wrong x) q =
      unfold policy_refusal lines_row any_wrong in
      or_right (is x TooMany && ltb RULES_MAX (length p.rules + rule_count (l ∷ ls))) (rw q (unfold is_wrong in or_left (any_wrong x ls) (is_self x)))

lines_judged : (ls : List Text) (n : ℕ) (p : Policy) → length p.rules ≤ RULES_MAX → Judges (lines_row (length p.rules) ls) (policy_refusal (read_lines n p ls))
unfolding read_lines
lines_judged [] n p h = unfold policy_refusal lines_row rule_count any_wrong in λ e. or_false (and_none (is e TooMany) (le-ltb RULES_MAX (length p.rules + 0) (omega arith))) refl
lines_judged (l ∷ ls) n p h = line_judged n l ls (lines_judged ls (suc n)) p h (read_line l) refl

pub policy_judged : (s : Text) → Judges (policy_row s) (policy_refusal (read_policy s))
unfolding read_policy
policy_judged s = go (too_long s) (no_foreign Inputs.Policy s) refl refl
  where
    only_lines : too_long s ≡ false → no_foreign Inputs.Policy s ≡ true → (e : Refusal) → lines_row (length start.rules) (policy_lines s) e ≡ policy_row s e
    only_lines a b e =
        unfold lines_row policy_row start in
        rw (a, b, and_false (is e TooLong), and_false (is e ForeignByte), zero-add (rule_count (policy_lines s)))

    go : (a b : Bool) → too_long s ≡ a → no_foreign Inputs.Policy s ≡ b
        → Judges (policy_row s) (policy_refusal (cond a (Q.refused TooLong 0) (cond b (read_lines 1 start (policy_lines s)) (Q.refused ForeignByte 0))))
    go true b e f = unfold policy_refusal policy_row is number in rw e
    go false false e f = unfold policy_refusal policy_row is number in rw f
    go false true e f =
        judges_same (lines_row (length start.rules) (policy_lines s)) (policy_row s) (policy_refusal (read_lines 1 start (policy_lines s))) (only_lines e f)
        (lines_judged (policy_lines s) 1 start (unfold start in omega arith))

-- ---- a message

-- lines behind k segments with n leaves
unfoldable segments_row : Separators → ℕ → ℕ → List Text → Refusal → Bool
segments_row s k n ls e = is e BadSegment && not (all_named s ls) || is e TooMany && (ltb SEGMENTS_MAX (k + length ls) || ltb LEAVES_MAX (n + leaf_count s ls))

-- a header's line and the lines behind it
unfoldable header_row : Separators → Text → List Text → Refusal → Bool
header_row s l ls e =
    is e BadSegment && not (all_named s ls) || is e TooMany && (ltb SEGMENTS_MAX (length (l ∷ ls)) || ltb LEAVES_MAX (length (leaves_of s l) + leaf_count s ls))

module _ (s : Separators) where
  -- a line that is named and leaves room
  next_row : (l : Text) (ls : List Text) (k n : ℕ) → is_named s l ≡ true → (e : Refusal)
      → segments_row s (k + 1) (n + length (leaves_of s l)) ls e ≡ segments_row s k n (l ∷ ls) e
  unfolding segments_row all_named leaf_count
  next_row l ls k n h e =
      let f : (k + 1) + length ls ≡ k + suc (length ls) = omega arith in
      let g : (n + length (leaves_of s l)) + leaf_count s ls ≡ n + (length (leaves_of s l) + leaf_count s ls) = omega arith in
      rw (h, f, g)

  room : (k n m L c : ℕ) → (leb SEGMENTS_MAX k || ltb LEAVES_MAX (n + m)) ≡ true → (ltb SEGMENTS_MAX (k + suc L) || ltb LEAVES_MAX (n + (m + c))) ≡ true
  room k n m L c h = go (leb SEGMENTS_MAX k) refl h
    where
      go : (b : Bool) → leb SEGMENTS_MAX k ≡ b → (b || ltb LEAVES_MAX (n + m)) ≡ true → (ltb SEGMENTS_MAX (k + suc L) || ltb LEAVES_MAX (n + (m + c))) ≡ true
      go true e f = or_left (ltb LEAVES_MAX (n + (m + c))) (lt-ltb SEGMENTS_MAX (k + suc L) (omega (arith, leb-true SEGMENTS_MAX k e)))
      go false e f = or_right (ltb SEGMENTS_MAX (k + suc L)) (lt-ltb LEAVES_MAX (n + (m + c)) (omega (arith, ltb-true LEAVES_MAX (n + m) f)))

  no_room : (k n m : ℕ) → (leb SEGMENTS_MAX k || ltb LEAVES_MAX (n + m)) ≡ false → (k + 1 ≤ SEGMENTS_MAX) × (n + m ≤ LEAVES_MAX)
  no_room k n m h = go (leb SEGMENTS_MAX k) refl h
    where
      go : (b : Bool) → leb SEGMENTS_MAX k ≡ b → (b || ltb LEAVES_MAX (n + m)) ≡ false → (k + 1 ≤ SEGMENTS_MAX) × (n + m ≤ LEAVES_MAX)
      go true e f = clash f
      go false e f = (omega (arith, leb-false SEGMENTS_MAX k e), ltb-false LEAVES_MAX (n + m) f)

  segments_judged : (ls : List Text) (k n : ℕ) → 1 ≤ k → k ≤ SEGMENTS_MAX → n ≤ LEAVES_MAX → Judges (segments_row s k n ls) (segments_fault s k n ls)
  unfolding segments_fault
  segments_judged [] k n h a b =
      unfold segments_row all_named leaf_count in
      λ e. or_false (and_none (is e BadSegment) refl) (and_none (is e TooMany) (or_false (le-ltb SEGMENTS_MAX (k + 0) (omega arith)) (le-ltb LEAVES_MAX (n + 0) (omega arith))))
  segments_judged (l ∷ ls) k n h a b =
      rw (ne_eqb k 0 (λ e. absurd (omega arith)))
      (go (is_named s l) (leb SEGMENTS_MAX k || ltb LEAVES_MAX (n + length (leaves_of s l))) refl refl (segments_judged ls (k + 1) (n + length (leaves_of s l)) (omega arith)))
    where
      go : (c d : Bool) → is_named s l ≡ c → (leb SEGMENTS_MAX k || ltb LEAVES_MAX (n + length (leaves_of s l))) ≡ d
          → (k + 1 ≤ SEGMENTS_MAX → n + length (leaves_of s l) ≤ LEAVES_MAX
          → Judges (segments_row s (k + 1) (n + length (leaves_of s l)) ls) (segments_fault s (k + 1) (n + length (leaves_of s l)) ls))
          → Judges (segments_row s k n (l ∷ ls))
          (cond (not c) (some BadSegment) (cond d (some TooMany) (segments_fault s (k + 1) (n + length (leaves_of s l)) ls)))
      go false d e f ih = unfold segments_row is number all_named in rw e
      go true true e f ih = unfold segments_row is number leaf_count in room k n (length (leaves_of s l)) (length ls) (leaf_count s ls) f
      go true false e f ih =
          let r = no_room k n (length (leaves_of s l)) f in
          judges_same (segments_row s (k + 1) (n + length (leaves_of s l)) ls) (segments_row s k n (l ∷ ls))
          (segments_fault s (k + 1) (n + length (leaves_of s l)) ls) (next_row l ls k n e) (ih r.0 r.1)

  -- the header and the lines behind it
  first_judged : (l : Text) (ls : List Text)
      → Judges (header_row s l ls)
      (segments_fault s 0 0 (l ∷ ls))
  unfolding segments_fault
  first_judged l ls = go (ltb LEAVES_MAX (0 + length (leaves_of s l))) refl
    where
      rows : (e : Refusal) → segments_row s 1 (0 + length (leaves_of s l)) ls e
          ≡ header_row s l ls e
      rows e =
          unfold segments_row header_row in
          let f : 1 + length ls ≡ length (l ∷ ls) = omega arith in
          let g : (0 + length (leaves_of s l)) + leaf_count s ls ≡ length (leaves_of s l) + leaf_count s ls = omega arith in
          rw (f, g)

      go : (d : Bool) → ltb LEAVES_MAX (0 + length (leaves_of s l)) ≡ d
          → Judges (header_row s l ls)
          (cond d (some TooMany) (segments_fault s 1 (0 + length (leaves_of s l)) ls))
      go true e =
          unfold header_row is number in
          or_right (ltb SEGMENTS_MAX (length (l ∷ ls))) (lt-ltb LEAVES_MAX (length (leaves_of s l) + leaf_count s ls) (omega (arith, ltb-true LEAVES_MAX (0 + length (leaves_of s l)) e)))
      go false e =
          judges_same (segments_row s 1 (0 + length (leaves_of s l)) ls) (header_row s l ls) (segments_fault s 1 (0 + length (leaves_of s l)) ls) rows
          (segments_judged ls 1 (0 + length (leaves_of s l)) (omega arith) (omega arith) (ltb-false LEAVES_MAX (0 + length (leaves_of s l)) e))

pub message_judged : (t : Text) → Judges (message_row t) (message_fault t)
unfolding message_fault
message_judged t = lines_from (message_lines t) refl (too_long t) (no_foreign Inputs.Message t) (is_opened (message_lines t)) refl refl refl
  where
    only_lines : (l : Text) (ls : List Text) → message_lines t ≡ l ∷ ls → too_long t ≡ false → no_foreign Inputs.Message t ≡ true → is_opened (l ∷ ls) ≡ true
        → (x : Refusal) → header_row (separators_of l) l ls x ≡ message_row t x
    only_lines l ls q e f g x =
        unfold message_row header_row others_of head_of leaf_count in
        rw (q, e, f, g, and_false (is x TooLong), and_false (is x ForeignByte), and_false (is x BadHeader))

    lines_from : (ls : List Text) → message_lines t ≡ ls → (a b c : Bool) → too_long t ≡ a → no_foreign Inputs.Message t ≡ b → is_opened ls ≡ c
        → Judges (message_row t) (cond a (some TooLong) (cond (not b) (some ForeignByte) (cond (not c) (some BadHeader) (segments_fault (separators_of (head_of ls)) 0 0 ls))))
    lines_from ls q true b c e f g = unfold message_row is number in rw e
    lines_from ls q false false c e f g = unfold message_row is number in rw f
    lines_from ls q false true false e f g = unfold message_row is number in rw (q, g)
    lines_from [] q false true true e f g =
        unfold segments_fault message_row is_opened all_named others_of leaf_count in
        λ x. rw (q, e, f, and_false (is x TooLong), and_false (is x ForeignByte), and_false (is x BadHeader), and_false (is x BadSegment), and_false (is x TooMany))
    lines_from (l ∷ ls) q false true true e f g =
        unfold head_of in
        judges_same (header_row (separators_of l) l ls) (message_row t) (segments_fault (separators_of l) 0 0 (l ∷ ls))
        (λ x. only_lines l ls q e f g x) (first_judged (separators_of l) l ls)
