-- A policy that was read can be printed and read back: reading is followed line by line. Assumes nothing.
use mathlib.Core.Path.{◌≡◌, refl}
use mathlib.Core.Bool.{Bool, true, false, ◌&&◌, ◌||◌}
use mathlib.Core.List.{List, [], ◌∷◌}
use mathlib.Core.Option.{Option, none, some}
use Prim.Native.Nat.{ℕ, suc, ◌≤◌}
use native.Mathlib.Omega.{arith}
use borrow.Author.Tests.{ltb-true, ltb-false, not-true}
use lib.Dec.{eqb, ltb}
use lib.ListN.{length, length-append}
use Rattle.text.specs.Text.{Text, bytes, is_blank, not_blank, is_word, is_empty, run, rest, all}
use Rattle.text.proofs.Laws.{and_left, and_right, and_true, by_cond, Maybe}
use Rattle.text.proofs.Runs.{stop_rest}
use Rattle.text.specs.Characters.{trim}
use Rattle.er7.specs.Path.{Path, read_path}
use Rattle.er7.proofs.PathReadBack.{PathFrom, path_from, path_read_back}
use Rattle.er7_redact.specs.Action.{Action, ActionRead, is_action, no_action, kind, is_keep, is_null_action, read_action}
use Rattle.er7_redact.proofs.ActionReadBack.{IfRead}
use Rattle.er7_redact.specs.Policy.{accept, reject}
use Rattle.refusal.specs.Refusal.{too_long, is_plain, no_foreign, is_allowed, begins_in_lf}
use Rattle.refusal.specs.declared.input.Input.TheVariants as Inputs
use Rattle.refusal.specs.Limits.{RULES_MAX}
use Rattle.policy_model.specs.Policy.{pass, apply, Policy, start, rejecting, applying, LineRead, nothing, wrong, LineKind, accept_kind, reject_kind, unrecognised_kind, known_values_kind, star_kind, path_kind, line_kind, with_action, read_accept, read_reject, read_unrecognised, read_known_values, with_path, read_rule, read_directive, judged, read_words, not_cr, not_hash, read_line, push, policy_lines, PolicyRead, read, refused, with_rules, after_line, read_lines, read_policy}
use Rattle.policy_model.proofs.Texts.{Every, none_left, one_more, every_append, all_rest, all_trim, run_both, ends_trim, stop_trim}
use Rattle.policy_model.proofs.Bytes.{is_line_byte}
use Rattle.policy_model.proofs.Columns.{Trimmed}
use Rattle.policy_model.proofs.LineReads.{GoodAction, GoodRule, GoodPosture, good_accept, good_reject, GoodUnrecognised, good_pass, good_refuse, good_apply}
use Rattle.policy_model.proofs.PrintedPolicies.{GoodPolicy}
use Rattle.policy_model.proofs.ReadActions.{behind_word_lem, action_good, redacted_good}
use Rattle.policy_model.proofs.ReadPaths.{path_word, path_no_directive}

-- ---- what a line says

abbrev GoodLineRead : LineRead → Type 0
GoodLineRead nothing = Unit {0}
GoodLineRead (LineRead.rule r) = GoodRule r
GoodLineRead (LineRead.posture p) = GoodPosture p
GoodLineRead (LineRead.unrecognised u) = GoodUnrecognised u
GoodLineRead (LineRead.sweep b) = Unit {0}
GoodLineRead (wrong e) = Unit {0}

action_reads : (o : ActionRead) (f : Action → LineRead) → IfRead GoodAction o → ((a : Action) → GoodAction a → GoodLineRead (f a)) → GoodLineRead (with_action o f)
unfolding with_action
action_reads (no_action e) f h k = tt
action_reads (is_action a) f h k = k a h

module _ (a : Action) (g : GoodAction a) where
  rejecting_good : GoodPosture (rejecting a)
  unfolding rejecting
  rejecting_good = by_cond GoodPosture (is_keep a) accept (reject a) (λ e. good_accept) (λ e. good_reject g e)

  applying_good : GoodUnrecognised (applying a)
  unfolding applying
  applying_good = by_cond GoodUnrecognised (is_keep a || is_null_action a) pass (apply a) (λ e. good_pass) (λ e. good_apply g e)

  path_reads : (w : Text) → length w ≤ 64 → line_kind w ≡ path_kind → GoodLineRead (with_path a (read_path w))
  path_reads w l h = go (read_path w) refl (path_from w)
    where
      go : (o : Option Path) → read_path w ≡ o → Maybe (PathFrom w) o → GoodLineRead (with_path a o)
      go none e f = unfold with_path in tt
      go (some p) e f = unfold with_path in record {
        word_good = path_word w p f l;
        path_back = path_read_back w p e;
        no_directive = path_no_directive w p f h;
        action_good = g;
      }

module _ (w s : Text) (g : Trimmed s) (lw : length w ≤ 64) (ls : length s ≤ 80) where
  with_action_lem : (f : Action → LineRead) → ((a : Action) → GoodAction a → GoodLineRead (f a)) → GoodLineRead (with_action (read_action s) f)
  with_action_lem f k = action_reads (read_action s) f (action_good s g ls) k

  reads_good : (h : LineKind) → line_kind w ≡ h → GoodLineRead (read_directive h w s)
  unfolding read_directive read_accept read_reject read_unrecognised read_known_values read_rule is_keep kind
  reads_good accept_kind e = by_cond GoodLineRead (is_empty s) _ _ (λ e. good_accept) (λ e. tt)
  reads_good reject_kind e =
      by_cond GoodLineRead (is_empty s) _ _ (λ e. good_reject redacted_good refl) λ e.
      with_action_lem (λ a. LineRead.posture (rejecting a)) rejecting_good
  reads_good unrecognised_kind e =
      by_cond GoodLineRead (is_empty s) _ _ (λ e. tt) λ e.
      by_cond GoodLineRead (is_word s (bytes "refuse")) _ _ (λ e. good_refuse) λ e.
      by_cond GoodLineRead (is_word s (bytes "pass")) _ _ (λ e. good_pass) λ e.
      with_action_lem (λ a. LineRead.unrecognised (applying a)) applying_good
  reads_good known_values_kind e =
      by_cond GoodLineRead (is_word s (bytes "on")) _ _ (λ e. tt) λ e.
      by_cond GoodLineRead (is_word s (bytes "off")) _ _ (λ e. tt) (λ e. tt)
  reads_good star_kind e = tt
  reads_good path_kind e = with_action_lem (λ a. with_path a (read_path w)) (λ a h. path_reads a h w lw e)

or_left : (a b : Bool) → a || b ≡ false → a ≡ false
or_left true b e = e
or_left false b e = refl

or_right : (a b : Bool) → a || b ≡ false → b ≡ false
or_right true true e = e
or_right true false e = refl
or_right false b e = e

judged_good : (w s : Text) → Trimmed s → GoodLineRead (judged w s)
unfolding judged
judged_good w s g = by_cond GoodLineRead (ltb 64 (length w) || ltb 80 (length s)) _ _ (λ e. tt)
    (λ e. let a = ltb-false 64 (length w) (or_left (ltb 64 (length w)) (ltb 80 (length s)) e) in
    let b = ltb-false 80 (length s) (or_right (ltb 64 (length w)) (ltb 80 (length s)) e) in
    reads_good w s g a b (line_kind w) refl)

words_good : (s : Text) → Trimmed s → GoodLineRead (read_words s)
unfolding read_words
words_good [] g = tt
words_good (x ∷ s) g = judged_good (run not_blank (x ∷ s)) (rest is_blank (rest not_blank (x ∷ s))) (behind_word_lem (x ∷ s) g)

trim_trimmed : (s : Text) → all is_line_byte s ≡ true → Trimmed (trim s)
unfolding trim
trim_trimmed s h = record {
  begins = stop_trim (rest is_blank s) (stop_rest is_blank s);
  closes = ends_trim (rest is_blank s);
  bytes_fit = all_trim is_line_byte (rest is_blank s) (all_rest is_line_byte is_blank s h);
}

-- a byte of a line with its comment and its CR
unfoldable is_line_or_cr : ℕ → Bool
is_line_or_cr x = is_plain x || eqb x 0x0d

without_CR : (x : ℕ) → is_line_or_cr x ≡ true → not_cr x ≡ true → is_plain x ≡ true
unfolding is_line_or_cr not_cr
without_CR x h k = go (is_plain x) (rw (not-true (eqb x 0x0d) k) at h)
  where
    go : (b : Bool) → b || false ≡ true → b ≡ true
    go true e = refl
    go false e = e

without_comment : (x : ℕ) → is_plain x ≡ true → not_hash x ≡ true → is_line_byte x ≡ true
unfolding is_line_byte
without_comment x h k = and_true (is_plain x) (not_hash x) h k

line_good : (l : Text) → all is_line_or_cr l ≡ true → GoodLineRead (read_line l)
unfolding read_line
line_good l h =
    let a : all is_plain (run not_cr l) ≡ true = run_both is_line_or_cr not_cr is_plain without_CR l h in
    let b : all is_line_byte (run not_hash (run not_cr l)) ≡ true = run_both is_plain not_hash is_line_byte without_comment (run not_cr l) a in
    by_cond GoodLineRead (ltb 255 (length (run not_cr l))) _ _ (λ e. tt) (λ e. words_good (trim (run not_hash (run not_cr l))) (trim_trimmed _ b))

-- ---- the lines of a text

LineBytes : Text → Type 0
LineBytes l = all is_line_or_cr l ≡ true

push_line : (x : ℕ) (ls : List Text) → is_line_or_cr x ≡ true → Every LineBytes ls → Every LineBytes (push x ls)
unfolding push all LineBytes
push_line x [] h none_left = one_more (and_true (is_line_or_cr x) true h refl) none_left
push_line x (l ∷ ls) h (one_more g gs) = one_more (and_true (is_line_or_cr x) (all is_line_or_cr l) h g) gs

line_byte : (x : ℕ) (p b : Bool) → is_plain x ≡ p → p || eqb x 0x0a || eqb x 0x0d && b ≡ true → eqb x 0x0a ≡ false → is_line_or_cr x ≡ true
unfolding is_line_or_cr
line_byte x true b e h n = rw e
line_byte x false b e h n = rw e (and_left (eqb x 0x0d) b (rw n at h))

text_lines : (s : Text) → no_foreign Inputs.Policy s ≡ true → Every LineBytes (policy_lines s)
unfolding no_foreign is_allowed policy_lines LineBytes all
text_lines [] h = none_left
text_lines (x ∷ s) h =
    let t : Bool = is_plain x || eqb x 0x0a || eqb x 0x0d && begins_in_lf s in
    let ih = text_lines s (and_right t (no_foreign Inputs.Policy s) h) in
    by_cond (Every LineBytes) (eqb x 0x0a) ([] ∷ policy_lines s) (push x (policy_lines s))
    (λ e. one_more {x = []} refl ih)
    (λ e. push_line x (policy_lines s) (line_byte x (is_plain x) (begins_in_lf s) refl (and_left t (no_foreign Inputs.Policy s) h) e) ih)

-- ---- a policy

abbrev pub GoodRead : PolicyRead → Type 0
GoodRead (read p) = GoodPolicy p
GoodRead (refused e n) = Unit {0}

after_line_good : (n : ℕ) (p : Policy) (s : LineRead) (f : Policy → PolicyRead) → GoodPolicy p → GoodLineRead s → ((q : Policy) → GoodPolicy q → GoodRead (f q)) → GoodRead (after_line n p s f)
unfolding after_line with_rules
after_line_good n p nothing f g h k = k p g
after_line_good n p (LineRead.rule r) f g h k = by_cond GoodRead (ltb (length p.rules) RULES_MAX) _ _
    (λ e. let l = ltb-true (length p.rules) RULES_MAX e in
    k _ (record {
      rules_good = every_append p.rules (r ∷ []) g.rules_good (one_more h none_left);
      few = rw length-append (omega arith);
      posture_good = g.posture_good;
      unrecognised_good = g.unrecognised_good;
    }))
    (λ e. tt)
after_line_good n p (LineRead.posture x) f g h k = k _ (record { rules_good = g.rules_good; few = g.few; posture_good = h; unrecognised_good = g.unrecognised_good })
after_line_good n p (LineRead.unrecognised x) f g h k = k _ (record { rules_good = g.rules_good; few = g.few; posture_good = g.posture_good; unrecognised_good = h })
after_line_good n p (LineRead.sweep x) f g h k = k _ (record { rules_good = g.rules_good; few = g.few; posture_good = g.posture_good; unrecognised_good = g.unrecognised_good })
after_line_good n p (wrong e) f g h k = tt

lines_good : (n : ℕ) (p : Policy) (ls : List Text) → GoodPolicy p → Every LineBytes ls → GoodRead (read_lines n p ls)
unfolding read_lines LineBytes
lines_good n p [] g none_left = g
lines_good n p (l ∷ ls) g (one_more h hs) = after_line_good n p (read_line l) (λ q. read_lines (suc n) q ls) g (line_good l h) (λ q k. lines_good (suc n) q ls k hs)

start_good : GoodPolicy start
unfolding start
start_good = record { rules_good = none_left; few = omega arith; posture_good = good_accept; unrecognised_good = good_refuse }

pub read_good : (s : Text) → GoodRead (read_policy s)
unfolding read_policy
read_good s =
    by_cond GoodRead (too_long s) _ _ (λ e. tt) λ e.
    by_cond GoodRead (no_foreign Inputs.Policy s) _ _ (λ h. lines_good 1 start (policy_lines s) start_good (text_lines s h)) (λ h. tt)
