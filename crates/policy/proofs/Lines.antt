-- Laws of a policy's line. Assumes nothing.
use Rattle.std.proofs.Common.{◌≡◌, refl, sym, ap, ◌∙◌, true, false, ◌||◌, [], ◌∷◌, ◌++◌, ℕ, ◌+◌, ◌-◌, ◌≤◌, ◌<◌, ltb, lt-ltb, le-ltb, length, get_or, arith, Option as HeldOption, Some, None, Result, Ok, Err, IsErrAnd, ok_or}
use Rattle.std.proofs.Math.Option.{Option, none, some}
use Rattle.std.proofs.lemmas.Result.{err_from_is_err_and}
use Rattle.text.specs.Text.{Text, bytes, is_word, is_blank, not_blank, is_in, is_empty, part, between, run, rest, is_alphanumeric, RunTo}
use Rattle.text.specs.declared.bytes.Class.TheVariants.{Blank, NotBlank, AllBut}
use Rattle.text.proofs.Laws.{clash}
use Rattle.text.proofs.Runs.{between_length, part_more}
use Rattle.text.specs.Characters.{trim_end, prepend, trim}
use Rattle.er7.specs.Path.{Path, read_path, held_path}
use Rattle.er7.specs.Path as P
use Rattle.er7.proofs.PathReadBack as PathBack
use Rattle.er7_redact.specs.Action.{ActionRead, is_action, no_action, held_read, read_action, held_as, argument, argument_at, as_action}
use Rattle.er7_redact.proofs.ActionReadBack as ActionBack
use Rattle.er7_redact.specs.Action.{replacement}
use Rattle.er7_redact.specs.declared.action.Action.{Action as HeldAction}
use Rattle.er7_redact.specs.declared.action.Action.TheVariants as Held
use Rattle.er7_redact.specs.Policy.{as_posture, as_rule}
use Rattle.er7_redact.specs.declared.policy.Posture.{Posture as HeldPosture}
use Rattle.er7_redact.specs.declared.policy.Posture.TheVariants.{Accept, Reject}
use Rattle.er7.specs.declared.path.Path.{Path as HeldPath}
use Rattle.refusal.specs.declared.Refusal.{Refusal}
use Rattle.refusal.specs.declared.Refusal.TheVariants.{TooMany, BadPath, BadDirective}
use Rattle.policy_model.specs.Policy.{LineRead, posture, unrecognised, read_accept, read_reject, read_unrecognised, read_rule, with_action, with_path, judged, read_directive, line_kind, read_words, not_cr, not_hash, read_line}
use Rattle.policy.specs.declared.line.Unrecognised.{Unrecognised as HeldUnrecognised}
use Rattle.policy.specs.declared.line.Unrecognised.TheVariants.{Pass, Refuse}
use Rattle.policy.specs.declared.line.LineRead.{LineRead as HeldLine}
use Rattle.policy.specs.declared.line.LineRead.TheVariants.{Nothing, Rule, Posture, Unrecognised}
use Rattle.policy.specs.declared.line.LineKind.{LineKind as HeldLineKind}
use Rattle.policy.specs.Line.{as_line_kind, as_line, as_line_read, as_unrecognised, as_parsed_action, as_parsed_path, Rejecting, Applying, LineAt, ActionAt, PathAt, TrimmedEnd}

-- ---- what is read between two indices

-- the text between them stands there
between_part : (t : Text) (i e : ℕ) → i ≤ e → e ≤ length t → part t i (length (between t i e)) ≡ between t i e
between_part t i e h l = rw (between_length t i e l) (unfold between part in refl)

-- an action or a path that was parsed from s, which stands in t from index i on
module _ (t s : Text) (i : ℕ) (w : part t i (length s) ≡ s) (k : i + length s ≤ length t) where
  action_in_lem : (r : Result HeldAction Refusal) → r ≡ held_read (i + argument_at s) (length (argument s)) (read_action s) → ActionAt t (read_action s) r
  action_in_lem r q = go (read_action s) refl
    where
      go : (o : ActionRead) → read_action s ≡ o → ActionAt t o r
      go (no_action x) e = unfold held_read as_parsed_action in rw (q ∙ ap (held_read _ _) e) (record { is = refl; held = tt })
      go (is_action a) e =
          unfold as_parsed_action held_read in
          let f : r ≡ Ok (held_as (i + argument_at s) (length (argument s)) a) = q ∙ ap (held_read _ _) e in
          let g = ActionBack.parsed_held t s i r _ k q f in
          rw f (record { is = ap is_action (ActionBack.held_stands t s i a w e); held = g })

  path_in : (r : HeldOption HeldPath) → r ≡ held_path i (length (run is_alphanumeric s)) (read_path s) → PathAt t (read_path s) r
  path_in r q = go (read_path s) refl
    where
      go : (o : Option Path) → read_path s ≡ o → PathAt t o r
      go none e = unfold held_path as_parsed_path in rw (q ∙ ap (held_path _ _) e) (record { is = refl; held = tt })
      go (some p) e =
          unfold as_parsed_path held_path in
          let f : r ≡ Some (P.held_as i (length (run is_alphanumeric s)) p) = q ∙ ap (held_path _ _) e in
          let g = PathBack.parsed_held t s i r _ k q f in
          rw f (record { is = ap some (PathBack.held_stands t s i p w e); held = g })

module _ (t : Text) (i e : ℕ) (h : i ≤ e) (l : e ≤ length t) where
  pub action_between : (r : Result HeldAction Refusal) → r ≡ held_read (i + argument_at (between t i e)) (length (argument (between t i e))) (read_action (between t i e))
      → ActionAt t (read_action (between t i e)) r
  action_between r q = action_in_lem t (between t i e) i (between_part t i e h l) (omega (arith, between_length t i e l)) r q

  pub path_between : (r : HeldOption HeldPath) → r ≡ held_path i (length (run is_alphanumeric (between t i e))) (read_path (between t i e))
      → PathAt t (read_path (between t i e)) r
  path_between r q = path_in t (between t i e) i (between_part t i e h l) (omega (arith, between_length t i e l)) r q

-- ---- no text between two indices, and some

pub none_between : (t : Text) (i e : ℕ) → i ≡ e → between t i e ≡ []
unfolding between
none_between t i e h = let z : e - i ≡ 0 = omega arith in rw z

pub some_between : (t : Text) (i e : ℕ) → i < e → e ≤ length t → is_empty (between t i e) ≡ false
some_between t i e h l = go (between t i e) (between_length t i e l)
  where
    go : (s : Text) → length s ≡ e - i → is_empty s ≡ false
    go [] q = absurd (omega arith)
    go (x ∷ s) q = unfold is_empty in refl

-- ---- directives and rules

-- what `?` hands on
pub hands_on : {t : Text} {said : LineRead} {e : Refusal} (r : Result HeldLine Refusal) → IsErrAnd r (λ y. y ≡ e) → LineAt t said (Err e) → LineAt t said r
hands_on r h g = let p = err_from_is_err_and r h in rw (p.1, p.2) g

module _ (t : Text) (i e : ℕ) where
  pub accept_bare : i ≡ e → LineAt t (read_accept (between t i e)) (Ok (Posture Accept))
  unfolding read_accept is_empty as_line_read as_line as_posture
  accept_bare h = record { is = rw (none_between t i e h); held = tt }

  pub reject_bare : i ≡ e → LineAt t (read_reject (between t i e)) (Ok (Posture (Reject (Held.Replace 0 0))))
  unfolding read_reject is_empty as_line_read as_line as_posture as_action replacement
  reject_bare h = record { is = rw (none_between t i e h); held = omega arith }

  pub unrecognised_bare : i ≡ e → LineAt t (read_unrecognised (between t i e)) (Err BadDirective)
  unfolding read_unrecognised is_empty as_line_read
  unrecognised_bare h = record { is = rw (none_between t i e h); held = tt }

  module _ (h : i < e) (l : e ≤ length t) where
    pub accept_more : LineAt t (read_accept (between t i e)) (Err BadDirective)
    unfolding read_accept as_line_read
    accept_more = record { is = rw (some_between t i e h l); held = tt }

    pub reject_wrong : {x : Refusal} → ActionAt t (read_action (between t i e)) (Err x) → LineAt t (read_reject (between t i e)) (Err x)
    unfolding read_reject as_line_read with_action as_parsed_action
    reject_wrong g = record { is = rw (some_between t i e h l, sym g.is); held = tt }

    pub reject_right : {a : HeldAction} {p : HeldPosture} → ActionAt t (read_action (between t i e)) (Ok a) → Rejecting a p
        → LineAt t (read_reject (between t i e)) (Ok (Posture p))
    unfolding read_reject as_line_read as_line with_action as_parsed_action
    reject_right g k = record { is = rw (some_between t i e h l, sym g.is) (ap posture (k.is t)); held = k.held t g.held }

    module _ (not-refuse : is_word (between t i e) (bytes "refuse") ≡ false) (not-pass : is_word (between t i e) (bytes "pass") ≡ false) where
      pub unrecognised_wrong : {x : Refusal} → ActionAt t (read_action (between t i e)) (Err x) → LineAt t (read_unrecognised (between t i e)) (Err x)
      unfolding read_unrecognised as_line_read with_action as_parsed_action
      unrecognised_wrong g = record { is = rw (some_between t i e h l, not-refuse, not-pass, sym g.is); held = tt }

      pub unrecognised_right : {a : HeldAction} {u : HeldUnrecognised} → ActionAt t (read_action (between t i e)) (Ok a) → Applying a u
          → LineAt t (read_unrecognised (between t i e)) (Ok (Unrecognised u))
      unfolding read_unrecognised as_line_read as_line with_action as_parsed_action
      unrecognised_right g k = record {
        is = rw (some_between t i e h l, not-refuse, not-pass, sym g.is) (ap unrecognised (k.is t));
        held = k.held t g.held;
      }

    pub unrecognised_refuse : is_word (between t i e) (bytes "refuse") ≡ true → LineAt t (read_unrecognised (between t i e)) (Ok (Unrecognised Refuse))
    unfolding read_unrecognised as_line_read as_line as_unrecognised
    unrecognised_refuse q = record { is = rw (some_between t i e h l, q); held = tt }

    pub unrecognised_pass : is_word (between t i e) (bytes "refuse") ≡ false → is_word (between t i e) (bytes "pass") ≡ true
        → LineAt t (read_unrecognised (between t i e)) (Ok (Unrecognised Pass))
    unfolding read_unrecognised as_line_read as_line as_unrecognised
    unrecognised_pass p q = record { is = rw (some_between t i e h l, p, q); held = tt }

-- a rule's action, then its path
module _ (t w s : Text) where
  pub rule_no_action : {x : Refusal} → ActionAt t (read_action s) (Err x) → LineAt t (read_rule w s) (Err x)
  unfolding read_rule as_line_read with_action as_parsed_action
  rule_no_action g = record { is = rw (sym g.is); held = tt }

  module _ {a : HeldAction} (g : ActionAt t (read_action s) (Ok a)) where
    pub rule_no_path : (r : HeldOption HeldPath) {x : Refusal} → PathAt t (read_path w) r → ok_or r BadPath ≡ Err x → LineAt t (read_rule w s) (Err x)
    unfolding read_rule as_line_read with_action with_path as_parsed_action as_parsed_path
    rule_no_path None {x} f q = let e : x ≡ BadPath = cc in rw e (record { is = rw (sym g.is, sym f.is); held = tt })
    rule_no_path (Some p) f q = cc

    pub rule_right : (r : HeldOption HeldPath) {p : HeldPath} → PathAt t (read_path w) r → ok_or r BadPath ≡ Ok p
        → LineAt t (read_rule w s) (Ok (Rule (record { path = p; action = a })))
    unfolding read_rule as_line_read as_line with_action with_path as_parsed_action as_parsed_path as_rule
    rule_right None f q = cc
    rule_right (Some y) {p} f q = let e : y ≡ p = cc in rw (← e) (record { is = rw (sym g.is, sym f.is); held = record { path = f.held; action = g.held } })

-- ---- blanks at the end

-- one blank fewer
trim_blank : (s : Text) (x : ℕ) → is_blank x ≡ true → trim_end (s ++ (x ∷ [])) ≡ trim_end s
unfolding trim_end prepend
trim_blank [] x e = rw e
trim_blank (y ∷ s) x e = ap (prepend y) (trim_blank s x e)

-- no blank
trim_other : (s : Text) (x : ℕ) → is_blank x ≡ false → trim_end (s ++ (x ∷ [])) ≡ s ++ (x ∷ [])
unfolding trim_end prepend
trim_other [] x e = rw e
trim_other (y ∷ s) x e = ap (prepend y) (trim_other s x e) ∙ prepend_append s
  where
    prepend_append : (t : Text) → prepend y (t ++ (x ∷ [])) ≡ y ∷ (t ++ (x ∷ []))
    prepend_append [] = refl
    prepend_append (z ∷ t) = refl

-- the last byte
between_last : (t : Text) (i j : ℕ) → i < j → j ≤ length t → between t i j ≡ between t i (j - 1) ++ (get_or t (j - 1) 0 ∷ [])
unfolding between part
between_last t i j h l =
    let n : j - i ≡ j - 1 - i + 1 = omega arith in
    rw n (part_more t i (j - 1 - i) (j - 1) (omega arith) (omega arith))

-- nothing but blanks stands behind index j
pub record Trimming (t : Text) (i e j : ℕ) : Type 0 where
  pub low : i ≤ j
  pub high : j ≤ e
  pub is : trim_end (between t i j) ≡ trim_end (between t i e)

pub trimming_start : (t : Text) (i e : ℕ) → i ≤ e → Trimming t i e e
trimming_start t i e h = record { low = h; high = omega arith; is = refl }

module _ {t : Text} {i e j : ℕ} (l : e ≤ length t) (g : Trimming t i e j) where
  pub trimming_more : i < j → is_blank (get_or t (j - 1) 0) ≡ true → Trimming t i e (j - 1)
  trimming_more h b = record {
    low = omega (arith, g.low);
    high = omega (arith, g.high);
    is = sym (ap trim_end (between_last t i j h (omega (arith, g.high))) ∙ trim_blank (between t i (j - 1)) (get_or t (j - 1) 0) b) ∙ g.is;
  }

  pub trimming_stop : i < j → is_blank (get_or t (j - 1) 0) ≡ false → TrimmedEnd t i e (j - 1 + 1)
  trimming_stop h b =
      let q = between_last t i j h (omega (arith, g.high)) in
      let k : j - 1 + 1 ≡ j = omega arith in
      rw k (record {
        low = g.low;
        high = g.high;
        is = q ∙ sym (trim_other (between t i (j - 1)) (get_or t (j - 1) 0) b) ∙ ap trim_end (sym q) ∙ g.is;
      })

  pub trimming_end : j ≤ i → TrimmedEnd t i e i
  unfolding trim_end
  trimming_end h = record {
    low = omega arith;
    high = omega (arith, g.low, g.high);
    is = none_between t i i refl ∙ (rw (none_between t i j (omega (arith, g.low))) at g.is);
  }

-- ---- a line, from its last step to its first

module _ (t : Text) (i m k e : ℕ) (h : m ≤ length t) (l : e ≤ length t) where
  pub judged_long : ltb 64 (m - i) || ltb 80 (e - k) ≡ true → LineAt t (judged (between t i m) (between t k e)) (Err TooMany)
  unfolding judged as_line_read
  judged_long q = record { is = rw (between_length t i m h, between_length t k e l, q); held = tt }

  pub judged_short : (g : HeldLineKind) {r : Result HeldLine Refusal} → ltb 64 (m - i) || ltb 80 (e - k) ≡ false → as_line_kind g ≡ line_kind (between t i m)
      → LineAt t (read_directive (as_line_kind g) (between t i m) (between t k e)) r → LineAt t (judged (between t i m) (between t k e)) r
  unfolding judged
  judged_short c q f g = record { is = rw (between_length t i m h, between_length t k e l, q, sym f) g.is; held = g.held }

pub words_none : (t : Text) (i e : ℕ) → i ≡ e → LineAt t (read_words (between t i e)) (Ok Nothing)
unfolding read_words as_line_read as_line
words_none t i e h = record { is = rw (none_between t i e h); held = tt }

pub words_some : (t : Text) (i m k e : ℕ) {r : Result HeldLine Refusal} → i < e → e ≤ length t → RunTo (is_in NotBlank) t i e m → RunTo (is_in Blank) t m e k
    → LineAt t (judged (between t i m) (between t k e)) r → LineAt t (read_words (between t i e)) r
unfolding is_in
words_some t i m k e {r} h l f g j = record {
  is = j.is ∙ rw (f.run_is, g.rest_is, f.rest_is) (sym (full (between t i e) (some_between t i e h l)));
  held = j.held;
}
  where
    full : (s : Text) → is_empty s ≡ false → read_words s ≡ judged (run not_blank s) (rest is_blank (rest not_blank s))
    full [] q = unfold is_empty in clash q
    full (x ∷ s) q = unfold read_words in refl

module _ (t : Text) (i e end : ℕ) (l : e ≤ length t) (f : RunTo (is_in (AllBut 0x0d)) t i e end) where
  no_return : between t i end ≡ run not_cr (between t i e)
  unfolding is_in not_cr
  no_return = f.run_is

  line_length : length (run not_cr (between t i e)) ≡ end - i
  line_length = ap length (sym no_return) ∙ between_length t i end (omega (arith, f.high))

  pub line_long : 255 < end - i → LineAt t (read_line (between t i e)) (Err TooMany)
  unfolding read_line as_line_read
  line_long h = record { is = rw (line_length, lt-ltb 255 (end - i) h); held = tt }

  pub line_reads : {hash start stop : ℕ} {r : Result HeldLine Refusal} → end - i ≤ 255 → RunTo (is_in (AllBut 0x23)) t i end hash → RunTo (is_in Blank) t i hash start
      → TrimmedEnd t start hash stop → LineAt t (read_words (between t start stop)) r → LineAt t (read_line (between t i e)) r
  unfolding read_line trim is_in not_hash
  line_reads {hash} {start} {stop} {r} h g b k s = record {
    is = s.is ∙ rw (line_length, le-ltb 255 (end - i) h, sym no_return, sym g.run_is, sym b.rest_is) (ap read_words k.is);
    held = s.held;
  }
