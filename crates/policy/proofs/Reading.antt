-- Laws of reading a policy line by line. Assumes nothing.
use Rattle.std.proofs.Common.{◌≡◌, refl, sym, ap, ◌∙◌, Bool, true, false, not, List, [], ◌∷◌, ◌++◌, ℕ, suc, ◌+◌, ◌≤◌, ◌<◌, eqb, lt-ltb, le-ltb, length, drop, get_or, drop-drop, length-append, drop_of_length-le, add-one, arith, Result, Ok, Err, IsErrAnd}
use Rattle.std.proofs.Math.Seq.{get_or-append_seam}
use Rattle.std.proofs.lemmas.List.{map-append, length-map, get_or_append_left}
use Rattle.std.proofs.lemmas.Result.{err_from_is_err_and}
use Rattle.text.specs.Text.{Text, run, rest, part, between, is_in, RunEnd}
use Rattle.text.specs.declared.bytes.Class.TheVariants.{AllBut}
use Rattle.text.proofs.Laws.{split}
use Rattle.text.proofs.Runs.{drop_step}
use Rattle.refusal.specs.declared.Refusal.{Refusal}
use Rattle.refusal.specs.declared.Refusal.TheVariants.{TooLong, ForeignByte}
use Rattle.refusal.specs.declared.Refused.{Refused}
use Rattle.refusal.specs.Refusal.{too_long, no_foreign, without_line}
use Rattle.refusal.specs.declared.input.Input.TheVariants as Inputs
use Rattle.refusal.specs.Limits.{INPUT_MAX, RULES_MAX}
use Rattle.er7_redact.specs.Policy.{as_rule, as_posture}
use Rattle.er7_redact.specs.declared.policy.Rule.{Rule as HeldRule}
use Rattle.er7_redact.specs.declared.policy.Posture.{Posture as HeldPosture}
use Rattle.er7_redact.specs.declared.policy.Posture.TheVariants as Postures
use Rattle.policy_model.specs.Policy.{LineRead, start, after_line, with_rules, read_line, push, policy_lines, read_lines, read_policy}
use Rattle.policy.specs.declared.line.LineRead.{LineRead as HeldLine}
use Rattle.policy.specs.declared.line.LineRead.TheVariants as LineReads
use Rattle.policy.specs.declared.line.Unrecognised.{Unrecognised as HeldUnrecognised}
use Rattle.policy.specs.declared.line.Unrecognised.TheVariants as Held
use Rattle.policy.specs.declared.policy.Policy.{Policy as HeldPolicy}
use Rattle.policy.specs.Line.{as_unrecognised, as_line, as_line_read, RuleHeld, PostureHeld, UnrecognisedHeld, LineAt}
use Rattle.policy.specs.Policy.{as_rules, as_policy, as_read, RulesHeld, PolicyHeld, PolicyIs}
use Rattle.policy.specs.RuleList.{Pushed}
use Rattle.policy.specs.Reading.{Starts, goes_on, LineTaken, LinesRead}

-- ---- lines

unfoldable not_lf : ℕ → Bool
not_lf x = not (eqb x 0x0a)

-- a byte in front of the first line
lines_front : (x : ℕ) (t : Text) → push x (policy_lines t) ≡ (x ∷ run not_lf t) ∷ policy_lines (drop 1 (rest not_lf t))
    → policy_lines (x ∷ t) ≡ run not_lf (x ∷ t) ∷ policy_lines (drop 1 (rest not_lf (x ∷ t)))
unfolding policy_lines run rest not_lf
lines_front x t ih = go (eqb x 0x0a) refl
  where
    go : (b : Bool) → eqb x 0x0a ≡ b → policy_lines (x ∷ t) ≡ run not_lf (x ∷ t) ∷ policy_lines (drop 1 (rest not_lf (x ∷ t)))
    go true e = rw e
    go false e = rw e ih

-- the first line, and the lines behind its LF
lines_step : (x : ℕ) (s : Text) → policy_lines (x ∷ s) ≡ run not_lf (x ∷ s) ∷ policy_lines (drop 1 (rest not_lf (x ∷ s)))
lines_step x [] = lines_front x [] (unfold policy_lines run rest push in refl)
lines_step x (y ∷ s) = lines_front x (y ∷ s) (ap (push x) (lines_step y s) ∙ (unfold push in refl))

lines_from : (t : Text) (i e : ℕ) → i < length t → RunEnd (is_in (AllBut 0x0a)) t i e → policy_lines (drop i t) ≡ between t i e ∷ policy_lines (drop (e + 1) t)
unfolding is_in not_lf between part
lines_from t i e h g =
    let d = drop_step t i h in
    rw (g.run_is, sym (drop-drop 1 e t), g.rest_is) (rw d (lines_step (get_or t i 0) (drop (i + 1) t)))

-- ---- rules

pub rules_length : (t : Text) (rs : List HeldRule) → length (as_rules t rs) ≡ length rs
unfolding as_rules
rules_length t rs = length-map rs (as_rule t)

more_held : (t : Text) (rs : List HeldRule) (r : HeldRule) → RulesHeld t rs → RuleHeld t r → RulesHeld t (rs ++ (r ∷ []))
more_held t rs r g h = record {
  each = λ k d m. split k (length rs)
      (λ b. rw (get_or_append_left rs (r ∷ []) d k b) (g.each k d b))
      (λ b. let e : k ≡ length rs = omega (arith, simp length-append at m) in rw (e, get_or-append_seam rs r [] d) h);
}

-- a policy that says nothing
pub starts : Starts (record { rules = []; posture = Postures.Accept; unrecognised = Held.Refuse; sweep = true })
starts = record {
  is = λ t. unfold as_policy as_rules as_posture as_unrecognised start in refl;
  held = λ t. record { few = omega arith; rules = record { each = λ k d h. absurd (omega arith) }; posture = tt; unrecognised = tt };
}

-- ---- what a line says, taken into a policy

module _ (t : Text) (p : HeldPolicy) where
  pub nothing_taken : LineTaken t (as_line t LineReads.Nothing) p p (Ok tt)
  unfolding as_line after_line goes_on
  nothing_taken = record { is = λ g n f. refl; held = λ g. g }

  pub posture_taken : (x : HeldPosture) → PostureHeld t x → LineTaken t (as_line t (LineReads.Posture x)) p (record p { posture = x }) (Ok tt)
  unfolding as_line after_line goes_on as_policy
  posture_taken x h = record {
    is = λ g n f. refl;
    held = λ g. record { few = g.few; rules = g.rules; posture = h; unrecognised = g.unrecognised };
  }

  pub unrecognised_taken : (x : HeldUnrecognised) → UnrecognisedHeld t x → LineTaken t (as_line t (LineReads.Unrecognised x)) p (record p { unrecognised = x }) (Ok tt)
  unfolding as_line after_line goes_on as_policy
  unrecognised_taken x h = record {
    is = λ g n f. refl;
    held = λ g. record { few = g.few; rules = g.rules; posture = g.posture; unrecognised = h };
  }

  pub sweep_taken : (b : Bool) → LineTaken t (as_line t (LineReads.Sweep b)) p (record p { sweep = b }) (Ok tt)
  unfolding as_line after_line goes_on as_policy
  sweep_taken b = record {
    is = λ g n f. refl;
    held = λ g. record { few = g.few; rules = g.rules; posture = g.posture; unrecognised = g.unrecognised };
  }

-- a rule, put behind the others or refused
module _ (t : Text) (p : HeldPolicy) (r : HeldRule) (rs : List HeldRule) where
  pub rule_taken : RuleHeld t r → {u : Unit {0}} → Pushed p.rules r rs (Ok u) → LineTaken t (as_line t (LineReads.Rule r)) p (record p { rules = rs }) (Ok tt)
  unfolding as_line after_line goes_on as_policy with_rules as_rules
  rule_taken h f = record {
    is = λ g n k. rw (rules_length t p.rules, lt-ltb (length p.rules) RULES_MAX f.0, f.1, map-append (as_rule t) p.rules (r ∷ []));
    held = λ g. record {
      few = rw f.1 (simp length-append (omega (arith, f.0)));
      rules = rw f.1 (more_held t p.rules r g.rules h);
      posture = g.posture;
      unrecognised = g.unrecognised;
    };
  }

  pub rule_refused : {e : Refusal} → Pushed p.rules r rs (Err e) → LineTaken t (as_line t (LineReads.Rule r)) p (record p { rules = rs }) (Err e)
  unfolding as_line after_line goes_on as_policy
  rule_refused f = rw (f.0, f.2) (record {
    is = λ g n k. rw (rules_length t p.rules, le-ltb (length p.rules) RULES_MAX f.1);
    held = λ g. g;
  })

-- a line that was read, or refused
module _ {t : Text} {said : LineRead} {p : HeldPolicy} where
  pub line_taken : {q : HeldPolicy} {x : HeldLine} {r : Result (Unit {0}) Refusal} → LineAt t said (Ok x) → LineTaken t (as_line t x) p q r → LineTaken t said p q r
  unfolding as_line_read
  line_taken h g = rw (sym h.is) g

  pub line_refused : {e : Refusal} (r : Result (Unit {0}) Refusal) → LineAt t said (Err e) → IsErrAnd r (λ y. y ≡ e) → LineTaken t said p p r
  unfolding as_line_read after_line goes_on
  line_refused r h f = let k = err_from_is_err_and r f in rw (k.1, k.2) (record { is = λ g n f. rw (sym h.is); held = λ g. g })

  pub taken_refused : {q : HeldPolicy} {e : Refusal} (r : Result (Unit {0}) Refusal) → LineTaken t said p q (Err e) → IsErrAnd r (λ y. y ≡ e) → LineTaken t said p q r
  taken_refused r g f = let k = err_from_is_err_and r f in rw (k.1, k.2) g

-- ---- the loop over lines

-- the lines before index i are read, and the next has the number `line`
pub record ReadingFrom (t : Text) (p : HeldPolicy) (line i : ℕ) : Type 0 where
  pub high : i ≤ length t + 1
  pub numbered : line ≤ i + 1
  pub held : PolicyHeld t p
  pub is : read_lines line (as_policy t p) (policy_lines (drop i t)) ≡ read_lines 1 start (policy_lines t)

pub reading_start : (t : Text) {p : HeldPolicy} → Starts p → ReadingFrom t p 1 0
reading_start t s = record { high = omega arith; numbered = omega arith; held = s.held t; is = rw (s.is t) }

module _ {t : Text} {p q : HeldPolicy} {line i e : ℕ} (g : ReadingFrom t p line i) (h : i < length t) (end : RunEnd (is_in (AllBut 0x0a)) t i e) where
  taken : {r : Result (Unit {0}) Refusal} → LineTaken t (read_line (between t i e)) p q r
      → goes_on line (as_policy t q) (λ P. read_lines (suc line) P (policy_lines (drop (e + 1) t))) r ≡ read_lines 1 start (policy_lines t)
  taken f = sym (f.is g.held line _) ∙ sym (rw (lines_from t i e h end) (unfold read_lines in refl)) ∙ g.is

  pub reading_more : LineTaken t (read_line (between t i e)) p q (Ok tt) → ReadingFrom t q (line + 1) (e + 1)
  reading_more f = record {
    high = omega (arith, end.high);
    numbered = omega (arith, g.numbered, end.low);
    held = f.held g.held;
    is = rw add-one (unfold goes_on in taken f);
  }

  pub reading_stop : {s : Result (Unit {0}) Refusal} {y : Refused} (r : Result HeldPolicy Refused) → LineTaken t (read_line (between t i e)) p q s
      → (x : Refusal) × (s ≡ Err x) × (y ≡ record { refusal = x; line = line }) → IsErrAnd r (λ z. z ≡ y) → LinesRead t r
  reading_stop r f d z =
      let k = err_from_is_err_and r z in
      rw (k.1, k.2, d.2) (record { is = unfold as_read in unfold goes_on in taken (rw d.1 at f); held = tt })

pub reading_end : {t : Text} {p : HeldPolicy} {line i : ℕ} → ReadingFrom t p line i → length t ≤ i → LinesRead t (Ok p)
reading_end {t} g h = record {
  is = unfold as_read in sym (rw (drop_of_length-le t h) (unfold policy_lines read_lines in refl)) ∙ g.is;
  held = g.held;
}

-- ---- a whole text

pub policy_long : (t : Text) → INPUT_MAX < length t → PolicyIs t (Err (without_line TooLong))
unfolding as_read read_policy too_long without_line
policy_long t h = record { is = rw (lt-ltb INPUT_MAX (length t) h); held = tt }

module _ (t : Text) (h : length t ≤ INPUT_MAX) where
  pub policy_foreign : no_foreign Inputs.Policy t ≡ false → PolicyIs t (Err (without_line ForeignByte))
  unfolding as_read read_policy too_long without_line
  policy_foreign b = record { is = rw (le-ltb INPUT_MAX (length t) h, b); held = tt }

  pub policy_lines_lem : {r : Result HeldPolicy Refused} → no_foreign Inputs.Policy t ≡ true → LinesRead t r → PolicyIs t r
  unfolding read_policy too_long
  policy_lines_lem b g = record { is = g.is ∙ rw (le-ltb INPUT_MAX (length t) h, b); held = g.held }
