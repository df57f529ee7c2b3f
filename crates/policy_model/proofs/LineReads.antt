-- What a printed line says is what was printed. Assumes nothing.
use mathlib.Core.Path.{◌≡◌, refl, ◌∙◌}
use mathlib.Core.Bool.{Bool, true, false, ◌||◌}
use mathlib.Core.Option.{some}
use Prim.Native.Nat.{ℕ, ◌≤◌}
use native.Mathlib.Omega.{arith}
use Rattle.text.specs.Text.{bytes, is_upper, is_blank, not_blank, lower_byte, lower, same, is_word, is_empty, run, rest, all}
use Rattle.text.specs.Characters.{prepend, trim_end, trim}
use Rattle.er7.specs.Path.{read_path, print_path}
use Rattle.er7_redact.specs.Action.{Action, is_action, keep, clear, null, pseudonym, replace, mask, first, last, shift, is_keep, is_null_action, read_action, print_action}
use Rattle.er7_redact.specs.Policy.{Rule, Posture, accept, reject}
use Rattle.refusal.specs.Refusal.{is_plain}
use Rattle.policy_model.specs.Policy.{Unrecognised, pass, refuse, apply, rejecting, applying, LineRead, path_kind, line_kind, with_action, read_accept, read_reject, read_unrecognised, read_known_values, with_path, read_rule, read_directive, judged, read_words, not_cr, not_hash, read_line, gap, column, rule_line, posture_line, unrecognised_text, sweep_text}
use Rattle.policy_model.proofs.Bytes.{is_line_byte, is_word_byte}
use Rattle.policy_model.proofs.Columns.{GoodWord, GoodRest, GoodLine, word_rest, column_reads, column_good}

-- ---- rules

-- an action that printing writes and reading reads back
pub record GoodAction (a : Action) : Type 0 where
  pub rest_good : GoodRest (print_action a)
  pub back : read_action (print_action a) ≡ is_action a

pub record GoodRule (r : Rule) : Type 0 where
  pub word_good : GoodWord (print_path r.path)
  pub path_back : read_path (print_path r.path) ≡ some r.path
  pub no_directive : line_kind (print_path r.path) ≡ path_kind
  pub action_good : GoodAction r.action

module _ (k : ℕ) (r : Rule) (h : k ≤ 64) (g : GoodRule r) where
  pub rule_reads : read_line (rule_line k r) ≡ LineRead.rule r
  unfolding rule_line read_directive read_rule with_action with_path
  rule_reads =
      column_reads k (print_path r.path) (print_action r.action) g.word_good g.action_good.rest_good h
      ∙ rw (g.no_directive, g.action_good.back, g.path_back)

  pub rule_line_lem : GoodLine (rule_line k r)
  unfolding rule_line
  rule_line_lem = column_good k (print_path r.path) (print_action r.action) g.word_good g.action_good.rest_good h

-- ---- the three default lines

reject_word : GoodWord (bytes "reject")
unfolding bytes is_empty all is_word_byte is_line_byte is_plain not_hash not_blank is_blank
reject_word = record { full = refl; bytes_fit = refl; short = omega arith }

unrecognised_word : GoodWord (bytes "unrecognised")
unfolding bytes is_empty all is_word_byte is_line_byte is_plain not_hash not_blank is_blank
unrecognised_word = record { full = refl; bytes_fit = refl; short = omega arith }

pub data GoodPosture : Posture → Type 0 where
  good_accept : GoodPosture accept
  good_reject : {a : Action} → GoodAction a → is_keep a ≡ false → GoodPosture (reject a)

pub posture_reads : (p : Posture) → GoodPosture p → read_line (posture_line p) ≡ LineRead.posture p
unfolding posture_line read_directive line_kind is_word same lower lower_byte is_upper bytes
posture_reads accept good_accept = unfold read_line judged read_words prepend trim_end trim not_cr not_hash not_blank is_blank is_empty run rest read_accept in refl
posture_reads (reject a) (good_reject g e) =
    column_reads 12 (bytes "reject") (print_action a) reject_word g.rest_good (omega arith)
    ∙ unfold read_reject with_action rejecting in rw (g.rest_good.full, g.back, e)

pub posture_line_lem : (p : Posture) → GoodPosture p → GoodLine (posture_line p)
unfolding posture_line bytes
posture_line_lem accept good_accept = record { bytes_fit = unfold all is_line_byte is_plain not_hash in refl; short = omega arith }
posture_line_lem (reject a) (good_reject g e) = column_good 12 (bytes "reject") (print_action a) reject_word g.rest_good (omega arith)

pub data GoodUnrecognised : Unrecognised → Type 0 where
  good_pass : GoodUnrecognised pass
  good_refuse : GoodUnrecognised refuse
  good_apply : {a : Action} → GoodAction a → is_keep a || is_null_action a ≡ false → GoodUnrecognised (apply a)

no_word : (a : Action) → (is_word (print_action a) (bytes "refuse") ≡ false) × (is_word (print_action a) (bytes "pass") ≡ false)
unfolding is_word same lower lower_byte is_upper print_action bytes
no_word keep = (refl, refl)
no_word clear = (refl, refl)
no_word null = (refl, refl)
no_word pseudonym = (refl, refl)
no_word (replace t) = (refl, refl)
no_word (mask c) = (refl, refl)
no_word (first n) = (refl, refl)
no_word (last n) = (refl, refl)
no_word (shift z) = (refl, refl)

unrecognised_rest : (u : Unrecognised) → GoodUnrecognised u → GoodRest (unrecognised_text u)
unfolding unrecognised_text bytes is_empty all is_word_byte is_line_byte is_plain not_hash not_blank is_blank
unrecognised_rest pass good_pass = word_rest (bytes "pass") (record { full = refl; bytes_fit = refl; short = omega arith })
unrecognised_rest refuse good_refuse = word_rest (bytes "refuse") (record { full = refl; bytes_fit = refl; short = omega arith })
unrecognised_rest (apply a) (good_apply g e) = g.rest_good

text_reads : (u : Unrecognised) → GoodUnrecognised u → read_unrecognised (unrecognised_text u) ≡ LineRead.unrecognised u
unfolding read_unrecognised unrecognised_text bytes with_action applying is_word same lower lower_byte is_upper is_empty
text_reads pass good_pass = refl
text_reads refuse good_refuse = refl
text_reads (apply a) (good_apply g e) = rw (g.rest_good.full, (no_word a).0, (no_word a).1, g.back, e)

module _ (u : Unrecognised) (g : GoodUnrecognised u) where
  pub unrecognised_reads : read_line (column 12 (bytes "unrecognised") (unrecognised_text u)) ≡ LineRead.unrecognised u
  unfolding read_directive line_kind bytes is_word same lower lower_byte is_upper
  unrecognised_reads =
      column_reads 12 (bytes "unrecognised") (unrecognised_text u) unrecognised_word (unrecognised_rest u g) (omega arith)
      ∙ text_reads u g

  pub unrecognised_line_lem : GoodLine (column 12 (bytes "unrecognised") (unrecognised_text u))
  unrecognised_line_lem = column_good 12 (bytes "unrecognised") (unrecognised_text u) unrecognised_word (unrecognised_rest u g) (omega arith)

pub sweep_reads : (b : Bool) → read_line (column 12 (bytes "known-values") (sweep_text b)) ≡ LineRead.sweep b
unfolding read_line judged read_words prepend trim_end trim not_cr not_hash not_blank is_blank run rest is_word same lower lower_byte is_upper read_directive line_kind read_known_values sweep_text bytes gap column
sweep_reads true = refl
sweep_reads false = refl

pub sweep_line_lem : (b : Bool) → GoodLine (column 12 (bytes "known-values") (sweep_text b))
unfolding gap column bytes sweep_text all is_line_byte is_plain not_hash
sweep_line_lem true = record { bytes_fit = refl; short = omega arith }
sweep_line_lem false = record { bytes_fit = refl; short = omega arith }
