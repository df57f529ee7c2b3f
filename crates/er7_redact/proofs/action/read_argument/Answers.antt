use Rattle.std.proofs.Common.{rules, refl, sym, ap, ◌∙◌, ◌≡◌, Err, to_z, of_z, w64}
use Rattle.std.proofs.lemmas.Result.{err_from_is_err_and}
use Rattle.er7_redact.specs.Action.{keep, clear, null, pseudonym, first, last, held_as, held_action, read_argument, refusal_of}
use Rattle.er7_redact.proofs.Actions.{by_verb, by_bare, by_count, by_no_count, by_days, by_no_days, replace_held}
use Rattle.er7_redact.proofs.action.read_argument.Goals as goal

pub returns-in-Keep : goal.returns-in-Keep
unfolding held_as read_argument refusal_of
returns-in-Keep c = by_bare _ _ _ c.in-Keep.is refl keep (λ u. refl) c.read_bare.ensures

pub returns-in-Clear : goal.returns-in-Clear
unfolding held_as read_argument refusal_of
returns-in-Clear c = by_bare _ _ _ c.in-Clear.is refl clear (λ u. refl) c.read_bare-in-Clear.ensures

pub returns-in-Null : goal.returns-in-Null
unfolding held_as read_argument refusal_of
returns-in-Null c = by_bare _ _ _ c.in-Null.is refl null (λ u. refl) c.read_bare-in-Null.ensures

pub returns-in-Pseudonym : goal.returns-in-Pseudonym
unfolding held_as read_argument refusal_of
returns-in-Pseudonym c = by_bare _ _ _ c.in-Pseudonym.is refl pseudonym (λ u. refl) c.read_bare-in-Pseudonym.ensures

pub returns-in-Replace : goal.returns-in-Replace
unfolding read_argument refusal_of
returns-in-Replace c = by_verb _ _ _ c.in-Replace.is refl (rw c.in-Replace.is (replace_held c.args.s.now c.args.i _))

pub returns-in-Mask : goal.returns-in-Mask
unfolding read_argument refusal_of
returns-in-Mask c = by_verb _ _ _ c.in-Mask.is refl (rw c.in-Mask.is (c.read_mask.ensures _ _))

pub returns-in_err-read_count-in-First : goal.returns-in_err-read_count-in-First
unfolding read_argument refusal_of
returns-in_err-read_count-in-First c =
    let p = err_from_is_err_and c.from_residual.result c.from_residual.ensures.1 in
    by_no_count _ _ _ c.in-First.is refl first (λ u. refl) c.in_err-read_count-in-First.ensures (p.1 ∙ ap Err p.2)

pub returns-in_ok-read_count-in-First : goal.returns-in_ok-read_count-in-First
unfolding held_as read_argument refusal_of
returns-in_ok-read_count-in-First c = by_count _ _ _ c.in-First.is refl first (λ u. refl) c.in_ok-read_count-in-First.ensures refl

pub returns-in_err-read_count-in-Last : goal.returns-in_err-read_count-in-Last
unfolding read_argument refusal_of
returns-in_err-read_count-in-Last c =
    let p = err_from_is_err_and c.from_residual-in_err-read_count-in-Last.result c.from_residual-in_err-read_count-in-Last.ensures.1 in
    by_no_count _ _ _ c.in-Last.is refl last (λ u. refl) c.in_err-read_count-in-Last.ensures (p.1 ∙ ap Err p.2)

pub returns-in_ok-read_count-in-Last : goal.returns-in_ok-read_count-in-Last
unfolding held_as read_argument refusal_of
returns-in_ok-read_count-in-Last c = by_count _ _ _ c.in-Last.is refl last (λ u. refl) c.in_ok-read_count-in-Last.ensures refl

pub returns-in_err-read_days-in-Shift : goal.returns-in_err-read_days-in-Shift
returns-in_err-read_days-in-Shift c =
    let p = err_from_is_err_and c.from_residual-in_err-read_days-in-Shift.result c.from_residual-in_err-read_days-in-Shift.ensures.1 in
    rw (p.1, p.2) (by_no_days _ _ _ c.in-Shift.is c.in_err-read_days-in-Shift.ensures)

pub returns-in_ok-read_days-in-Shift : goal.returns-in_ok-read_days-in-Shift
returns-in_ok-read_days-in-Shift c =
    let i : to_z w64 (of_z w64 c.in_ok-read_days-in-Shift.field-0) ≡ c.in_ok-read_days-in-Shift.field-0 = search rules in
    rw i (by_days _ _ _ c.in-Shift.is c.in_ok-read_days-in-Shift.ensures)

pub returns-in-Unknown : goal.returns-in-Unknown
unfolding held_action read_argument refusal_of
returns-in-Unknown c = by_verb _ _ _ c.in-Unknown.is refl (sym (rw c.in-Unknown.is))
