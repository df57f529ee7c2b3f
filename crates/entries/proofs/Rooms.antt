-- The action on an unrecognised payload never writes more than a message may hold: "rest over 80". Assumes nothing.
use Rattle.std.proofs.Common.{◌≡◌, ◌++◌, ℕ, arith, length-append, length-take, length-drop}
use Rattle.std.proofs.lemmas.List.{length-replicate}
use Rattle.text.specs.Text.{Text, bytes}
use Rattle.text.specs.Number.{eight_bytes}
use Rattle.text.proofs.Spelling.{hexadecimal_length}
use Rattle.calendar.proofs.TextLaws.{shifted_short}
use Rattle.er7_redact.specs.Action as A
use Rattle.er7_redact.specs.Action.{Action, keep, clear, null, pseudonym, replace, mask, first, last, shift, print_action, room}
use Rattle.pseudonym.specs.Pseudonym as P
use Rattle.policy_model.specs.Policy.{read, read_policy, Unrecognised, pass, refuse, apply}
use Rattle.policy_model.proofs.LineReads.{GoodAction, GoodUnrecognised, good_pass, good_refuse, good_apply}
use Rattle.policy_model.proofs.ReadPolicies.{read_good}
use Rattle.policy.specs.declared.policy.Policy.{Policy as HeldPolicy}
use Rattle.policy.specs.Line.{as_unrecognised}
use Rattle.policy.specs.Policy.{as_policy}
use Rattle.entries.specs.Inner.{NeverLong, UnrecognisedShort}

-- an action whose printed form is short
good_short : (key : ℕ) (a : Action) → GoodAction a → NeverLong key a
unfolding A.apply room print_action bytes
good_short key keep g v h = omega arith
good_short key clear g v h = omega arith
good_short key null g v h = omega arith
good_short key pseudonym g v h = unfold P.pseudonym in omega (arith, hexadecimal_length (P.fold P.OFFSET (eight_bytes key ++ v)))
good_short key (replace t) g v h = omega (arith, simp length-append at g.rest_good.short)
good_short key (mask c) g v h = simp length-replicate (omega arith)
good_short key (first n) g v h = simp length-take (omega arith)
good_short key (last n) g v h = simp length-drop (omega arith)
good_short key (shift n) g v h = omega (arith, shifted_short n v)

unrecognised_good : (key : ℕ) (u : Unrecognised) → GoodUnrecognised u → UnrecognisedShort key u
unrecognised_good key pass good_pass = tt
unrecognised_good key refuse good_refuse = tt
unrecognised_good key (apply a) (good_apply g e) = good_short key a g

-- .. and that of a policy p that the text t reads as
pub unrecognised_short : (key : ℕ) (t : Text) (p : HeldPolicy) → read_policy t ≡ read (as_policy t p) → UnrecognisedShort key (as_unrecognised t p.unrecognised)
unfolding as_policy
unrecognised_short key t p e = unrecognised_good key (as_unrecognised t p.unrecognised) (rw e at (read_good t)).unrecognised_good
