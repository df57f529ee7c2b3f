-- policy.rs: policies, how they are read, merged and printed. Assumes nothing: these are definitions.
use Rattle.std.specs.Prelude.{Bool, true, false, not, cond, ◌||◌, List, [], ◌∷◌, ◌++◌, ℕ, suc, ◌-◌, max, length, replicate, eqb, ltb}
use Rattle.std.proofs.Math.Option.{Option, none, some}
use Rattle.text.specs.Text.{Text, bytes, is_word, is_empty, run}
use Rattle.text.specs.Characters.{skip_blanks, word, behind_word, trim}
use Rattle.er7.specs.Path.{Path, read_path, print_path}
use Rattle.er7_redact.specs.Action.{Action, ActionRead, is_action, no_action, replace, is_keep, is_null_action, read_action, print_action}
use Rattle.er7_redact.specs.Policy.{Rule, Posture, accept, reject}
use Rattle.refusal.specs.declared.Refusal.{Refusal}
use Rattle.refusal.specs.declared.Refusal.TheVariants.{TooLong, ForeignByte, TooMany, BadPath, BadDirective}
use Rattle.refusal.specs.Refusal.{too_long, no_foreign}
use Rattle.refusal.specs.declared.input.Input.TheVariants as Inputs
use Rattle.refusal.specs.Limits.{RULES_MAX}

-- what a payload gets: it passes, gets an action, or is refused
pub data Unrecognised : Type 0 where
  pass refuse : Unrecognised
  apply : Action → Unrecognised

-- the term "policy": its rules in their order, and what holds for the rest
pub record Policy : Type 0 where
  pub rules : List Rule
  pub posture : Posture
  pub unrecognised : Unrecognised
  pub sweep : Bool

-- "Start: accept, refuse, sweep on"
unfoldable pub start : Policy
start = record { rules = []; posture = accept; unrecognised = refuse; sweep = true }

-- "`reject keep` is accept"
unfoldable pub rejecting : Action → Posture
rejecting a = cond (is_keep a) accept (reject a)

-- "unrecognised keep or null is pass"
unfoldable pub applying : Action → Unrecognised
applying a = cond (is_keep a || is_null_action a) pass (apply a)

-- ---- what a line says

pub data LineRead : Type 0 where
  nothing : LineRead
  rule : Rule → LineRead
  posture : Posture → LineRead
  unrecognised : Unrecognised → LineRead
  sweep : Bool → LineRead
  wrong : Refusal → LineRead

-- "The first word picks a directive (`accept`, `reject`, `unrecognised` or `unrecognized`, `known-values`, case ignored), else
-- a path"; "first word `*`" is none of them
pub data LineKind : Type 0 where
  accept_kind reject_kind unrecognised_kind known_values_kind star_kind path_kind : LineKind

unfoldable pub line_kind : Text → LineKind
line_kind w =
    cond (is_word w (bytes "accept")) accept_kind
    (cond (is_word w (bytes "reject")) reject_kind
    (cond (is_word w (bytes "unrecognised") || is_word w (bytes "unrecognized")) unrecognised_kind
    (cond (is_word w (bytes "known-values")) known_values_kind
    (cond (is_word w (bytes "*")) star_kind path_kind))))

-- "missing or unreadable, in a rule or directive"
unfoldable pub with_action : ActionRead → (Action → LineRead) → LineRead
with_action (no_action e) f = wrong e
with_action (is_action a) f = f a

-- "argument to accept"
unfoldable pub read_accept : Text → LineRead
read_accept s = cond (is_empty s) (posture accept) (wrong BadDirective)

-- a bare `reject` writes REDACTED, as a bare `replace` does
unfoldable pub read_reject : Text → LineRead
read_reject s =
    cond (is_empty s) (posture (reject (replace (bytes "REDACTED"))))
    (with_action (read_action s) λ a. posture (rejecting a))

-- "unrecognised without one"
unfoldable pub read_unrecognised : Text → LineRead
read_unrecognised s =
    cond (is_empty s) (wrong BadDirective)
    (cond (is_word s (bytes "refuse")) (unrecognised refuse)
    (cond (is_word s (bytes "pass")) (unrecognised pass)
    (with_action (read_action s) λ a. unrecognised (applying a))))

-- "known-values neither on nor off"
unfoldable pub read_known_values : Text → LineRead
read_known_values s = cond (is_word s (bytes "on")) (sweep true) (cond (is_word s (bytes "off")) (sweep false) (wrong BadDirective))

-- "The action is judged before the path"
unfoldable pub with_path : Action → Option Path → LineRead
with_path a none = wrong BadPath
with_path a (some p) = rule (record { path = p; action = a })

unfoldable pub read_rule : Text → Text → LineRead
read_rule w s = with_action (read_action s) λ a. with_path a (read_path w)

-- a line's first word and the rest
unfoldable pub read_directive : LineKind → Text → Text → LineRead
read_directive accept_kind w s = read_accept s
read_directive reject_kind w s = read_reject s
read_directive unrecognised_kind w s = read_unrecognised s
read_directive known_values_kind w s = read_known_values s
read_directive star_kind w s = wrong BadDirective
read_directive path_kind w s = read_rule w s

-- "first word over 64, rest over 80"
unfoldable pub judged : Text → Text → LineRead
judged w s = cond (ltb 64 (length w) || ltb 80 (length s)) (wrong TooMany) (read_directive (line_kind w) w s)

-- "word and rest are each taken without comment, outer blanks and tabs"
unfoldable pub read_words : Text → LineRead
read_words [] = nothing
read_words (x ∷ s) = judged (word (x ∷ s)) (skip_blanks (behind_word (x ∷ s)))

unfoldable pub not_cr : ℕ → Bool
not_cr x = not (eqb x 0x0d)

unfoldable pub not_hash : ℕ → Bool
not_hash x = not (eqb x 0x23)

-- "`#` starts a comment"; "line over 255 bytes": "A line's length counts its comment and not its end"
unfoldable pub read_line : Text → LineRead
read_line l = cond (ltb 255 (length (run not_cr l))) (wrong TooMany) (read_words (trim (run not_hash (run not_cr l))))

-- ---- a whole policy

-- "Lines end in LF or CR LF"; behind the last LF there is no line unless bytes follow
unfoldable pub push : ℕ → List Text → List Text
push x [] = (x ∷ []) ∷ []
push x (l ∷ ls) = (x ∷ l) ∷ ls

unfoldable pub policy_lines : Text → List Text
policy_lines [] = []
policy_lines (x ∷ s) = let more = policy_lines s in cond (eqb x 0x0a) ([] ∷ more) (push x more)

-- a policy, or a refusal with its line
pub data PolicyRead : Type 0 where
  read : Policy → PolicyRead
  refused : Refusal → ℕ → PolicyRead

unfoldable pub with_rules : Policy → List Rule → Policy
with_rules p rs = record { rules = rs; posture = p.posture; unrecognised = p.unrecognised; sweep = p.sweep }

-- what line n says changes the policy, and reading goes on with it; "A later directive replaces an earlier one"; "128 rules pass"
unfoldable pub after_line : ℕ → Policy → LineRead → (Policy → PolicyRead) → PolicyRead
after_line n p nothing f = f p
after_line n p (rule r) f = cond (ltb (length p.rules) RULES_MAX) (f (with_rules p (p.rules ++ (r ∷ [])))) (refused TooMany n)
after_line n p (posture x) f = f (record { rules = p.rules; posture = x; unrecognised = p.unrecognised; sweep = p.sweep })
after_line n p (unrecognised x) f = f (record { rules = p.rules; posture = p.posture; unrecognised = x; sweep = p.sweep })
after_line n p (sweep x) f = f (record { rules = p.rules; posture = p.posture; unrecognised = p.unrecognised; sweep = x })
after_line n p (wrong e) f = refused e n

-- "lines downward", from number n on
unfoldable pub read_lines : ℕ → Policy → List Text → PolicyRead
read_lines n p [] = read p
read_lines n p (l ∷ ls) = after_line n p (read_line l) λ q. read_lines (suc n) q ls

-- "2, 3, then lines downward"
unfoldable pub read_policy : Text → PolicyRead
read_policy s = cond (too_long s) (refused TooLong 0) (cond (no_foreign Inputs.Policy s) (read_lines 1 start (policy_lines s)) (refused ForeignByte 0))

-- ---- "`append` takes the second posture if at least as strict, the second unrecognised, and the sweep if either has it"

unfoldable pub stricter : Posture → Posture → Posture
stricter p (reject a) = reject a
stricter p accept = p

unfoldable pub merged : Policy → Policy → Policy
merged p q =
    record {
      rules = p.rules ++ q.rules;
      posture = stricter p.posture q.posture;
      unrecognised = q.unrecognised;
      sweep = p.sweep || q.sweep;
    }

-- ---- "Printing pads as `Display` does; `DEFAULT_WIDTH` is 12"

unfoldable pub width : List Rule → ℕ
width [] = 0
width (r ∷ rs) = max (length (print_path r.path)) (width rs)

-- blanks that fill a column of n bytes behind w, and two more
unfoldable pub gap : ℕ → Text → Text
gap n w = replicate (suc (suc (n - length w))) 0x20

unfoldable pub column : ℕ → Text → Text → Text
column n w s = w ++ (gap n w ++ s)

unfoldable pub rule_line : ℕ → Rule → Text
rule_line n r = column n (print_path r.path) (print_action r.action)

unfoldable pub rule_lines : ℕ → List Rule → List Text
rule_lines n [] = []
rule_lines n (r ∷ rs) = rule_line n r ∷ rule_lines n rs

-- the rules and, if there are any, an empty line
unfoldable pub rule_block : List Rule → List Text
rule_block [] = []
rule_block (r ∷ rs) = rule_lines (width (r ∷ rs)) (r ∷ rs) ++ ([] ∷ [])

unfoldable pub posture_line : Posture → Text
posture_line accept = bytes "accept"
posture_line (reject a) = column 12 (bytes "reject") (print_action a)

unfoldable pub unrecognised_text : Unrecognised → Text
unrecognised_text pass = bytes "pass"
unrecognised_text refuse = bytes "refuse"
unrecognised_text (apply a) = print_action a

unfoldable pub sweep_text : Bool → Text
sweep_text true = bytes "on"
sweep_text false = bytes "off"

-- the three default lines always
unfoldable pub default_lines : Policy → List Text
default_lines p =
    posture_line p.posture
    ∷ column 12 (bytes "unrecognised") (unrecognised_text p.unrecognised)
    ∷ column 12 (bytes "known-values") (sweep_text p.sweep)
    ∷ []

-- each line with its LF
unfoldable pub joined : List Text → Text
joined [] = []
joined (l ∷ ls) = l ++ (0x0a ∷ joined ls)

unfoldable pub print_policy : Policy → Text
print_policy p = joined (rule_block p.rules ++ default_lines p)
