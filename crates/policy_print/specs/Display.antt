-- The parts of a printed policy, each with the LF behind it. Assumes nothing: these are definitions.
use Rattle.std.specs.Prelude.{Bool, cond, List, [], ◌∷◌, ◌++◌, ℕ, eqb}
use Rattle.text.specs.Text.{Text, bytes}
use Rattle.er7_redact.specs.Policy.{Rule, Posture}
use Rattle.policy_model.specs.Policy.{Unrecognised, column, rule_line, rule_lines, posture_line, unrecognised_text, sweep_text, joined}

unfoldable pub with_lf : Text → Text
with_lf l = l ++ (0x0a ∷ [])

unfoldable pub rule_text : ℕ → Rule → Text
rule_text n r = with_lf (rule_line n r)

unfoldable pub rules_text : ℕ → List Rule → Text
rules_text n rs = joined (rule_lines n rs)

-- behind a number of rules
unfoldable pub blank_line : ℕ → Text
blank_line n = cond (eqb n 0) [] (0x0a ∷ [])

unfoldable pub unrecognised_line : Unrecognised → Text
unrecognised_line u = column 12 (bytes "unrecognised") (unrecognised_text u)

unfoldable pub sweep_line : Bool → Text
sweep_line b = column 12 (bytes "known-values") (sweep_text b)

-- the three default lines
unfoldable pub defaults_text : Posture → Unrecognised → Bool → Text
defaults_text p u b = with_lf (posture_line p) ++ (with_lf (unrecognised_line u) ++ with_lf (sweep_line b))
