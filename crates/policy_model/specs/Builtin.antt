-- policy.rs: the four built-in policies, each as a text that is read. Assumes nothing: these are definitions.
use Rattle.std.specs.Prelude.{cond, ℕ, eqb}
use Prim.Native.String.{String}
use Rattle.text.specs.Text.{Text, bytes}

-- "`accept_all`, `reject_all`, `patient_identifiers` (40 rules), `all_but_the_header`"
abbrev pub accept_all : String
accept_all = "unrecognised pass\n"

abbrev pub reject_all : String
reject_all = "reject replace REDACTED\nunrecognised mask *\n"

abbrev pub patient_identifiers : String
patient_identifiers = "PID-2.1 pseudonym\nPID-3.1 pseudonym\nPID-4.1 pseudonym\nPID-5 replace REDACTED\nPID-6 replace REDACTED\nPID-7 first 4\nPID-9 replace REDACTED\nPID-11 clear\nPID-12 clear\nPID-13 clear\nPID-14 clear\nPID-18.1 pseudonym\nPID-19 clear\nPID-20 clear\nPID-21.1 pseudonym\nPID-23 clear\nPID-29 first 4\nNK1-2 replace REDACTED\nNK1-4 clear\nNK1-5 clear\nNK1-6 clear\nPV1-5.1 pseudonym\nPV1-7 replace REDACTED\nPV1-8 replace REDACTED\nPV1-9 replace REDACTED\nPV1-17 replace REDACTED\nPV1-19.1 pseudonym\nGT1-2.1 pseudonym\nGT1-3 replace REDACTED\nGT1-4 replace REDACTED\nGT1-5 clear\nGT1-6 clear\nGT1-7 clear\nGT1-8 first 4\nGT1-12 clear\nIN1-16 replace REDACTED\nIN1-18 first 4\nIN1-19 clear\nIN1-36 pseudonym\nIN1-49.1 pseudonym\n"

abbrev pub all_but_the_header : String
all_but_the_header = "MSH keep\nreject replace REDACTED\n"

-- the text of built-in n, from 0 to 3
unfoldable pub builtin_text : ℕ → Text
builtin_text n =
    cond (eqb n 0) (bytes accept_all) (cond (eqb n 1) (bytes reject_all) (cond (eqb n 2) (bytes patient_identifiers) (bytes all_but_the_header)))
