-- What striplog prints, from the bytes of its three files. Assumes nothing: these are definitions.
use Rattle.std.specs.Prelude.{Bool, cond, ◌||◌, [], ◌∷◌, ◌++◌, ℕ, eqb, take}
use Rattle.std.proofs.Math.Option.{Option, none, some}
use Rattle.text.specs.Text.{Text, bytes, same, is_empty}
use Rattle.text.specs.Number.{decimal, Taken, taken, refused, take_number}
use Rattle.run_model.specs.Entries.{LentReport, RedactOutcome, redact_outcome}
use Rattle.refusal.specs.Limits.{TEXT_MAX}

-- ---- the key

-- "then at most one LF"
unfoldable pub at_most_lf : Text → Bool
at_most_lf r = is_empty r || same r (0x0a ∷ [])

unfoldable pub key_taken : Taken → Option ℕ
key_taken (taken n r) = cond (at_most_lf r) (some n) none
key_taken refused = none

-- "`key.txt` (decimal digits up to 18446744073709551615, then at most one LF)"
unfoldable pub read_key : Text → Option ℕ
read_key t = key_taken (take_number t)

-- ---- what is printed

-- "`rows N`"
unfoldable pub rows_line : ℕ → Text
rows_line n = bytes "rows " ++ (decimal n ++ (0x0a ∷ []))

-- "`refused N line L`"
unfoldable pub refused_line : ℕ → ℕ → Text
refused_line n l = bytes "refused " ++ (decimal n ++ (bytes " line " ++ (decimal l ++ (0x0a ∷ []))))

-- "prints text, report, then `rows N`, or `refused N line L`": of number, line, text, report and rows
unfoldable pub printed : ℕ → ℕ → Text → Text → ℕ → Text
printed number line text report rows = cond (eqb number 0) (text ++ (report ++ rows_line rows)) (refused_line number line)

-- "Text and report are what output and report hold up to their lengths"
unfoldable pub printed_outcome : RedactOutcome → Text
printed_outcome o = printed o.number o.line (take o.text_length o.output) (take o.report_length o.report) o.rows

-- "`bad input` and LF alone"
unfoldable pub bad_input : Text
bad_input = bytes "bad input\n"

-- ---- the whole program

-- "lends a report of 65,536 bytes"; the other two are as long as they must be
unfoldable pub lent_buffers : LentReport
lent_buffers = record { buffers = record { output = TEXT_MAX; scratch = TEXT_MAX }; report = 65536 }

-- "a missing file or a bad key prints `bad input` and LF alone": from the bytes of message and policy, none if missing, and the key, none if bad
unfoldable pub stripped_with : Option Text → Option Text → Option ℕ → Text
stripped_with none policy key = bad_input
stripped_with (some m) none key = bad_input
stripped_with (some m) (some p) none = bad_input
stripped_with (some m) (some p) (some k) = printed_outcome (redact_outcome lent_buffers m p k)

unfoldable pub key_in : Option Text → Option ℕ
key_in none = none
key_in (some t) = read_key t

-- "Program `striplog` reads `message.er7`, `policy.txt`, `key.txt`": what it prints, from the bytes of the three, none if missing
unfoldable pub stripped : Option Text → Option Text → Option Text → Text
stripped message policy key = stripped_with message policy (key_in key)
