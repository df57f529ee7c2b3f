-- Worked examples, as rows of one table, and the test that each passes. Assumes nothing: these are definitions.
use Rattle.std.specs.Prelude.{Bool, true, false, not, ◌&&◌, List, [], ◌∷◌, ◌++◌, ℕ, zero, suc, eqb, pos, negsuc, length, drop, replicate}
use Rattle.std.proofs.Math.Option.{Option, none, some}
use Prim.Native.String.{String}
use Rattle.text.specs.Text.{Text, bytes, same, all, begins}
use Rattle.er7.specs.Path.{Path, read_path, print_path}
use Rattle.pseudonym.specs.Pseudonym.{OFFSET, fold}
use Rattle.er7_redact.specs.Action.{Action, ActionRead, is_action, no_action, kind, keep, clear, null, pseudonym, replace, mask, first, last, shift, read_action, print_days, apply}
use Rattle.er7.specs.declared.separators.Separators.{Separators}
use Rattle.refusal.specs.declared.Refusal.{Refusal}
use Rattle.refusal.specs.Refusal.{number}
use Rattle.refusal.specs.Limits.{TEXT_MAX}
use Rattle.message_model.specs.Message.{Leaf, leaf, Segment, segment, message_of, message_fault, print_message}
use Rattle.message_model.specs.Value.{value, encode, is_whole_word}
use Rattle.policy_model.specs.Policy.{PolicyRead, read, refused, read_policy, print_policy}
use Rattle.striplog_text.specs.Striplog.{read_key, stripped}
use Rattle.policy_model.specs.Builtin.{builtin_text}
use Rattle.run_model.specs.Entries as E
use Rattle.run_model.specs.Entries.{Lent, LentReport, RedactOutcome, Redaction, Answer, done, redact_answer, redact_outcome, append_answer, builtin_answer, payload_answer}

pub data Case : Type 0 where
  -- the text reads as this path, with its segment, occurrence, field, repetition, component and subcomponent
  path_is : String → String → ℕ → ℕ → ℕ → ℕ → ℕ → Case
  -- the text is read as a path and printed so
  path_prints : String → String → Case
  path_refused : String → Case
  action_is : String → Action → Case
  -- the text is read as no action, with this number
  action_refused : String → ℕ → Case
  -- under a key, the action puts the second text in the place of the first
  applies : ℕ → Action → String → String → Case
  -- the FNV-1a hash of the text
  hash_is : String → ℕ → Case
  -- the text is read as a policy and printed so
  prints_policy : String → String → Case
  -- the policy is refused with this number and line
  refuses_policy : String → ℕ → ℕ → Case
  -- the message is refused with this number; 0 if it is not
  faulty_message : String → ℕ → Case
  -- the message prints as it came
  message_prints : String → Case
  -- the places and texts of the leaves of the last segment: field, repetition, component, subcomponent, and the text with its length behind it
  leaves_are : String → List ℕ → Case
  -- with the delimiters `|^~\\&`, the first text is read as the second, and the second written as the third
  value_is : String → String → String → Case
  -- message, policy and key give this text, report and number of rows, with every byte of every lent buffer
  redacts : String → String → ℕ → String → String → ℕ → Case
  -- message and policy give, under key 0, the first text and not the second, which a mistake would give
  gives_not : String → String → String → String → Case
  -- message and policy are refused with this number and line
  redact_refused : String → String → ℕ → ℕ → Case
  -- two policies are merged and printed so
  appends : String → String → String → Case
  -- the built-in of this number prints so; it reads as so many rules
  builtin_prints : ℕ → String → Case
  builtin_rules : ℕ → ℕ → Case
  -- a payload under a policy and key 0 becomes the third text
  payload_becomes : String → String → String → Case
  -- a payload under a policy is refused with this number
  payload_refused : String → String → ℕ → Case
  -- a policy of so many rules is refused with this number and line; 0 and 0 if it is not
  rules_give : ℕ → ℕ → ℕ → Case
  -- a message with so many segments behind the header, each of so many fields with so many bytes, is refused with this number; 0 if it is not
  segments_give : ℕ → ℕ → ℕ → ℕ → Case
  -- is the first text a whole word of the second?
  whole_word : String → String → Bool → Case
  -- the text of key.txt is read as this key
  key_is : String → ℕ → Case
  key_refused : String → Case
  -- striplog prints the fourth text of the texts of message.er7, policy.txt and key.txt
  strips : String → String → String → String → Case

-- ---- tests of two values

unfoldable pub same_path : Path → Path → Bool
same_path p q =
    same p.segment q.segment && eqb p.occurrence q.occurrence && eqb p.field q.field && eqb p.repetition q.repetition
    && eqb p.component q.component && eqb p.subcomponent q.subcomponent

-- what an action has beside its kind: a replacement, a character, a count, days as they print, or nothing
unfoldable pub operand_of : Action → Text
operand_of keep = []
operand_of clear = []
operand_of null = []
operand_of pseudonym = []
operand_of (replace t) = t
operand_of (mask c) = c ∷ []
operand_of (first n) = n ∷ []
operand_of (last n) = n ∷ []
operand_of (shift n) = print_days n

unfoldable pub same_action : Action → Action → Bool
same_action a b = eqb (kind a) (kind b) && same (operand_of a) (operand_of b)

unfoldable pub reads_as : ActionRead → Action → Bool
reads_as (is_action a) b = same_action a b
reads_as (no_action e) b = false

unfoldable pub action_fault : ActionRead → ℕ → Bool
action_fault (is_action a) n = false
action_fault (no_action e) n = eqb (number e) n

unfoldable pub is : {X : Type 0} → (X → X → Bool) → Option X → X → Bool
is f none y = false
is f (some x) y = f x y

unfoldable pub is_none : {X : Type 0} → Option X → Bool
is_none none = true
is_none (some x) = false

unfoldable pub prints : {X : Type 0} → (X → Text) → Option X → Text → Bool
prints f none t = false
prints f (some x) t = same (f x) t

unfoldable pub same_bool : Bool → Bool → Bool
same_bool true b = b
same_bool false b = not b

unfoldable pub policy_prints : PolicyRead → Text → Bool
policy_prints (read p) t = same (print_policy p) t
policy_prints (refused e n) t = false

unfoldable pub policy_refused : PolicyRead → ℕ → ℕ → Bool
policy_refused (read p) n l = false
policy_refused (refused e k) n l = eqb (number e) n && eqb k l

unfoldable pub rules_read : PolicyRead → ℕ
rules_read (read p) = length p.rules
rules_read (refused e n) = 0

unfoldable pub fault_number : Option Refusal → ℕ
fault_number none = 0
fault_number (some e) = number e

unfoldable pub leaf_numbers : List Leaf → List ℕ
leaf_numbers [] = []
leaf_numbers (leaf p n none ∷ xs) = leaf_numbers xs
leaf_numbers (leaf p n (some t) ∷ xs) =
    p.field ∷ p.repetition ∷ p.component ∷ p.subcomponent ∷ (t ++ (length t ∷ leaf_numbers xs))

unfoldable pub last_leaves : List Segment → List ℕ
last_leaves [] = []
last_leaves (segment g xs ∷ []) = leaf_numbers xs
last_leaves (segment g xs ∷ z ∷ ss) = last_leaves (z ∷ ss)

unfoldable pub usual : Separators
usual = record { field = 0x7c; component = 0x5e; repetition = 0x7e; escape = 0x5c; subcomponent = 0x26 }

unfoldable pub policy_fault : PolicyRead → ℕ → ℕ → Bool
policy_fault (read p) n l = eqb n 0 && eqb l 0
policy_fault (refused e k) n l = eqb (number e) n && eqb k l

unfoldable pub times : ℕ → Text → Text
times zero t = []
times (suc k) t = t ++ times k t

-- the buffers that every entry is lent, and with the report those that striplog lends
unfoldable pub lent : Lent
lent = record { output = TEXT_MAX; scratch = TEXT_MAX }

unfoldable pub lent_report : LentReport
lent_report = record { buffers = lent; report = 65536 }

unfoldable pub is_zero : ℕ → Bool
is_zero x = eqb x 0

-- a buffer of n bytes has t at its front and zeros behind
unfoldable pub holds : Text → Text → ℕ → Bool
holds d t n = begins t d && all is_zero (drop (length t) d) && eqb (length d) n

unfoldable pub same_outcome : RedactOutcome → Text → Text → ℕ → Bool
same_outcome o t r n =
    eqb o.number 0 && eqb o.line 0 && eqb o.text_length (length t) && eqb o.report_length (length r) && eqb o.rows n
    && holds o.output t lent.output && holds o.report r lent_report.report && holds o.scratch [] lent.scratch

unfoldable pub gives : Answer Text → Text → Bool
gives (done t) u = same t u
gives (E.refused e n) u = false

unfoldable pub redacts_to : Answer Redaction → Text → Bool
redacts_to (done d) u = same d.text u
redacts_to (E.refused e n) u = false

unfoldable pub refuses_with : {X : Type 0} → Answer X → ℕ → ℕ → Bool
refuses_with (done x) n l = false
refuses_with (E.refused e k) n l = eqb (number e) n && eqb k l

-- ---- the table

unfoldable pub right : Case → Bool
right (path_is s w o f r c u) =
    is same_path (read_path (bytes s)) (record { segment = bytes w; occurrence = o; field = f; repetition = r; component = c; subcomponent = u })
right (path_prints s t) = prints print_path (read_path (bytes s)) (bytes t)
right (path_refused s) = is_none (read_path (bytes s))
right (action_is s a) = reads_as (read_action (bytes s)) a
right (action_refused s n) = action_fault (read_action (bytes s)) n
right (applies key a s t) = is same (apply key a (bytes s)) (bytes t)
right (hash_is s h) = eqb (fold OFFSET (bytes s)) h
right (prints_policy s t) = policy_prints (read_policy (bytes s)) (bytes t)
right (refuses_policy s n l) = policy_refused (read_policy (bytes s)) n l
right (faulty_message s n) = eqb (fault_number (message_fault (bytes s))) n
right (message_prints s) = same (print_message (message_of (bytes s))) (bytes s)
right (leaves_are s ns) = same (last_leaves (message_of (bytes s)).segments) ns
right (value_is s v w) = same (value usual (bytes s)) (bytes v) && same (encode usual (bytes v)) (bytes w)
right (redacts m p key t r n) = same_outcome (redact_outcome lent_report (bytes m) (bytes p) key) (bytes t) (bytes r) n
right (gives_not m p t u) = redacts_to (redact_answer lent_report (bytes m) (bytes p) 0) (bytes t) && not (redacts_to (redact_answer lent_report (bytes m) (bytes p) 0) (bytes u))
right (redact_refused m p n l) = refuses_with (redact_answer lent_report (bytes m) (bytes p) 0) n l
right (appends p q t) = gives (append_answer lent (bytes p) (bytes q)) (bytes t)
right (builtin_prints n t) = gives (builtin_answer lent n) (bytes t)
right (builtin_rules n k) = eqb (rules_read (read_policy (builtin_text n))) k
right (payload_becomes s p t) = gives (payload_answer lent (bytes s) (bytes p) 0) (bytes t)
right (payload_refused s p n) = refuses_with (payload_answer lent (bytes s) (bytes p) 0) n 0
right (rules_give k n l) = policy_fault (read_policy (times k (bytes "PID keep\n"))) n l
right (segments_give k f w n) = eqb (fault_number (message_fault (bytes "MSH|^~\\&" ++ times k (bytes "\rOBX" ++ times f (0x7c ∷ replicate w 0x61))))) n
right (whole_word v t b) = same_bool (is_whole_word (bytes v) (bytes t)) b
right (key_is s n) = is eqb (read_key (bytes s)) n
right (key_refused s) = is_none (read_key (bytes s))
right (strips m p k t) = same (stripped (some (bytes m)) (some (bytes p)) (some (bytes k))) (bytes t)

unfoldable pub all_right : List Case → Bool
all_right [] = true
all_right (r ∷ rs) = right r && all_right rs

unfoldable pub table : List Case
table =
    path_is "PID.005" "PID" 0 5 0 0 0
    ∷ path_is "PID-5" "PID" 0 5 0 0 0
    ∷ path_prints "PID.005" "PID-5"
    ∷ path_prints "PID[2]-3[1].4.1" "PID[2]-3[1].4.1"
    ∷ path_is "PID-18446744073709551615" "PID" 0 18446744073709551615 0 0 0
    ∷ path_refused "PID-0"
    ∷ path_refused "PID-5[1"
    ∷ path_refused "PID-18446744073709551616"
    ∷ action_is "first +4" (first 4)
    ∷ action_refused "mask ab" 7
    ∷ applies 0 (last 3) "ab" "ab"
    ∷ action_is "shift +3650" (shift (pos 3650))
    ∷ action_refused "shift 3651" 15
    ∷ applies 0 (shift (pos 1)) "20240228" "20240229"
    ∷ applies 0 (shift (pos 2)) "20240228" "20240301"
    ∷ applies 0 (shift (pos 1)) "19000228" "19000301"
    ∷ applies 0 (shift (pos 1)) "20231231" "20240101"
    ∷ applies 0 (shift (negsuc 0)) "00010101" ""
    ∷ applies 0 (shift (negsuc 6)) "20240301153059" "20240223153059"
    ∷ hash_is "" 0xcbf29ce484222325
    ∷ value_is "a\\F\\b" "a|b" "a\\F\\b"
    ∷ value_is "a\\Fb" "a\\Fb" "a\\E\\Fb"
    ∷ value_is "\\.br\\F\\" "\\.br\\F\\" "\\E\\.br\\E\\F\\E\\"
    ∷ value_is "\"\"" "" ""
    ∷ whole_word "a-a" "b a-a" true
    ∷ whole_word "a-a" "xa-a-a" true
    ∷ whole_word "a-a" "xa-ax" false
    ∷ faulty_message "" 0
    ∷ faulty_message "\r" 4
    ∷ faulty_message "MSH|^~\\&" 0
    ∷ faulty_message "MSH|^~\\&\r\r" 5
    ∷ faulty_message "MSH|^~\\&#|" 4
    ∷ faulty_message "MSH|^~\\|" 4
    ∷ faulty_message "MSH|^~\\\"|" 4
    ∷ faulty_message "MSH|^~\\&|A\rPIDx" 5
    ∷ faulty_message "MSH|^~\\&|A\rMSH|" 5
    ∷ faulty_message "MSH|^~\\&|A\rFHS" 5
    ∷ faulty_message "MSH|^~\\&|A\rPI" 5
    ∷ message_prints "MSH|^~\\&|A\rPID|a^b&c~d||~^&|&\rPV1\rPID|"
    ∷ leaves_are "MSH|^~\\&\rPID" []
    ∷ leaves_are "MSH|^~\\&\rPID|" (1 ∷ 1 ∷ 1 ∷ 1 ∷ 0 ∷ [])
    ∷ leaves_are "MSH|^~\\&\rPID|1^2&3~4" (1 ∷ 1 ∷ 1 ∷ 1 ∷ 49 ∷ 1 ∷ 1 ∷ 1 ∷ 2 ∷ 1 ∷ 50 ∷ 1 ∷ 1 ∷ 1 ∷ 2 ∷ 2 ∷ 51 ∷ 1 ∷ 1 ∷ 2 ∷ 1 ∷ 1 ∷ 52 ∷ 1 ∷ [])
    ∷ prints_policy "PID-3 mask\nknown-values on\n" "PID-3  mask *\n\naccept\nunrecognised  refuse\nknown-values  on\n"
    ∷ prints_policy "" "accept\nunrecognised  refuse\nknown-values  on\n"
    ∷ prints_policy "  PID.005\tfirst 004 # x\r\nOBX[2]-5 replace\r\nreject null\nunrecognized KEEP\nKnown-Values OFF" "PID-5     first 4\nOBX[2]-5  replace REDACTED\n\nreject        null\nunrecognised  pass\nknown-values  off\n"
    ∷ refuses_policy "PID-0 mask" 8 1
    ∷ refuses_policy "PID-5[1 mask" 8 1
    ∷ refuses_policy "\nPID-18446744073709551616 mask" 8 2
    ∷ refuses_policy "PID mask ab" 7 1
    ∷ refuses_policy "\n\n* keep" 9 3
    ∷ refuses_policy "PID-0 maskk" 7 1
    ∷ refuses_policy "accept\r\r\n" 3 0
    ∷ appends "PID-3 mask\nreject clear" "OBX[2]-5 keep\nunrecognised pass\nknown-values off" "PID-3     mask *\nOBX[2]-5  keep\n\nreject        clear\nunrecognised  pass\nknown-values  on\n"
    ∷ builtin_prints 0 "accept\nunrecognised  pass\nknown-values  on\n"
    ∷ builtin_prints 1 "reject        replace REDACTED\nunrecognised  mask *\nknown-values  on\n"
    ∷ builtin_rules 2 40
    ∷ builtin_prints 3 "MSH  keep\n\nreject        replace REDACTED\nunrecognised  refuse\nknown-values  on\n"
    ∷ payload_becomes "{\"patient\": 1}\r\n" "unrecognised mask # all" "****************"
    ∷ payload_becomes "a|b" "unrecognised keep" "a|b"
    ∷ payload_becomes "" "unrecognised replace" "REDACTED"
    ∷ payload_refused "a" "" 13
    ∷ rules_give 128 0 0
    ∷ rules_give 129 6 129
    ∷ segments_give 255 1 3 0
    ∷ segments_give 256 1 3 6
    ∷ segments_give 89 46 3 0
    ∷ segments_give 90 46 3 6
    ∷ redacts "MSH|^~\\&|A\rPID|1||555-1111^x~y|Z\rOBX|1|NM|KCAL||100\r" "PID-3 null\n" 0 "MSH|^~\\&|A\rPID|1||\"\"|Z\rOBX|1|NM|KCAL||100\r" "PID[1]-3[1].1.1 null\n" 1
    ∷ redacts "MSH|^~\\&|A\rPID|1||4412\rOBX|1|NM|KCAL||4412 kcal\r" "PID-3 mask\nknown-values on\n" 0 "MSH|^~\\&|A\rPID|1||****\rOBX|1|NM|KCAL||*********\r" "PID[1]-3[1].1.1 mask *\nOBX[1]-5[1].1.1 mask *\n" 2
    ∷ redacts "MSH|^~\\&|A\rPID|1||ann|Ann Lee|to ANN LEE|to ann lee, too\r" "PID-3 mask\nPID-4 first 10\n" 0 "MSH|^~\\&|A\rPID|1||***|Ann Lee|to ANN LEE|to ann lee\r" "PID[1]-3[1].1.1 mask *\nPID[1]-6[1].1.1 first 10\n" 2
    ∷ redacts "MSH|^~\\&|A\rPID|1||ann|Lee|lee, ann\r" "PID-3 mask\nPID-4 clear\n" 0 "MSH|^~\\&|A\rPID|1||***||\r" "PID[1]-3[1].1.1 mask *\nPID[1]-4[1].1.1 clear\nPID[1]-5[1].1.1 clear\n" 3
    ∷ redacts "" "PID-3 mask\n" 0 "" "" 0
    ∷ redacts "MSH|^~\\&|A\rPID|1||20231231|1231\rOBX|1||20231231\r" "PID-3 Shift +007\nPID-4 shift -0\n" 0 "MSH|^~\\&|A\rPID|1||20240107|\rOBX|1||20240107\r" "PID[1]-3[1].1.1 shift 7\nPID[1]-4[1].1.1 shift 0\nOBX[1]-3[1].1.1 shift 7\n" 3
    ∷ redact_refused "" "PID-3 mask\nPID-0 clear\n" 8 2
    ∷ key_is "0" 0
    ∷ key_is "007\n" 7
    ∷ key_is "18446744073709551615" 18446744073709551615
    ∷ key_refused "18446744073709551616"
    ∷ key_refused ""
    ∷ key_refused "\n"
    ∷ key_refused "1\n\n"
    ∷ key_refused "1\r\n"
    ∷ key_refused "1 "
    ∷ key_refused "+1"
    ∷ strips "MSH|^~\\&|A\rPID|1||4412\rOBX|1|NM|KCAL||4412 kcal\r" "PID-3 mask\nknown-values on\n" "0\n" "MSH|^~\\&|A\rPID|1||****\rOBX|1|NM|KCAL||*********\rPID[1]-3[1].1.1 mask *\nOBX[1]-5[1].1.1 mask *\nrows 2\n"
    ∷ strips "MSH|^~\\&|A\rPID|1||4412\rOBX|1|NM|KCAL||4412 kcal\r" "known-values on\nPID-0 mask\n" "0" "refused 8 line 2\n"
    ∷ strips "MSH|^~\\&|A\rPID|1||4412\rOBX|1|NM|KCAL||4412 kcal\r" "PID-3 mask\n" "0x" "bad input\n"
    -- counting OBX over all segments
    ∷ gives_not "MSH|^~\\&\rPID|1\rOBX|1\rOBX|2" "OBX[2]-1 clear" "MSH|^~\\&\rPID|1\rOBX|1\rOBX|" "MSH|^~\\&\rPID|1\rOBX|1\rOBX|2"
    -- passing by a hit that begins inside another hit
    ∷ gives_not "MSH|^~\\&\rPID|a-a|xa-a-a" "PID-1 clear" "MSH|^~\\&\rPID||" "MSH|^~\\&\rPID||xa-a-a"
    -- treating a kept leaf as unnamed under reject
    ∷ gives_not "MSH|^~\\&\rPID|ab|cd" "PID-1 keep\nreject clear" "MSH|^~\\&\rPID|ab|" "MSH|^~\\&\rPID||"
    -- learning only the first value of a leaf that two rules change
    ∷ gives_not "MSH|^~\\&\rPID|abcd|abc x" "PID-1 first 3\nPID-1 clear" "MSH|^~\\&\rPID||" "MSH|^~\\&\rPID||abc x"
    -- letting named marks slide to other leaves when a null collapse shortens the message
    ∷ gives_not "MSH|^~\\&\rPID|a^b|cde" "PID-1.2 keep\nPID-1 null\nreject mask" "MSH|^~\\&\rPID|\"\"|***" "MSH|^~\\&\rPID|\"\"|cde"
    ∷ []
