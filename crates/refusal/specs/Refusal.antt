-- The numbers of the refusals, and the two that every text can meet. Assumes nothing: these are definitions.
use Rattle.std.specs.Prelude.{Bool, true, false, ◌&&◌, ◌||◌, [], ◌∷◌, ℕ, eqb, leb, ltb, length}
use Rattle.text.specs.Text.{Text}
use Rattle.refusal.specs.declared.Refusal.{Refusal}
use Rattle.refusal.specs.declared.Refusal.TheVariants.{ShortBuffer, TooLong, ForeignByte, BadHeader, BadSegment, TooMany, BadAction, BadPath, BadDirective, TooMuchLearnt, MessageTooLong, ReportTooLong, Withheld, NoSuchBuiltin, BadDayCount}
use Rattle.refusal.specs.declared.Refused.{Refused}
use Rattle.refusal.specs.declared.input.Input.{Input}
use Rattle.refusal.specs.declared.input.Input.TheVariants.{Message, Policy, Payload}
use Rattle.refusal.specs.Limits.{INPUT_MAX}

-- the table's first column; "Success is 0"
unfoldable pub number : Refusal → ℕ
number ShortBuffer = 1
number TooLong = 2
number ForeignByte = 3
number BadHeader = 4
number BadSegment = 5
number TooMany = 6
number BadAction = 7
number BadPath = 8
number BadDirective = 9
number TooMuchLearnt = 10
number MessageTooLong = 11
number ReportTooLong = 12
number Withheld = 13
number NoSuchBuiltin = 14
number BadDayCount = 15

-- "Its line, from 1, is given for a policy's 6 to 9, else 0", and for its 15: a refusal for which no line is at fault
unfoldable pub without_line : Refusal → Refused
without_line e = record { refusal = e; line = 0 }

-- "message, payload or policy above 32,768 bytes"
unfoldable pub too_long : Text → Bool
too_long t = ltb INPUT_MAX (length t)

-- "0x09, 0x20 to 0x7E": what each of the three may hold
unfoldable pub is_plain : ℕ → Bool
is_plain x = eqb x 0x09 || leb 0x20 x && leb x 0x7e

unfoldable pub begins_in_lf : Text → Bool
begins_in_lf [] = false
begins_in_lf (x ∷ s) = eqb x 0x0a

-- "a byte other than 0x09, 0x20 to 0x7E, and: CR in a message; LF, or CR directly before LF, in a policy; CR and LF in a payload":
-- whether x may stand before the text s
unfoldable pub is_allowed : Input → ℕ → Text → Bool
is_allowed Message x s = is_plain x || eqb x 0x0d
is_allowed Policy x s = is_plain x || eqb x 0x0a || eqb x 0x0d && begins_in_lf s
is_allowed Payload x s = is_plain x || eqb x 0x0d || eqb x 0x0a

unfoldable pub no_foreign : Input → Text → Bool
no_foreign i [] = true
no_foreign i (x ∷ s) = is_allowed i x s && no_foreign i s
