-- The limits of the table of refusals. Assumes nothing: these are definitions.
use Rattle.std.specs.Prelude.{ℕ}

-- "output or scratch below 49,152 bytes"; "a change leaves the message over 49,152 bytes"
abbrev pub TEXT_MAX : ℕ
TEXT_MAX = 49152

-- "message, payload or policy above 32,768 bytes"
abbrev pub INPUT_MAX : ℕ
INPUT_MAX = 32768

-- "over 256 segments, 4,096 leaves, 128 rules"
abbrev pub SEGMENTS_MAX : ℕ
SEGMENTS_MAX = 256

abbrev pub LEAVES_MAX : ℕ
LEAVES_MAX = 4096

abbrev pub RULES_MAX : ℕ
RULES_MAX = 128

-- "a 513th value or over 16,384 bytes of them"
abbrev pub LEARNT_MAX : ℕ
LEARNT_MAX = 512

abbrev pub LEARNT_BYTES_MAX : ℕ
LEARNT_BYTES_MAX = 16384
