-- What the contracts of private functions cite; no public contract rests on it. Assumes nothing: these are definitions.
use Rattle.std.specs.Prelude.{◌≡◌, Bool, true, false, not, cond, ◌||◌, List, [], ◌++◌, ℕ, ◌+◌, ◌-◌, ◌≤◌, ◌<◌, leb, ltb, length, take, drop, get_or, Ok, IfOk, IfErr}
use Rattle.std.specs.declared.result.Result.{Result}
use Rattle.std.proofs.Math.Option.{Option, some}
use Rattle.text.specs.Text.{Text, part}
use Rattle.refusal.specs.declared.Refusal.{Refusal}
use Rattle.refusal.specs.declared.Refusal.TheVariants.{BadHeader, TooMany}
use Rattle.refusal.specs.Limits.{LEAVES_MAX, SEGMENTS_MAX}
use Rattle.er7.specs.declared.separators.Separators.{Separators}
use Rattle.message_model.specs.Message.{Message, separators_of, is_header, segment_lines, head_of, leaves_of, count, segments, segments_fault, message_of, message_fault}
use Rattle.er7_message.specs.declared.message.Layout.{Layout}
use Rattle.er7_message.specs.Parsed.{ParsedAs}
use Rattle.er7_table.specs.declared.table.Leaf.{Leaf as HeldLeaf}
use Rattle.er7_table.specs.declared.table.Segment.{Segment as HeldSegment}
use Rattle.er7_table.specs.Table.{list_of, leaf_row, Good, Placed, segment_row, first_leaf, name_at, label_at, segments_from}
use Rattle.er7_table.specs.Filling.{Filled, LeafRoom}

-- ---- lines

-- the line of t from index i to index e
unfoldable pub line : Text → ℕ → ℕ → Text
line t i e = part t i (e - i)

-- r is where the line of t that begins at index i ends
pub record LineEnd (t : Text) (i r : ℕ) : Type 0 where
  pub low : i ≤ r
  pub high : r ≤ length t
  pub runs : segment_lines [] (drop i t) ≡ segment_lines (line t i r) (drop r t)
  pub stops : r < length t → get_or t r 0 ≡ 0x0d

-- the fault of the lines of t, and the message that they are, by the delimiters s
unfoldable pub fault_by : Separators → Text → Option Refusal
fault_by s t = segments_fault s 0 0 (segment_lines [] t)

unfoldable pub message_by : Separators → Bool → Text → Message
message_by s last t = record { separators = s; segments = segments s [] (segment_lines [] t); last_cr = last }

-- the same, by the delimiters that the first line names
unfoldable pub lines_fault : Text → Option Refusal
lines_fault t =
    cond (not (is_header (head_of (segment_lines [] t)))) (some BadHeader) (fault_by (separators_of (head_of (segment_lines [] t))) t)

unfoldable pub lines_message : Bool → Text → Message
lines_message last t = message_by (separators_of (head_of (segment_lines [] t))) last t

-- what a message of no bytes is read as, whatever the table of leaves holds
abbrev pub NothingRead : List HeldSegment → Layout → Type 0
NothingRead segs c = (held : List HeldLeaf) → ParsedAs [] (message_fault []) (message_of []) segs held (Ok c)

-- the first line of t, which ends at index e, is a header that names s
pub record HeaderEnd (s : Separators) (t : Text) (e : ℕ) : Type 0 where
  pub end : LineEnd t 0 e
  pub long : 8 ≤ e
  pub header : is_header (line t 0 e) ≡ true
  pub named : s ≡ separators_of (line t 0 e)

-- ---- names

-- the names of n segments from segment k on
unfoldable pub names : List HeldSegment → ℕ → ℕ → List Text
names segs k n = list_of (name_at segs) k n

-- each of the first k segments has its number among those of its name
pub record Numbered (segs : List HeldSegment) (k : ℕ) : Type 0 where
  pub number : (j : ℕ) → j < k → (segment_row segs j).label.occurrence ≡ count (name_at segs j) (names segs 0 j) + 1

-- ---- one segment

-- the line l became row k, behind rows with n leaves, and its leaves the rows from n to before r
pub record SegmentFits (s : Separators) (t l : Text) (k n : ℕ) (segs : List HeldSegment) (held : List HeldLeaf) (segs' : List HeldSegment) (held' : List HeldLeaf) (r : ℕ) : Type 0 where
  pub few : k < SEGMENTS_MAX
  pub filled : Filled (leaves_of s l) t n held' r
  pub label : label_at segs' k ≡ record { name = take 3 l; occurrence = count (take 3 l) (names segs 0 k) + 1 }
  pub begins : first_leaf segs' k ≡ n
  pub ends : first_leaf segs' (k + 1) ≡ r
  pub rows : (i : ℕ) → i < k → segment_row segs' i ≡ segment_row segs i
  pub before : (i : ℕ) → i < n → leaf_row held' i ≡ leaf_row held i

-- it did, and there are no more leaves than bytes before index e; or it is one segment or some leaves too many, which refuses it
pub record SegmentRead (s : Separators) (t l : Text) (e k n : ℕ) (segs : List HeldSegment) (held : List HeldLeaf) (segs' : List HeldSegment) (held' : List HeldLeaf) (r : Result ℕ Refusal) : Type 0 where
  pub fitted : IfOk r (λ m. SegmentFits s t l k n segs held segs' held' m)
  pub few : IfOk r (λ m. m ≤ e)
  pub most : IfOk r (λ m. m ≤ LEAVES_MAX)
  pub too_many : IfErr r (λ f. (f ≡ TooMany) × (leb SEGMENTS_MAX k || ltb LEAVES_MAX (n + length (leaves_of s l)) ≡ true))

-- ---- the segments before the lines ls stand in k rows, with n leaves
pub record Reading (s : Separators) (t : Text) (segs : List HeldSegment) (held : List HeldLeaf) (k n : ℕ) (ls : List Text) : Type 0 where
  pub many : k ≤ SEGMENTS_MAX
  pub few : n ≤ LEAVES_MAX
  pub none_yet : k ≡ 0 → n ≡ 0
  pub fault : fault_by s t ≡ segments_fault s k n ls
  pub read : segments s [] (segment_lines [] t) ≡ segments_from (λ i. false) segs held t 0 k ++ segments s (names segs 0 k) ls
  pub numbered : Numbered segs k
  pub slots : Good held t n (length t)
  pub placed : Placed held n (length t)
  pub none_before : 0 < k → first_leaf segs 0 ≡ 0
  pub all : 0 < k → first_leaf segs k ≡ n
  pub up : (j : ℕ) → j < k → first_leaf segs j ≤ first_leaf segs (j + 1)
  pub inside : (j : ℕ) → j < k → first_leaf segs (j + 1) ≤ n
  pub leaf_room : LeafRoom held (length t)
