-- redact.rs: what a policy does to a message. A pass visits every leaf once: what becomes of the leaf is its `Effect`, and what the
-- pass has to say of it is a list of events, which are recorded in order. Assumes nothing: these are definitions.
use Rattle.std.specs.Prelude.{Bool, true, false, not, cond, ◌&&◌, ◌||◌, List, [], ◌∷◌, ◌++◌, ℕ, ◌+◌, ◌-◌, length, eqb, leb, ltb}
use Rattle.std.proofs.Math.Option.{Option, none, some}
use Rattle.text.specs.Text.{Text, same}
use Rattle.text.specs.Characters.{char_count, lower_text}
use Rattle.er7.specs.Path.{Path, print_path}
use Rattle.er7.specs.declared.message.Place.{Place}
use Rattle.er7.specs.declared.separators.Separators.{Separators}
use Rattle.er7_redact.specs.Action.{Action, is_keep, is_null_action, print_action, apply}
use Rattle.er7_redact.specs.Policy.{Rule, Posture, accept, reject}
use Rattle.refusal.specs.declared.Refusal.{Refusal}
use Rattle.refusal.specs.declared.Refusal.TheVariants.{TooMuchLearnt, MessageTooLong}
use Rattle.refusal.specs.Limits.{LEARNT_BYTES_MAX, LEARNT_MAX, TEXT_MAX}
use Rattle.message_model.specs.Message.{Leaf, leaf, Label, Segment, segment, Message, touchable, print_segments, print_message}
use Rattle.message_model.specs.Value.{NULL, is_null, is_empty_or_null, value, encode, is_whole_word}
use Rattle.policy_model.specs.Policy.{Policy}

-- ---- which leaves a rule reaches

-- an index that is absent from a path fits any
unfoldable pub fits : ℕ → ℕ → Bool
fits wanted found = eqb wanted 0 || eqb wanted found

unfoldable pub reaches : Path → Label → Place → Bool
reaches w g p =
    same w.segment g.name && fits w.occurrence g.occurrence && fits w.field p.field
    && fits w.repetition p.repetition && fits w.component p.component && fits w.subcomponent p.subcomponent

-- "A rule covers a leaf that its path reaches in the message as it came in, MSH-1 and MSH-2 excepted": no run changes labels or places
unfoldable pub covers : Rule → Label → Place → Bool
covers r g p = touchable g p && reaches r.path g p

-- "A null rule that stops above the subcomponent replaces the whole node (each field, where the path is a segment alone)";
-- every other rule acts on each leaf
pub data Depth : Type 0 where
  by_field by_repetition by_component : Depth

pub data Reach : Type 0 where
  each_leaf : Reach
  each_node : Depth → Reach

unfoldable pub depth : Path → Depth
depth w = cond (eqb w.component 0) (cond (eqb w.repetition 0) by_field by_repetition) by_component

unfoldable pub reach : Rule → Reach
reach r = cond (is_null_action r.action && eqb r.path.subcomponent 0) (each_node (depth r.path)) each_leaf

unfoldable pub is_node : Reach → Bool
is_node each_leaf = false
is_node (each_node d) = true

-- a node's first leaf stands here
unfoldable pub starts : Depth → Place → Bool
starts by_field p = eqb p.repetition 1 && eqb p.component 1 && eqb p.subcomponent 1
starts by_repetition p = eqb p.component 1 && eqb p.subcomponent 1
starts by_component p = eqb p.subcomponent 1

-- the texts of a node's leaves behind its first, among the leaves `xs` that follow it: up to the next node's first
unfoldable pub rest_of_node : Depth → List Leaf → List Text
rest_of_node d [] = []
rest_of_node d (leaf p n none ∷ xs) = rest_of_node d xs
rest_of_node d (leaf p n (some t) ∷ xs) = let more = rest_of_node d xs in cond (starts d p) [] (t ∷ more)

-- ---- what becomes of a leaf

pub data Effect : Type 0 where
  stays vanishes : Effect
  becomes : Text → Effect

unfoldable pub after : Effect → Text → Option Text
after stays t = some t
after (becomes w) t = some w
after vanishes t = none

unfoldable pub moved : Effect → Bool
moved stays = false
moved (becomes w) = true
moved vanishes = true

-- "An equal replacement changes nothing"
unfoldable pub replaced : Separators → Option Text → Text → Effect
replaced s none v = stays
replaced s (some w) v = cond (same w v) stays (becomes (encode s w))

-- an action on one leaf: "Empty and null leaves are skipped, except that null writes an empty one"
unfoldable pub act : ℕ → Separators → Action → Text → Effect
act key s a t =
    cond (is_null_action a) (cond (is_null t) stays (becomes NULL))
    (cond (is_empty_or_null t) stays (replaced s (apply key a (value s t)) (value s t)))

abbrev pub is_nil : {X : Type 0} → List X → Bool
is_nil [] = true
is_nil (x ∷ xs) = false

-- "by one null leaf `""`"; "a node that is already that is left". Of a node the first leaf stays and the others vanish
unfoldable pub collapse : Bool → Bool → Effect
collapse true true = stays
collapse true false = becomes NULL
collapse false already = vanishes

-- a leaf at p that a rule covers, with the text t, before the leaves xs
unfoldable pub effect_in : ℕ → Separators → Reach → Action → Place → Text → List Leaf → Effect
effect_in key s each_leaf a p t xs = act key s a t
effect_in key s (each_node d) a p t xs = collapse (starts d p) (is_null t && is_nil (rest_of_node d xs))

unfoldable pub effect : ℕ → Separators → Rule → Label → Place → Text → List Leaf → Effect
effect key s r g p t xs = cond (covers r g p) (effect_in key s (reach r) r.action p t xs) stays

-- ---- what is said of a leaf

-- the term "row": a change, by where it was made and with which action
pub record Row : Type 0 where
  pub path : Path
  pub action : Action

-- "A row is the full path, .. the action"
unfoldable pub row : Label → Place → Action → Row
row g p a =
    record {
      path = record {
        segment = g.name;
        occurrence = g.occurrence;
        field = p.field;
        repetition = p.repetition;
        component = p.component;
        subcomponent = p.subcomponent;
      };
      action = a;
    }

-- a value to learn, with its action; a change with its row, the bytes that went and the bytes that came
pub data Event : Type 0 where
  learn : Text → Action → Event
  change : Row → ℕ → ℕ → Event

-- a leaf that gets a text has a row; one that vanishes has none, since the node's first leaf has it ("gives one row")
unfoldable pub changing : Row → ℕ → Effect → List Event
changing ρ went stays = []
changing ρ went (becomes w) = change ρ went (length w) ∷ []
changing ρ went vanishes = []

-- the term "learnt". "Learnt: not under keep, not empty, not null, lower-cased, at least 3 characters"
unfoldable pub learning : Separators → Action → List Text → List Event
learning s a [] = []
learning s a (t ∷ ts) =
    let v = lower_text (value s t) in
    let more = learning s a ts in
    cond (is_keep a || is_empty_or_null t || ltb (char_count v) 3) more (learn v a ∷ more)

-- the texts that a leaf answers for: its own; the whole node's, if it is a node's first; none, if it is another of a node
unfoldable pub texts_at : Reach → Place → Text → List Leaf → List Text
texts_at each_leaf p t xs = t ∷ []
texts_at (each_node d) p t xs = cond (starts d p) (t ∷ rest_of_node d xs) []

-- the bytes of texts, each with a delimiter
unfoldable pub size : List Text → ℕ
size [] = 0
size (t ∷ ts) = 1 + length t + size ts

-- ---- the rules' passes, and the term "named": "Every other leaf reached is named, keep included, and learnt before the action"; a collapse "names nothing"

unfoldable pub rule_leaf : ℕ → Separators → Rule → Label → Leaf → List Leaf → Leaf
rule_leaf key s r g (leaf p n none) xs = leaf p n none
rule_leaf key s r g (leaf p n (some t)) xs = leaf p (n || covers r g p && not (is_node (reach r))) (after (effect key s r g p t xs) t)

unfoldable pub rule_events : ℕ → Separators → Rule → Label → Leaf → List Leaf → List Event
rule_events key s r g (leaf p n none) xs = []
rule_events key s r g (leaf p n (some t)) xs =
    cond (covers r g p) (learning s r.action (texts_at (reach r) p t xs)) []
    ++ changing (row g p r.action) (size (texts_at (reach r) p t xs) - 1) (effect key s r g p t xs)

-- ---- the passes over unnamed leaves, with an action for each text or none

unfoldable pub is_unnamed : Label → Place → Bool → Bool
is_unnamed g p n = touchable g p && not n

unfoldable pub act_or : ℕ → Separators → Option Action → Text → Effect
act_or key s none t = stays
act_or key s (some a) t = act key s a t

unfoldable pub unnamed_leaf : ℕ → Separators → (Text → Option Action) → Label → Leaf → List Leaf → Leaf
unnamed_leaf key s f g (leaf p n none) xs = leaf p n none
unnamed_leaf key s f g (leaf p n (some t)) xs = leaf p n (after (cond (is_unnamed g p n) (act_or key s (f t) t) stays) t)

unfoldable pub changing_or : ℕ → Separators → Option Action → Label → Place → Text → List Event
changing_or key s none g p t = []
changing_or key s (some a) g p t = changing (row g p a) (length t) (act key s a t)

unfoldable pub unnamed_events : ℕ → Separators → (Text → Option Action) → Label → Leaf → List Leaf → List Event
unnamed_events key s f g (leaf p n none) xs = []
unnamed_events key s f g (leaf p n (some t)) xs = cond (is_unnamed g p n) (changing_or key s (f t) g p t) []

-- ---- a pass over the leaves of a segment and over segments

abbrev pub over_leaves : (Label → Leaf → List Leaf → Leaf) → Label → List Leaf → List Leaf
over_leaves f g [] = []
over_leaves f g (x ∷ xs) = f g x xs ∷ over_leaves f g xs

abbrev pub over_segments : (Label → Leaf → List Leaf → Leaf) → List Segment → List Segment
over_segments f [] = []
over_segments f (segment g xs ∷ ss) = segment g (over_leaves f g xs) ∷ over_segments f ss

abbrev pub leaves_events : (Label → Leaf → List Leaf → List Event) → Label → List Leaf → List Event
leaves_events f g [] = []
leaves_events f g (x ∷ xs) = f g x xs ++ leaves_events f g xs

abbrev pub segments_events : (Label → Leaf → List Leaf → List Event) → List Segment → List Event
segments_events f [] = []
segments_events f (segment g xs ∷ ss) = leaves_events f g xs ++ segments_events f ss

-- ---- the progress: what is learnt, the rows, and the message's size

-- a learnt value, with the action that it was learnt under
pub record Known : Type 0 where
  pub value : Text
  pub action : Action

pub data Progress : Type 0 where
  running : List Known → List Row → ℕ → Progress
  stopped : Refusal → Progress

unfoldable pub knows : Text → List Known → Bool
knows v [] = false
knows v (k ∷ ks) = same v k.value || knows v ks

unfoldable pub known_bytes : List Known → ℕ
known_bytes [] = 0
known_bytes (k ∷ ks) = length k.value + known_bytes ks

-- "first action wins"; "sweep on, and a 513th value or over 16,384 bytes of them"; "a change leaves the message over 49,152 bytes"
unfoldable pub after_event : Bool → Progress → Event → Progress
after_event sweep (stopped e) x = stopped e
after_event sweep (running ks ρs z) (learn v a) =
    cond (not sweep || knows v ks) (running ks ρs z)
    (cond (leb LEARNT_MAX (length ks) || ltb LEARNT_BYTES_MAX (known_bytes ks + length v)) (stopped TooMuchLearnt)
    (running (ks ++ (record { value = v; action = a } ∷ [])) ρs z))
after_event sweep (running ks ρs z) (change ρ went came) =
    cond (ltb TEXT_MAX (z - went + came)) (stopped MessageTooLong) (running ks (ρs ++ (ρ ∷ [])) (z - went + came))

-- "Then 10 and 11 as they arise"
unfoldable pub after_events : Bool → List Event → Progress → Progress
after_events sweep [] b = b
after_events sweep (e ∷ es) b = after_events sweep es (after_event sweep b e)

unfoldable pub known_in : Progress → List Known
known_in (running ks ρs z) = ks
known_in (stopped e) = []

-- ---- "Rules in policy order, each over segments in order; then a rejecting posture over unnamed leaves; then the sweep"

unfoldable pub after_rule : ℕ → Separators → Rule → List Segment → List Segment
after_rule key s r ss = over_segments (rule_leaf key s r) ss

unfoldable pub after_rules : ℕ → Separators → List Rule → List Segment → List Segment
after_rules key s [] ss = ss
after_rules key s (r ∷ rs) ss = after_rules key s rs (after_rule key s r ss)

unfoldable pub rules_events : ℕ → Separators → List Rule → List Segment → List Event
rules_events key s [] ss = []
rules_events key s (r ∷ rs) ss = segments_events (rule_events key s r) ss ++ rules_events key s rs (after_rule key s r ss)

unfoldable pub for_posture : Posture → Text → Option Action
for_posture accept t = none
for_posture (reject a) t = some a

-- of a learnt value and one that was learnt later, "the longest in bytes .. and among equal lengths the one whose first learning came last"
unfoldable pub longer_of : Known → Option Known → Option Known
longer_of k none = some k
longer_of k (some later) = cond (ltb (length later.value) (length k.value)) (some k) (some later)

-- "the more specific one": among the learnt values found as a whole word in v, "the leaf's lower-cased value"
unfoldable pub longest_found : List Known → Text → Option Known
longest_found [] v = none
longest_found (k ∷ ks) v = let later = longest_found ks v in cond (is_whole_word k.value v) (longer_of k later) later

unfoldable pub action_in : Option Known → Option Action
action_in none = none
action_in (some k) = some k.action

unfoldable pub for_sweep : Separators → List Known → Text → Option Action
for_sweep s ks t = cond (is_empty_or_null t) none (action_in (longest_found ks (lower_text (value s t))))

-- the segments when the sweep starts, what was said by then, and the progress
unfoldable pub before_sweep : ℕ → Separators → Policy → List Segment → List Segment
before_sweep key s P ss = over_segments (unnamed_leaf key s (for_posture P.posture)) (after_rules key s P.rules ss)

unfoldable pub events_before_sweep : ℕ → Separators → Policy → List Segment → List Event
events_before_sweep key s P ss =
    rules_events key s P.rules ss ++ segments_events (unnamed_events key s (for_posture P.posture)) (after_rules key s P.rules ss)

-- z bytes are there when the run begins: the message's, and those beside it in its file
unfoldable pub progress_before_sweep : ℕ → ℕ → Separators → Policy → List Segment → Progress
progress_before_sweep z key s P ss = after_events P.sweep (events_before_sweep key s P ss) (running [] [] z)

-- the message's text and its rows, or a refusal
pub data Redacted : Type 0 where
  done : Text → List Row → Redacted
  refused : Refusal → Redacted

unfoldable pub redacted_as : Separators → Bool → Progress → List Segment → Redacted
redacted_as s cr (running ks ρs z) ss = done (print_segments s cr ss) ρs
redacted_as s cr (stopped e) ss = refused e

-- the term "sweep". "The sweep visits unnamed leaves only .. and acts on the whole leaf"; where it is off nothing was learnt
unfoldable pub swept : ℕ → Separators → Policy → Bool → List Known → Progress → List Segment → Redacted
swept key s P cr ks b ss =
    redacted_as s cr (after_events P.sweep (segments_events (unnamed_events key s (for_sweep s ks)) ss) b)
    (over_segments (unnamed_leaf key s (for_sweep s ks)) ss)

unfoldable pub redact_from : ℕ → ℕ → Policy → Message → Redacted
redact_from z key P m =
    let s = m.separators in
    let b = progress_before_sweep z key s P m.segments in
    swept key s P m.last_cr (known_in b) b (before_sweep key s P m.segments)

-- a message by itself: nothing stands beside it
unfoldable pub redact : ℕ → Policy → Message → Redacted
redact key P m = redact_from (length (print_message m)) key P m

-- ---- the report: "A row is the full path, a blank, the action, LF"

unfoldable pub print_row : Row → Text
print_row ρ = print_path ρ.path ++ (0x20 ∷ (print_action ρ.action ++ (0x0a ∷ [])))

unfoldable pub print_rows : List Row → Text
print_rows [] = []
print_rows (ρ ∷ ρs) = print_row ρ ++ print_rows ρs
