-- A message as a whole. Assumes nothing.
use Rattle.std.proofs.Common.{◌≡◌, refl, sym, ap, ◌∙◌, Bool, true, false, not, cond, List, [], ◌∷◌, ℕ, suc, ◌-◌, ◌≤◌, ◌<◌, length, take, drop, get_or, set, eqb, Ok, Err, arith, lt-ltb, le-ltb, length-take-le, drop-cons, drop_of_length-le, get_or-set_same}
use Rattle.std.proofs.Math.Option.{Option, some}
use Rattle.std.specs.declared.result.Result.{Result}
use lib.Pointwise.{pointwise}
use Rattle.text.specs.Text.{Text}
use Rattle.refusal.specs.declared.Refusal.{Refusal}
use Rattle.refusal.specs.declared.Refusal.TheVariants.{TooLong, ForeignByte, BadHeader}
use Rattle.refusal.specs.Refusal.{too_long, no_foreign}
use Rattle.refusal.specs.declared.input.Input.TheVariants as Inputs
use Rattle.refusal.specs.Limits.{INPUT_MAX}
use Rattle.er7.specs.declared.message.Label.{Label as HeldLabel}
use Rattle.er7.specs.declared.separators.Separators.{Separators}
use Rattle.message_model.specs.Message.{Message, separators_of, is_header, ends_in_cr, without_last_cr, segment_lines, message_lines, head_of, is_opened, segments, segments_fault, message_fault, message_of}
use Rattle.message_model.proofs.Faultless.{header_line, lines, lines_are}
use Rattle.er7_table.specs.declared.table.Leaf.{Leaf as HeldLeaf}
use Rattle.er7_table.specs.declared.table.Segment.{Segment as HeldSegment}
use Rattle.er7_table.specs.declared.table.TheConstants.{NO_SEGMENT}
use Rattle.er7_table.specs.Table.{place_at, first_leaf, segments_from, list_of}
use Rattle.er7_table.proofs.Laws.{segments_in_store}
use Rattle.er7_table.proofs.Reading.{within_more}
use Rattle.er7_message.specs.declared.message.Layout.{Layout}
use Rattle.er7_message.specs.Parsed.{fault_of, StandingOr, ParsedAs}
use Rattle.er7_message.specs.Inner.{line, LineEnd, HeaderEnd, fault_by, message_by, lines_fault, lines_message}
use Rattle.er7_message.proofs.Headers.{and_end}
use Rattle.er7_message.proofs.Lines.{line_some}
use Rattle.er7_message.proofs.Segments.{line_from, line_length}

-- ---- the first line

first_line : {t : Text} {e : ℕ} → LineEnd t 0 e → head_of (segment_lines [] t) ≡ line t 0 e
unfolding head_of
first_line g = let ls = line_some g in ap head_of ls.1

-- as the text up to its end
line_0 : (t : Text) (e : ℕ) → line t 0 e ≡ take e t
line_0 t e = line_from t 0 e

pub header_bad : {t : Text} {e : ℕ} → LineEnd t 0 e → {b : Bool} → b ≡ is_header (take e t) → b ≡ false → (m : Message) (segs : List HeldSegment) (held : List HeldLeaf)
    → ParsedAs t (lines_fault t) m segs held (Err BadHeader)
unfolding lines_fault fault_of
header_bad {t} {e} g q f m segs held = record { is = rw (first_line g, line_0 t e, sym q ∙ f); tables = tt }

pub header_long : (l : Text) {b : Bool} → b ≡ is_header l → b ≡ true → 8 ≤ length l
header_long l q z = (header_line l (sym q ∙ z)).long

pub header_end : {s : Separators} {t : Text} {e : ℕ} → LineEnd t 0 e → {b : Bool} → b ≡ is_header (take e t) → b ≡ true → s ≡ separators_of (take e t) → HeaderEnd s t e
header_end {s} {t} {e} g q z w =
    let h : is_header (line t 0 e) ≡ true = rw line_0 (sym q ∙ z) in record {
      end = g;
      long = omega (arith, (header_line (line t 0 e) h).long, line_length t 0 e g.high);
      header = h;
      named = rw line_0 w;
    }

pub header_read : {s : Separators} {t : Text} {e : ℕ} → HeaderEnd s t e → (last : Bool) {segs : List HeldSegment} {held : List HeldLeaf} {a : Result Layout Refusal}
    → ParsedAs t (fault_by s t) (message_by s last t) segs held a → ParsedAs t (lines_fault t) (lines_message last t) segs held a
unfolding lines_fault lines_message
header_read {s} {t} {e} h last p = rw (first_line h.end, h.header, ← h.named) p

-- ---- a store that begins with the text: the tables stand for the same over it

pub standing_over : (t store : Text) (m : Message) (segs : List HeldSegment) (held : List HeldLeaf) (a : Result Layout Refusal) → take (length t) store ≡ t → length t ≤ length store → StandingOr t m segs held a → StandingOr store m segs held a
standing_over t store m segs held (Ok c) q h w = record {
  separators = w.separators;
  last = w.last;
  segments = segments_in_store (λ i. false) segs held t store c.segments c.leaves w.good w.segmented q ∙ w.segments;
  good = record { rows = w.good.rows; room = omega arith; ends = λ i x. omega (arith, w.good.ends i x) };
  placed = record { within = λ i x. within_more (place_at held i) (length t) (length store) h (w.placed.within i x) };
  segmented = w.segmented;
  segments_most = w.segments_most;
  leaves_most = w.leaves_most;
}
standing_over t store m segs held (Err e) q h w = tt

pub parsed_over : {t : Text} (store : Text) {f : Option Refusal} {m : Message} {segs : List HeldSegment} {held : List HeldLeaf} {a : Result Layout Refusal} → take (length t) store ≡ t → length t ≤ length store
    → ParsedAs t f m segs held a → ParsedAs store f m segs held a
parsed_over {t} store {f} {m} {segs} {held} {a} q h p = record { is = p.is; tables = standing_over t store m segs held a q h p.tables }

-- ---- a message of no bytes

no_leaf : (segs : List HeldSegment) (g : HeldLabel) → 0 < length segs → first_leaf (set segs 0 (record { first = 0; label = g })) 0 ≡ 0
unfolding first_leaf
no_leaf segs g h = ap (λ (r : HeldSegment). r.first) (get_or-set_same segs 0 (record { first = 0; label = g }) NO_SEGMENT h)

pub nothing_read : (segs : List HeldSegment) (g : HeldLabel) → 0 < length segs → (held : List HeldLeaf)
    → ParsedAs [] (message_fault []) (message_of []) (set segs 0 (record { first = 0; label = g })) held (Ok (record { separators = separators_of []; segments = 0; leaves = 0; last_cr = false }))
unfolding message_fault message_of message_lines is_opened head_of ends_in_cr segments_fault segments separators_of too_long no_foreign fault_of segments_from list_of
nothing_read segs g h held = record {
  is = refl;
  tables = record {
    separators = refl;
    last = refl;
    segments = refl;
    good = record { rows = omega arith; room = omega arith; ends = λ i x. absurd (omega arith) };
    placed = record { within = λ i x. absurd (omega arith) };
    segmented = record {
      rows = omega arith;
      none_before = no_leaf segs g h;
      order = λ i j x l. let a : i ≡ 0 = omega arith in let b : j ≡ 0 = omega arith in rw (a, b) (omega arith);
      all = no_leaf segs g h;
    };
    segments_most = omega arith;
    leaves_most = omega arith;
  };
}

pub message_empty : (t : Text) → length t ≡ 0 → {segs : List HeldSegment} {held : List HeldLeaf} {a : Result Layout Refusal} → ParsedAs [] (message_fault []) (message_of []) segs held a
    → ParsedAs t (message_fault t) (message_of t) segs held a
message_empty [] e p = p
message_empty (x ∷ t) e p = absurd (omega arith)

-- ---- a message that has bytes

lines_fault_lem : (t : Text) → (length t ≡ 0 → ⊥)
    → cond (not (is_opened (message_lines t))) (some BadHeader) (segments_fault (separators_of (head_of (message_lines t))) 0 0 (message_lines t)) ≡ lines_fault (without_last_cr t)
unfolding is_opened head_of lines_fault fault_by
lines_fault_lem t h = let f = lines [] (without_last_cr t) in rw (lines_are t h, f.are)

module _ (t : Text) where
  pub message_long : INPUT_MAX < length t → (m : Message) (segs : List HeldSegment) (held : List HeldLeaf) → ParsedAs t (message_fault t) m segs held (Err TooLong)
  unfolding message_fault too_long fault_of
  message_long h m segs held = record { is = rw (lt-ltb INPUT_MAX (length t) h); tables = tt }

  module _ (h : length t ≤ INPUT_MAX) {b : Bool} (q : b ≡ no_foreign Inputs.Message t) where
    pub message_foreign : b ≡ false → (m : Message) (segs : List HeldSegment) (held : List HeldLeaf) → ParsedAs t (message_fault t) m segs held (Err ForeignByte)
    unfolding message_fault too_long fault_of
    message_foreign e m segs held = record { is = rw (le-ltb INPUT_MAX (length t) h, sym q ∙ e); tables = tt }

    module _ (z : b ≡ true) (some_bytes : length t ≡ 0 → ⊥) where
      fault_is : message_fault t ≡ lines_fault (without_last_cr t)
      unfolding message_fault too_long
      fault_is = rw (le-ltb INPUT_MAX (length t) h, sym q ∙ z) (lines_fault_lem t some_bytes)

      message_is : message_of t ≡ lines_message (ends_in_cr t) (without_last_cr t)
      unfolding message_of lines_message message_by
      message_is = rw (lines_are t some_bytes)

      -- what strip_suffix tests
      last_byte : pointwise eqb (drop (length t - 1) t) (0x0d ∷ []) ≡ ends_in_cr t
      unfolding ends_in_cr
      last_byte =
          let d : drop (suc (length t - 1)) t ≡ [] = drop_of_length-le t {i = suc (length t - 1)} (omega arith) in
          rw (drop-cons t (length t - 1) 0 (omega arith), d, and_end (eqb (get_or t (length t - 1) 0) 0x0d))

      module _ {segs : List HeldSegment} {held : List HeldLeaf} {a : Result Layout Refusal} where
        pub message_ended : pointwise eqb (drop (length t - 1) t) (0x0d ∷ []) ≡ true → {l : Text} → l ≡ take (length t - 1) t
            → ParsedAs l (lines_fault l) (lines_message true l) segs held a → ParsedAs t (message_fault t) (message_of t) segs held a
        unfolding without_last_cr
        message_ended e y p =
            let c : ends_in_cr t ≡ true = sym last_byte ∙ e in
            let n : length (take (length t - 1) t) ≡ length t - 1 = length-take-le (length t - 1) t (omega arith) in
            rw (fault_is, message_is, c) (parsed_over t (ap (λ (i : ℕ). take i t) n) (omega (arith, n)) (rw y at p))

        pub message_open : pointwise eqb (drop (length t - 1) t) (0x0d ∷ []) ≡ false → ParsedAs t (lines_fault t) (lines_message false t) segs held a → ParsedAs t (message_fault t) (message_of t) segs held a
        unfolding without_last_cr
        message_open e p =
            let c : ends_in_cr t ≡ false = sym last_byte ∙ e in
            rw (fault_is, message_is, c) p
