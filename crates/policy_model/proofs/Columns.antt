-- A printed line is read as its first word and its rest. Assumes nothing.
use mathlib.Core.Path.{◌≡◌, refl}
use mathlib.Core.Bool.{Bool, true, false}
use mathlib.Core.List.{[], ◌∷◌, ◌++◌}
use Prim.Native.Nat.{ℕ, suc, ◌+◌, ◌-◌, ◌≤◌}
use native.Mathlib.Omega.{arith}
use borrow.Author.Tests.{le-ltb}
use lib.ListN.{length, length-append, length-replicate}
use Rattle.text.specs.Text.{Text, is_blank, not_blank, is_empty, run, rest, all}
use Rattle.text.proofs.Laws.{and_left, and_right, clash}
use Rattle.text.proofs.Runs.{stop, rest_stop, run_all, rest_all, all_append}
use Rattle.text.specs.Characters.{trim}
use Rattle.refusal.specs.Refusal.{is_plain}
use Rattle.policy_model.specs.Policy.{line_kind, read_directive, judged, read_words, not_cr, not_hash, read_line, gap, column}
use Rattle.policy_model.proofs.Texts.{run_whole, all_replicate, all_implies, full_append, stop_append, ends, trim_end_lem, ends_append}
use Rattle.policy_model.proofs.Bytes.{is_line_byte, is_word_byte, word_line, word_not_blank, line_not_hash, line_not_cr}

-- a first word that passes
pub record GoodWord (w : Text) : Type 0 where
  pub full : is_empty w ≡ false
  pub bytes_fit : all is_word_byte w ≡ true
  pub short : length w ≤ 64

-- a text with no blanks around it, perhaps empty
pub record Trimmed (s : Text) : Type 0 where
  pub begins : stop is_blank s ≡ true
  pub closes : ends s ≡ true
  pub bytes_fit : all is_line_byte s ≡ true

-- a rest that passes
pub record GoodRest (s : Text) : Type 0 where
  pub trimmed : Trimmed s
  pub full : is_empty s ≡ false
  pub short : length s ≤ 80

-- a line that printing writes
pub record GoodLine (l : Text) : Type 0 where
  pub bytes_fit : all is_line_byte l ≡ true
  pub short : length l ≤ 146

-- a word by itself has no blanks around it
word_begins : (w : Text) → all is_word_byte w ≡ true → stop is_blank w ≡ true
unfolding all stop not_blank
word_begins [] h = refl
word_begins (x ∷ w) h = word_not_blank x (and_left (is_word_byte x) (all is_word_byte w) h)

word_ends : (w : Text) → all is_word_byte w ≡ true → ends w ≡ true
unfolding all ends not_blank
word_ends [] h = refl
word_ends (x ∷ []) h = word_not_blank x (and_left (is_word_byte x) true h)
word_ends (x ∷ y ∷ w) h = word_ends (y ∷ w) (and_right (is_word_byte x) (all is_word_byte (y ∷ w)) h)

word_trimmed : (w : Text) → all is_word_byte w ≡ true → Trimmed w
word_trimmed w h = record { begins = word_begins w h; closes = word_ends w h; bytes_fit = all_implies is_word_byte is_line_byte word_line w h }

pub word_rest : (w : Text) → GoodWord w → GoodRest w
word_rest w g = record { trimmed = word_trimmed w g.bytes_fit; full = g.full; short = omega (arith, g.short) }

words_full : (l : Text) → is_empty l ≡ false → read_words l ≡ judged (run not_blank l) (rest is_blank (rest not_blank l))
unfolding read_words is_empty
words_full [] h = clash h
words_full (x ∷ l) h = refl

-- ---- the blanks between the two

module _ (k : ℕ) (w : Text) where
  gap_all : (p : ℕ → Bool) → p 0x20 ≡ true → all p (gap k w) ≡ true
  unfolding gap
  gap_all p h = all_replicate p (suc (suc (k - length w))) 0x20 h

  gap_length : length (gap k w) ≡ 2 + (k - length w)
  unfolding gap
  gap_length = rw length-replicate (omega arith)

  gap_full : (s : Text) → is_empty (gap k w ++ s) ≡ false
  unfolding gap is_empty
  gap_full s = refl

  gap_stop : (s : Text) → stop not_blank (gap k w ++ s) ≡ true
  unfolding gap stop not_blank is_blank
  gap_stop s = refl

-- ---- a word, blanks and a rest

module _ (k : ℕ) (w s : Text) (gw : GoodWord w) (gs : GoodRest s) where
  column_bytes : all is_line_byte (column k w s) ≡ true
  unfolding column
  column_bytes =
      all_append is_line_byte w _ (all_implies is_word_byte is_line_byte word_line w gw.bytes_fit)
      (all_append is_line_byte (gap k w) s (gap_all k w is_line_byte (unfold is_line_byte is_plain not_hash in refl)) gs.trimmed.bytes_fit)

  column_full : is_empty (column k w s) ≡ false
  unfolding column
  column_full = full_append w _ gw.full

  column_length : k ≤ 64 → length (column k w s) ≤ 146
  unfolding column
  column_length h = rw (length-append, length-append, gap_length) (omega (arith, gw.short, gs.short))

  column_trim : trim (column k w s) ≡ column k w s
  unfolding trim column
  column_trim =
      rw (rest_stop is_blank (w ++ (gap k w ++ s)) (stop_append is_blank w _ gw.full (word_begins w gw.bytes_fit)))
      (trim_end_lem _ (ends_append w _ (gap_full k w s) (ends_append (gap k w) s gs.full gs.trimmed.closes)))

  word_run : all not_blank w ≡ true
  word_run = all_implies is_word_byte not_blank word_not_blank w gw.bytes_fit

  column_word : run not_blank (column k w s) ≡ w
  unfolding column
  column_word = run_all not_blank w _ word_run (gap_stop k w s)

  column_rest : rest is_blank (rest not_blank (column k w s)) ≡ s
  unfolding column
  column_rest =
      rw (rest_all not_blank w (gap k w ++ s) word_run (gap_stop k w s))
      (rest_all is_blank (gap k w) s (gap_all k w is_blank (unfold is_blank in refl)) gs.trimmed.begins)

  pub column_reads : k ≤ 64 → read_line (column k w s) ≡ read_directive (line_kind w) w s
  unfolding read_line judged
  column_reads h =
      let l : Text = column k w s in
      rw (
        run_whole not_cr l (all_implies is_line_byte not_cr line_not_cr l column_bytes),
        run_whole not_hash l (all_implies is_line_byte not_hash line_not_hash l column_bytes),
        le-ltb 255 (length l) (omega (arith, column_length h)),
        column_trim,
        words_full l column_full,
        column_word,
        column_rest,
        le-ltb 64 (length w) gw.short,
        le-ltb 80 (length s) gs.short,
      )

  pub column_good : k ≤ 64 → GoodLine (column k w s)
  column_good h = record { bytes_fit = column_bytes; short = column_length h }
