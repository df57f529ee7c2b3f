-- Laws of lines. Assumes nothing.
use Rattle.std.proofs.Common.{◌≡◌, refl, ◌∙◌, Bool, true, false, not, List, [], ◌∷◌, ◌++◌, ℕ, ◌+◌, ◌-◌, ◌≤◌, ◌<◌, length, take, drop, get_or, arith, one-add, append-nil, append_assoc, length-drop, drop-drop, get_or-drop, drop_of_length-le, eq-eqb, eqb-true, eqb}
use Rattle.std.proofs.lemmas.List.Sums.{prefix_len-le-length, passes_at_first}
use Rattle.std.specs.List.{position_or_len}
use mathlib.Core.Logic.{dite}
use native.Mathlib.Decide.{ℕ_discrete}
use Rattle.text.specs.Text.{Text, part}
use Rattle.text.proofs.Runs.{drop_step}
use Rattle.message_model.specs.Message.{segment_lines}
use Rattle.er7_message.specs.Inner.{line, LineEnd}

-- ---- one line: the bytes before the first CR

abbrev is_cr : ℕ → Bool
is_cr b = eqb b 0x0d

line_front : (w t : Text) → segment_lines w t ≡ segment_lines (w ++ take (position_or_len is_cr t) t) (drop (position_or_len is_cr t) t)
unfolding segment_lines
line_front w [] = rw append-nil
line_front w (x ∷ t) = go (is_cr x) refl (line_front (w ++ x ∷ []) t)
  where
    go : (b : Bool) → is_cr x ≡ b
        → segment_lines (w ++ x ∷ []) t ≡ segment_lines (w ++ x ∷ [] ++ take (position_or_len is_cr t) t) (drop (position_or_len is_cr t) t)
        → segment_lines w (x ∷ t) ≡ segment_lines (w ++ take (position_or_len is_cr (x ∷ t)) (x ∷ t)) (drop (position_or_len is_cr (x ∷ t)) (x ∷ t))
    go true e more = rw (e, append-nil, e)
    go false e more = rw (e, one-add) (more ∙ rw append_assoc)

pub line_ends : (t : Text) (i n : ℕ) → i ≤ length t → n ≡ position_or_len is_cr (drop i t) → LineEnd t i (i + n)
unfolding line part
line_ends t i n h e =
    let z : i + n - i ≡ n = omega arith in
    let most : n ≤ length t - i = rw e (rw length-drop at (prefix_len-le-length (λ b. not (is_cr b)) (drop i t))) in
    record {
      low = omega arith;
      high = omega (arith, most);
      runs = rw (z, ← drop-drop n i t) (rw e (line_front [] (drop i t)));
      stops = λ l.
          let inside : position_or_len is_cr (drop i t) < length (drop i t) = rw (length-drop, ← e) (omega arith) in
          rw e (eqb-true _ _ (rw get_or-drop at (passes_at_first is_cr (drop i t) 0 inside)));
    }

-- ---- the line that begins at index i, and the lines behind it

module _ {t : Text} {i e : ℕ} (g : LineEnd t i e) where
  pub line_last : e ≡ length t → segment_lines [] (drop i t) ≡ line t i e ∷ []
  unfolding segment_lines
  line_last q = g.runs ∙ rw (drop_of_length-le t {i = e} (omega arith))

  pub line_next : e < length t → segment_lines [] (drop i t) ≡ line t i e ∷ segment_lines [] (drop (e + 1) t)
  unfolding segment_lines
  line_next h = g.runs ∙ rw (drop_step t e h, eq-eqb (get_or t e 0) 0x0d (g.stops h))

  pub line_some : (ls : List Text) × (segment_lines [] (drop i t) ≡ line t i e ∷ ls)
  line_some = dite (ℕ_discrete e (length t)) (λ q. ([], line_last q)) (λ ne. (segment_lines [] (drop (e + 1) t), line_next (omega (arith, g.high))))
