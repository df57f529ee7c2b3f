-- Laws of FNV-1a. Assumes nothing.
use Rattle.std.proofs.Common.{◌≡◌, ℕ, [], ◌∷◌, ◌++◌, length, refl, sym, ◌∙◌}
use Rattle.std.specs.List as Lists
use Rattle.text.specs.Text.{Text, Wrote}
use Rattle.text.specs.Number.{eight_bytes}
use Rattle.text.proofs.Spelling.{eight_bytes_length}
use Rattle.text.proofs.Writes.{put_whole}
use Rattle.pseudonym.specs.Pseudonym.{OFFSET, step, fold}

-- the bytes of one text, and then those of another
pub fold_append : (h : ℕ) (s t : Text) → fold h (s ++ t) ≡ fold (fold h s) t
unfolding fold
fold_append h [] t = refl
fold_append h (b ∷ s) t = fold_append (step h b) s t

-- the same as a fold of the list
pub fold_lem : (h : ℕ) (s : Text) → Lists.fold step h s ≡ fold h s
unfolding fold
fold_lem h [] = refl
fold_lem h (b ∷ s) = fold_lem (step h b) s

-- the key's bytes stand in a buffer of eight, and the value's follow
pub key_then_value : (key : ℕ) (value d b : Text) (g h r : ℕ) → length d ≡ 8 → Wrote d 0 (eight_bytes key) b r → g ≡ fold OFFSET b → h ≡ fold g value
    → h ≡ fold OFFSET (eight_bytes key ++ value)
key_then_value key value d b g h r l w e f =
    f ∙ rw (e, w.text, put_whole d (eight_bytes key) (eight_bytes_length key ∙ sym l)) (sym (fold_append OFFSET (eight_bytes key) value))
