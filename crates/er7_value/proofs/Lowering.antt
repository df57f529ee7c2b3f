-- Laws of `lower` in a buffer. Assumes nothing.
use Rattle.std.proofs.Common.{◌≡◌, refl, sym, ◌∙◌, map, append-nil, ℕ, ◌-◌, ◌≤◌, ◌++◌, append_assoc, length, take, drop, length-append, length-take, length-drop, arith, drop_of_length-le, take_at, take_all, drop_at, length-take-le}
use Rattle.std.proofs.Math.ListN.{length-map}
use Rattle.std.proofs.lemmas.Slice.{put_mid-paste}
use borrow.Rule.Slice.PartMut.{put_mid}
use Rattle.text.specs.Text.{Text, lower_byte, lower, part, between, put, Wrote}
use Rattle.text.proofs.Kept.{wrote_between}

-- what stands behind what was written, and what was written
module _ {d d' w : Text} {at e : ℕ} (p : Wrote d at w d' e) where
  front_length : length (take at d ++ w) ≡ e
  front_length = simp (length-append, length-take) (omega (arith, p.end, p.high))

  -- a second text of the same length in the place of the first
  pub wrote_over : {d'' v : Text} → Wrote d' at v d'' e → Wrote d at v d'' e
  unfolding put
  wrote_over {d''} {v} q = record {
    end = q.end;
    high = p.high;
    text = q.text
        ∙ rw (p.text, ← q.end, ← p.end, drop_at (take at d ++ w) (drop e d) e front_length, append_assoc (take at d) w (drop e d), take_at (take at d) (w ++ drop e d) at (length-take-le at d (omega (arith, p.end, p.high))));
  }

-- a part of a buffer whose first k bytes were put in lower case, and which has no more
pub lowered : (d : Text) (i e k : ℕ) (w : Text) → i ≤ e → e ≤ length d
    → w ≡ map lower_byte (take k (take (e - i) (drop i d))) ++ drop k (take (e - i) (drop i d)) → e - i ≤ k
    → Wrote d i (lower (part d i (e - i))) (put_mid i (e - i) d w) e
unfolding put part lower
lowered d i e k w l h q f =
    let p = take (e - i) (drop i d) in
    let m : length p ≡ e - i = simp (length-take, length-drop) (omega arith) in
    let n : length (map lower_byte p) ≡ e - i = length-map p lower_byte ∙ m in
    let r : w ≡ map lower_byte p = q ∙ rw (take_all k p (omega arith), drop_of_length-le p {i = k} (omega arith), append-nil) in
    record {
      end = omega arith;
      high = h;
      text = put_mid-paste i (e - i) d w (map lower_byte p) (e - i) r refl (sym n) ∙ rw (take_all (e - i) (map lower_byte p) (omega arith), n);
    }

-- what was written, in lower case
pub wrote_lower : {d d₁ d₂ v : Text} {at e : ℕ} → Wrote d at v d₁ e → Wrote d₁ at (lower (part d₁ at (e - at))) d₂ e → Wrote d at (lower v) d₂ e
unfolding between part
wrote_lower {d} {d₁} {d₂} {v} {at} {e} p q = wrote_over p (rw (← wrote_between p) q)
