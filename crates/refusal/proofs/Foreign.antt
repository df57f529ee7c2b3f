-- Laws of the bytes that a text may hold. Assumes nothing.
use Rattle.std.proofs.Common.{◌≡◌, refl, sym, ◌∙◌, Bool, true, false, ◌&&◌, ℕ, ◌+◌, ◌≤◌, ◌<◌, arith, eqb, length, drop, get_or, drop_of_length-le}
use Rattle.std.proofs.Math.Bool.{and_assoc}
use Rattle.text.specs.Text.{Text}
use Rattle.text.proofs.Laws.{and_id}
use Rattle.text.proofs.Runs.{drop_step}
use Rattle.refusal.specs.Refusal.{begins_in_lf, is_allowed, no_foreign}
use Rattle.refusal.specs.declared.input.Input.{Input}

pub lf_end : (t : Text) (i : ℕ) → length t ≤ i → false ≡ begins_in_lf (drop i t)
unfolding begins_in_lf
lf_end t i h = rw (drop_of_length-le t {i = i} h)

pub lf_here : (t : Text) (i : ℕ) → i < length t → eqb (get_or t i 0) 0x0a ≡ begins_in_lf (drop i t)
unfolding begins_in_lf
lf_here t i h = rw (drop_step t i h)

-- the bytes of t before index i were tested; `fine` says whether each may stand where it does
pub record Tested (input : Input) (t : Text) (fine : Bool) (i : ℕ) : Type 0 where
  pub high : i ≤ length t
  pub is : no_foreign input t ≡ fine && no_foreign input (drop i t)

pub tested_none : (input : Input) (t : Text) → Tested input t true 0
tested_none input t = record { high = omega arith; is = refl }

module _ {input : Input} {t : Text} {fine : Bool} {i : ℕ} (g : Tested input t fine i) where
  pub tested_more : i < length t → {b : Bool} → b ≡ is_allowed input (get_or t i 0) (drop (i + 1) t) → Tested input t (fine && b) (i + 1)
  unfolding no_foreign
  tested_more h {b} e = record {
    high = omega arith;
    is = g.is ∙ rw (drop_step t i h, e) (sym (and_assoc fine (is_allowed input (get_or t i 0) (drop (i + 1) t)) (no_foreign input (drop (i + 1) t))));
  }

  pub tested_all : length t ≤ i → fine ≡ no_foreign input t
  unfolding no_foreign
  tested_all h = sym (g.is ∙ rw (drop_of_length-le t {i = i} h) (and_id fine))
