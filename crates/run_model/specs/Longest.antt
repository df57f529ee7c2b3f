-- Which learnt value the sweep goes by: the claim that none found is better. Assumes nothing: these are definitions.
use Rattle.std.specs.Prelude.{◌≡◌, true, false, List, [], ◌∷◌, ◌++◌, ◌≤◌, ◌<◌, length}
use Rattle.std.proofs.Math.Option.{Option, none, some}
use Rattle.text.specs.Text.{Text}
use Rattle.message_model.specs.Value.{is_whole_word}
use Rattle.run_model.specs.Redact.{Known}

-- every one of the learnt values is as Q says
abbrev pub AllKnown : (Text → Type 0) → List Known → Type 0
AllKnown Q [] = Unit {0}
AllKnown Q (k ∷ ks) = Q k.value × AllKnown Q ks

-- "the longest in bytes does, and among equal lengths the one whose first learning came last": k is found in v, none found that was learnt
-- before it is longer, and none found that was learnt after it is as long
pub record Longest (k : Known) (ks : List Known) (v : Text) : Type 0 where
  pub earlier : List Known
  pub later : List Known
  pub place : ks ≡ earlier ++ k ∷ later
  pub found : is_whole_word k.value v ≡ true
  pub none_longer : AllKnown (λ w. is_whole_word w v ≡ true → length w ≤ length k.value) earlier
  pub none_as_long : AllKnown (λ w. is_whole_word w v ≡ true → length w < length k.value) later

-- .. or none is found
abbrev pub Picked : Option Known → List Known → Text → Type 0
Picked none ks v = AllKnown (λ w. is_whole_word w v ≡ false) ks
Picked (some k) ks v = Longest k ks v
