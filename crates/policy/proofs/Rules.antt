-- Laws of the first rules of a policy. Assumes nothing.
use Rattle.std.proofs.Common.{◌≡◌, sym, ap, ◌∙◌, List, [], ◌∷◌, ◌++◌, map, ℕ, ◌+◌, ◌-◌, ◌≤◌, ◌<◌, length, take, drop, replicate, set, get_or, arith, add-one, take-suc, take-append-drop, drop-drop, drop-set-lt}
use Rattle.std.proofs.lemmas.List.{map-append, drop-replicate}
use Rattle.text.specs.Text.{Text}
use Rattle.er7_redact.specs.Policy.{Rule, as_rule}
use Rattle.er7_redact.specs.declared.policy.Rule.{Rule as HeldRule}
use Rattle.policy.specs.Policy.{as_rules}

-- the rules: the first i, the next, and those behind it
module _ (t : Text) (rs : List HeldRule) (i : ℕ) where
  pub behind : List Rule
  behind = map (as_rule t) (drop (i + 1) rs)

  pub rules_step : (z : HeldRule) → i < length rs → as_rules t (take (i + 1) rs) ≡ as_rules t (take i rs) ++ (as_rule t (get_or rs i z) ∷ [])
  unfolding as_rules
  rules_step z h = rw (add-one, take-suc rs i z h) (map-append (as_rule t) (take i rs) (get_or rs i z ∷ []))

  pub rules_split : as_rules t rs ≡ as_rules t (take (i + 1) rs) ++ behind
  unfolding as_rules behind
  rules_split = ap (map (as_rule t)) (sym (take-append-drop (i + 1) rs)) ∙ map-append (as_rule t) (take (i + 1) rs) (drop (i + 1) rs)

-- one place fewer is free behind a value written at index i, up to n
pub free_behind : {A : Type 0} (xs : List A) (m n i : ℕ) (x y : A) → i ≤ n → drop n xs ≡ replicate (m - n) x → drop (n + 1) (set xs i y) ≡ replicate (m - (n + 1)) x
free_behind xs m n i x y l h =
    let one_less : m - n - 1 ≡ m - (n + 1) = omega arith in
    drop-set-lt (n + 1) xs i y (omega arith) ∙ sym (drop-drop 1 n xs) ∙ ap (drop 1) h ∙ drop-replicate 1 (m - n) x ∙ ap (λ k. replicate k x) one_less
