-- path.rs: reading and printing paths. Assumes nothing: these are definitions.
use Rattle.std.specs.Prelude.{Bool, cond, ◌||◌, [], ◌∷◌, ◌++◌, ℕ, ◌+◌, ◌≤◌, eqb, length}
use Rattle.std.proofs.Math.Option.{Option, none, some}
use Rattle.text.specs.Text.{Text, is_alphanumeric, is_empty, run, rest, part}
use Rattle.text.specs.Number.{decimal, Taken, taken, refused, take_number}
use Rattle.er7.specs.declared.path.Path.{Path as HeldPath}
use Rattle.std.specs.Prelude as Std

-- the term "path": its segment's name as text, and five indices; 0 is an index that is absent ("0 is never an index")
pub record Path : Type 0 where
  pub segment : Text
  pub occurrence : ℕ
  pub field : ℕ
  pub repetition : ℕ
  pub component : ℕ
  pub subcomponent : ℕ

-- ---- reading

-- "Indices are 1 to 18446744073709551615, leading zeros allowed"
unfoldable pub not_zero : Taken → Taken
not_zero (taken n s) = cond (eqb n 0) refused (taken n s)
not_zero refused = refused

unfoldable pub take_index : Text → Taken
take_index s = not_zero (take_number s)

-- "an optional `[n]`": 0 if it is not there
unfoldable pub close_bracket : Taken → Taken
close_bracket (taken n []) = refused
close_bracket (taken n (x ∷ s)) = cond (eqb x 0x5d) (taken n s) refused
close_bracket refused = refused

unfoldable pub take_occurrence : Text → Taken
take_occurrence [] = taken 0 []
take_occurrence (x ∷ s) = cond (eqb x 0x5b) (close_bracket (take_index s)) (taken 0 (x ∷ s))

-- "`.component`, `.subcomponent`": 0 if it is not there
unfoldable pub take_step : Text → Taken
take_step [] = taken 0 []
take_step (x ∷ s) = cond (eqb x 0x2e) (take_index s) (taken 0 (x ∷ s))

-- go on with the number that was taken and what is left
unfoldable pub then : Taken → (ℕ → Text → Option Path) → Option Path
then (taken n s) f = f n s
then refused f = none

-- nothing is left over
unfoldable pub complete : Path → Text → Option Path
complete p [] = some p
complete p (x ∷ s) = none

-- the path from its subcomponent on, its component on, .., with what stands before
unfoldable pub read_subcomponent : Text → ℕ → ℕ → ℕ → ℕ → Text → Option Path
read_subcomponent w o f r c s =
    then (take_step s) λ u t.
    complete (record { segment = w; occurrence = o; field = f; repetition = r; component = c; subcomponent = u }) t

unfoldable pub read_component : Text → ℕ → ℕ → ℕ → Text → Option Path
read_component w o f r s = then (take_step s) (read_subcomponent w o f r)

unfoldable pub read_repetition : Text → ℕ → ℕ → Text → Option Path
read_repetition w o f s = then (take_occurrence s) (read_component w o f)

unfoldable pub read_field : Text → ℕ → Text → Option Path
read_field w o s = then (take_index s) (read_repetition w o)

-- "then optionally `-` or `.` with a field"
unfoldable pub is_join : ℕ → Bool
is_join x = eqb x 0x2d || eqb x 0x2e

unfoldable pub read_segment : Text → ℕ → Text → Option Path
read_segment w o [] = some (record { segment = w; occurrence = o; field = 0; repetition = 0; component = 0; subcomponent = 0 })
read_segment w o (x ∷ s) = cond (is_join x) (read_field w o s) none

-- "A path is a segment name of ASCII letters and digits, an optional `[n]`, then .."
unfoldable pub read_path : Text → Option Path
read_path s =
    cond (is_empty (run is_alphanumeric s)) none
    (then (take_occurrence (rest is_alphanumeric s)) (read_segment (run is_alphanumeric s)))

-- ---- "The printed form uses `-`"; an absent index is left out

unfoldable pub in_brackets : ℕ → Text
in_brackets n = cond (eqb n 0) [] (0x5b ∷ (decimal n ++ (0x5d ∷ [])))

unfoldable pub behind : ℕ → ℕ → Text
behind c n = cond (eqb n 0) [] (c ∷ decimal n)

unfoldable pub print_path : Path → Text
print_path p =
    p.segment ++ (in_brackets p.occurrence ++ (behind 0x2d p.field ++ (in_brackets p.repetition
    ++ (behind 0x2e p.component ++ behind 0x2e p.subcomponent))))

-- ---- the struct: a path whose segment's name is a part of a text

-- the path that p stands for in the text t
unfoldable pub as_path : Text → HeldPath → Path
as_path t p = record {
  segment = part t p.segment p.segment_len;
  occurrence = p.segment_occurrence;
  field = p.field;
  repetition = p.repetition;
  component = p.component;
  subcomponent = p.subcomponent;
}

-- the name lies in the text t
pub record PathHeld (t : Text) (p : HeldPath) : Type 0 where
  pub inside : p.segment + p.segment_len ≤ length t

-- the struct for the path p, with a name of n bytes at index i of a text; and for what was read
unfoldable pub held_as : ℕ → ℕ → Path → HeldPath
held_as i n p = record {
  segment = i;
  segment_len = n;
  segment_occurrence = p.occurrence;
  field = p.field;
  repetition = p.repetition;
  component = p.component;
  subcomponent = p.subcomponent;
}

unfoldable pub held_path : ℕ → ℕ → Option Path → Std.Option HeldPath
held_path i n none = Std.None
held_path i n (some p) = Std.Some (held_as i n p)
