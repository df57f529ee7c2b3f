-- The five delimiters of a message. Assumes nothing.
use mathlib.Core.Path.{◌≡◌, sym, ap, ap₂, ◌∙◌}
use mathlib.Core.Bool.{true, false, not}
use mathlib.Core.List.{[], ◌∷◌}
use mathlib.Core.Option.{none}
use Prim.Native.Nat.{ℕ}
use borrow.Author.Tests.{ne_eqb, not-true}
use lib.Dec.{eqb}
use lib.ListN.{get_or}
use Rattle.text.specs.Text.{Text}
use Rattle.text.proofs.Laws.{and_left, and_right, clash}
use Rattle.er7.specs.declared.separators.Separators.{Separators}
use Rattle.message_model.specs.Message.{may_delimit, absent, may_delimit_all, separators_of, message_fault, message_of}
use Rattle.message_model.proofs.Faultless.{three, HeaderLine, header_line, faultless, separators_are}

-- ---- the same MSH-1 and MSH-2 name the same delimiters

abbrev delimiters_in : Text → Text → Separators
delimiters_in a b =
    record { field = get_or a 0 0; component = get_or b 0 0; repetition = get_or b 1 0; escape = get_or b 2 0; subcomponent = get_or b 3 0 }

pub separators_same : (s s' : Separators) → (s.field ∷ []) ≡ (s'.field ∷ [])
    → (s.component ∷ s.repetition ∷ s.escape ∷ s.subcomponent ∷ []) ≡ (s'.component ∷ s'.repetition ∷ s'.escape ∷ s'.subcomponent ∷ [])
    → s ≡ s'
separators_same s s' e f = ap₂ delimiters_in e f

-- ---- five different bytes, each of which may delimit

pub record GoodSeparators (s : Separators) : Type 0 where
  pub field : may_delimit s.field ≡ true
  pub component : may_delimit s.component ≡ true
  pub repetition : may_delimit s.repetition ≡ true
  pub escape : may_delimit s.escape ≡ true
  pub subcomponent : may_delimit s.subcomponent ≡ true
  pub field_component : eqb s.field s.component ≡ false
  pub field_repetition : eqb s.field s.repetition ≡ false
  pub field_escape : eqb s.field s.escape ≡ false
  pub field_subcomponent : eqb s.field s.subcomponent ≡ false
  pub component_repetition : eqb s.component s.repetition ≡ false
  pub component_escape : eqb s.component s.escape ≡ false
  pub component_subcomponent : eqb s.component s.subcomponent ≡ false
  pub repetition_escape : eqb s.repetition s.escape ≡ false
  pub repetition_subcomponent : eqb s.repetition s.subcomponent ≡ false
  pub escape_subcomponent : eqb s.escape s.subcomponent ≡ false

first_may : (x : ℕ) (xs : Text) → may_delimit_all (x ∷ xs) ≡ true → (may_delimit x ≡ true) × (absent x xs ≡ true) × (may_delimit_all xs ≡ true)
unfolding may_delimit_all
first_may x xs e = three (may_delimit x) (absent x xs) (may_delimit_all xs) e

first_differs : (x y : ℕ) (ys : Text) → absent x (y ∷ ys) ≡ true → (eqb x y ≡ false) × (absent x ys ≡ true)
unfolding absent
first_differs x y ys e = (not-true _ (and_left _ _ e), and_right (not (eqb x y)) _ e)

-- the five in the order of the header
all_good : (s : Separators) → may_delimit_all (s.field ∷ s.component ∷ s.repetition ∷ s.escape ∷ s.subcomponent ∷ []) ≡ true
    → GoodSeparators s
all_good s e =
    let f = first_may s.field _ e in
    let c = first_may s.component _ f.2 in
    let r = first_may s.repetition _ c.2 in
    let x = first_may s.escape _ r.2 in
    let b = first_may s.subcomponent _ x.2 in
    let fc = first_differs s.field s.component _ f.1 in
    let fr = first_differs s.field s.repetition _ fc.1 in
    let fx = first_differs s.field s.escape _ fr.1 in
    let fb = first_differs s.field s.subcomponent _ fx.1 in
    let cr = first_differs s.component s.repetition _ c.1 in
    let cx = first_differs s.component s.escape _ cr.1 in
    let cb = first_differs s.component s.subcomponent _ cx.1 in
    let rx = first_differs s.repetition s.escape _ r.1 in
    let rb = first_differs s.repetition s.subcomponent _ rx.1 in
    let xb = first_differs s.escape s.subcomponent _ x.1 in
    record {
      field = f.0;
      component = c.0;
      repetition = r.0;
      escape = x.0;
      subcomponent = b.0;
      field_component = fc.0;
      field_repetition = fr.0;
      field_escape = fx.0;
      field_subcomponent = fb.0;
      component_repetition = cr.0;
      component_escape = cx.0;
      component_subcomponent = cb.0;
      repetition_escape = rx.0;
      repetition_subcomponent = rb.0;
      escape_subcomponent = xb.0;
    }

header_good : (l : Text) → HeaderLine l → GoodSeparators (separators_of l)
unfolding separators_of
header_good l h = all_good (separators_of l) h.delimit

pub good_separators : (x : ℕ) (t : Text) → message_fault (x ∷ t) ≡ none → GoodSeparators (message_of (x ∷ t)).separators
good_separators x t e =
    let f = faultless x t e in
    rw (separators_are (x ∷ t) f) (header_good f.line (header_line f.line f.header))

-- ---- a byte that is none of the five

pub record NoDelimiter (s : Separators) (x : ℕ) : Type 0 where
  pub field : eqb x s.field ≡ false
  pub component : eqb x s.component ≡ false
  pub repetition : eqb x s.repetition ≡ false
  pub escape : eqb x s.escape ≡ false
  pub subcomponent : eqb x s.subcomponent ≡ false

may_differ : (x b : ℕ) → may_delimit x ≡ false → may_delimit b ≡ true → eqb x b ≡ false
may_differ x b n m = ne_eqb x b (λ e. clash (sym m ∙ ap may_delimit (sym e) ∙ n))

pub no_delimiter : (s : Separators) → GoodSeparators s → (x : ℕ) → may_delimit x ≡ false → NoDelimiter s x
no_delimiter s g x n = record {
  field = may_differ x s.field n g.field;
  component = may_differ x s.component n g.component;
  repetition = may_differ x s.repetition n g.repetition;
  escape = may_differ x s.escape n g.escape;
  subcomponent = may_differ x s.subcomponent n g.subcomponent;
}
