-- Laws of leaves that are learnt one after the other. Assumes nothing.
use Rattle.std.proofs.Common.{◌≡◌, refl, sym, ◌∙◌, Bool, true, false, ◌||◌, List, [], ◌∷◌, ◌++◌, ℕ, zero, suc, ◌+◌, ◌-◌, ◌≤◌, ◌<◌, eqb, ltb, length, replicate, arith, Result, Ok, Err}
use Rattle.std.proofs.lemmas.List.{length-replicate}
use borrow.Author.Tests.{eqb-true, eqb-false}
use Rattle.text.specs.Text.{Text, lower}
use Rattle.er7.specs.declared.separators.Separators.{Separators}
use Rattle.er7_redact.specs.declared.action.Action.{Action as HeldAction}
use Rattle.er7_redact.specs.declared.action.Action.TheVariants as Held
use Rattle.er7_redact.specs.Action.{Action, is_keep, as_action, ActionHeld}
use Rattle.refusal.specs.declared.Refusal.{Refusal}
use Rattle.message_model.specs.Value.{is_empty_or_null, value}
use Rattle.run_model.specs.Redact.{Event, learning, after_events}
use Rattle.er7_table.specs.declared.table.Leaf.{Leaf as HeldLeaf}
use Rattle.er7_table.specs.Table.{leaf_row}
use Rattle.redact_5_act.specs.Known.{action_at, GoodKnown, ActionsHeld}
use Rattle.redact_5_act.specs.declared.state.Counters.{Counters}
use Rattle.refusal.specs.declared.Refusal.{Refusal}
use Rattle.redact_4_leaf.specs.State.{text_in, KnownHeld, LearntTo, Learning, Readable}
use Rattle.redact_4_leaf.proofs.Acting.{live_length}
use Rattle.redact_4_leaf.proofs.Rules.{learnt_going, learnt_stopped}
use Rattle.redact_4_leaf.proofs.Walks.{progress_append, stopped_stays}
use Rattle.redact_3_node.specs.Node.{live_texts, Learnable, AllLearnable}
use Rattle.redact_3_node.proofs.Nodes.{by_bool, live_append}
use Rattle.redact_5_act.specs.declared.known.Known.{Known as HeldKnown}

-- ---- one list of texts behind another

pub learning_append : (s : Separators) (a : Action) (ts us : List Text) → learning s a (ts ++ us) ≡ learning s a ts ++ learning s a us
unfolding learning
learning_append s a [] us = refl
learning_append s a (t ∷ ts) us =
    by_bool (is_keep a || is_empty_or_null t || ltb (length (lower (value s t))) 3)
    (λ e. rw e (learning_append s a ts us))
    (λ e. rw (e, learning_append s a ts us))

module _ {es : List Event} {sweep : Bool} {text bytes bytes' : Text} {known known' : List HeldKnown} {c c' : Counters} (l : LearntTo es sweep text bytes known c bytes' known' c') where
  learnt_then : {fs : List Event} {bytes'' : Text} {known'' : List HeldKnown} {c'' : Counters} → LearntTo fs sweep text bytes' known' c' bytes'' known'' c''
      → LearntTo (es ++ fs) sweep text bytes known c bytes'' known'' c''
  learnt_then {fs} m = record {
    rows = m.rows ∙ l.rows;
    report = m.report ∙ l.report;
    size = m.size ∙ l.size;
    used = m.used ∙ l.used;
    held = m.held;
    progress = λ report b k. rw (progress_append sweep es fs b) (m.progress report (after_events sweep es b) (l.progress report b k));
  }

  learnt_stop : {fs : List Event} (gs : List Event) {bytes'' : Text} {known'' : List HeldKnown} {e : Refusal} → Learning fs sweep text bytes' known' c' bytes'' known'' (Err e)
      → Learning (es ++ (fs ++ gs)) sweep text bytes known c bytes'' known'' (Err e)
  learnt_stop {fs} gs {e = e} m = record {
    out = λ report b k.
        rw (progress_append sweep es (fs ++ gs) b, progress_append sweep fs gs (after_events sweep es b), m.out report (after_events sweep es b) (l.progress report b k))
        (stopped_stays sweep gs e);
  }

-- ---- a text that holds the replacements

-- how long it must be for an action, and for those of n rows
abbrev asks : HeldAction → ℕ
asks Held.Keep = 0
asks Held.Clear = 0
asks Held.Null = 0
asks (Held.Replace i n) = i + n
asks (Held.Mask c) = 0
asks (Held.First n) = 0
asks (Held.Last n) = 0
asks Held.Pseudonym = 0
asks (Held.Shift n) = 0

abbrev all_ask : List HeldKnown → ℕ → ℕ
all_ask known zero = 0
all_ask known (suc n) = asks (action_at known n) + all_ask known n

ask_held : (a : HeldAction) (t : Text) → asks a ≤ length t → ActionHeld t a
ask_held Held.Keep t h = tt
ask_held Held.Clear t h = tt
ask_held Held.Null t h = tt
ask_held (Held.Replace i n) t h = h
ask_held (Held.Mask c) t h = tt
ask_held (Held.First n) t h = tt
ask_held (Held.Last n) t h = tt
ask_held Held.Pseudonym t h = tt
ask_held (Held.Shift n) t h = tt

ask_row : (known : List HeldKnown) (n i : ℕ) → i < n → asks (action_at known i) ≤ all_ask known n
ask_row known zero i h = absurd (omega arith)
ask_row known (suc n) i h = by_bool (eqb i n)
    (λ e. rw (eqb-true i n e) (omega arith))
    (λ e. omega (arith, ask_row known n i (omega (arith, eqb-false i n e))))

unfoldable long_enough : HeldAction → List HeldKnown → ℕ → Text
long_enough a known n = replicate (asks a + all_ask known n) 0

long_held : (a : HeldAction) (known : List HeldKnown) (n : ℕ) → ActionHeld (long_enough a known n) a
unfolding long_enough
long_held a known n = ask_held a _ (rw (length-replicate {A = ℕ} (asks a + all_ask known n) 0) (omega arith))

long_all : (a : HeldAction) (known : List HeldKnown) (n : ℕ) → ActionsHeld (long_enough a known n) known n
unfolding long_enough
long_all a known n = record { held = λ i h. ask_held (action_at known i) _ (rw (length-replicate {A = ℕ} (asks a + all_ask known n) 0) (omega (arith, ask_row known n i h))) }

-- ---- leaf by leaf

-- of the leaves from leaf `first` on, those before leaf i are learnt, whatever text holds the replacements
pub record LearntBefore (a : HeldAction) (s : Separators) (sweep : Bool) (first end : ℕ) (held : List HeldLeaf) (store bytes₀ : Text) (known₀ : List HeldKnown) (c₀ : Counters)
    (bytes : Text) (known : List HeldKnown) (c : Counters) (i : ℕ) : Type 0 where
  pub low : first ≤ i
  pub high : i ≤ end
  pub learnt : (text : Text) → ActionHeld text a → KnownHeld text bytes₀ known₀ c₀
      → LearntTo (learning s (as_action text a) (live_texts held store first (i - first))) sweep text bytes₀ known₀ c₀ bytes known c

learnt_none : (s : Separators) (a : Action) (sweep : Bool) (held : List HeldLeaf) (store : Text) (i : ℕ) {text bytes : Text} {known : List HeldKnown} {c : Counters}
    → KnownHeld text bytes known c → LearntTo (learning s a (live_texts held store i 0)) sweep text bytes known c bytes known c
unfolding live_texts learning after_events
learnt_none s a sweep held store i h = record { rows = refl; report = refl; size = refl; used = refl; held = h; progress = λ report b k. k }

pub before_start : {a : HeldAction} {s : Separators} {sweep : Bool} {first end : ℕ} {held : List HeldLeaf} {store bytes : Text} {known : List HeldKnown} {c : Counters}
    → first ≤ end → LearntBefore a s sweep first end held store bytes known c bytes known c first
before_start {a} {s} {sweep} {first} {held = held} {store = store} h = record {
  low = omega arith;
  high = h;
  learnt = λ text q k. let z : first - first ≡ 0 = omega arith in rw z (learnt_none s (as_action text a) sweep held store first k);
}

module _ {a : HeldAction} {s : Separators} {sweep : Bool} {first end : ℕ} {held : List HeldLeaf} {store bytes₀ : Text} {known₀ : List HeldKnown} {c₀ : Counters}
    {bytes : Text} {known : List HeldKnown} {c : Counters} {i : ℕ} (w : LearntBefore a s sweep first end held store bytes₀ known₀ c₀ bytes known c i) where
  pub before_good : GoodKnown bytes₀ known₀ c₀.known c₀.known_used → GoodKnown bytes known c.known c.known_used
  before_good g = (w.learnt (long_enough a known₀ c₀.known) (long_held a known₀ c₀.known) (record { good = g; held = long_all a known₀ c₀.known })).held.good

  -- the texts, with those of leaf i and those behind it
  texts_more : live_texts held store first (suc i - first) ≡ live_texts held store first (i - first) ++ live_texts held store i 1
  texts_more =
      let n : suc i - first ≡ i - first + 1 = omega (arith, w.low) in
      let m : first + (i - first) ≡ i = omega (arith, w.low) in
      rw n (live_append held store first (i - first) 1 ∙ rw m)

  texts_rest : i < end → live_texts held store first (end - first)
      ≡ live_texts held store first (i - first) ++ (live_texts held store i 1 ++ live_texts held store (i + 1) (end - suc i))
  texts_rest h =
      let n : end - first ≡ i - first + (1 + (end - suc i)) = omega (arith, w.low) in
      let m : first + (i - first) ≡ i = omega (arith, w.low) in
      rw n (live_append held store first (i - first) (1 + (end - suc i)) ∙ rw (m, live_append held store i 1 (end - suc i)))

  -- leaf i is learnt
  pub before_more : {bytes' : Text} {known' : List HeldKnown} {c' : Counters} {r : Result Counters Refusal} → i < end
      → ((text : Text) → ActionHeld text a → KnownHeld text bytes known c → Learning (learning s (as_action text a) (live_texts held store i 1)) sweep text bytes known c bytes' known' r)
      → r ≡ Ok c' → LearntBefore a s sweep first end held store bytes₀ known₀ c₀ bytes' known' c' (i + 1)
  before_more {bytes'} {known'} {c'} h l e = record {
    low = omega (arith, w.low);
    high = omega arith;
    learnt = λ text q k.
        let n : i + 1 ≡ suc i = omega arith in
        let x = w.learnt text q k in
        rw (n, texts_more, learning_append s (as_action text a) (live_texts held store first (i - first)) (live_texts held store i 1)) (learnt_then x (learnt_going (l text q x.held) e));
  }

  -- or the run is refused there
  pub before_stop : {bytes' : Text} {known' : List HeldKnown} {r : Result Counters Refusal} {f : Refusal} → i < end
      → ((text : Text) → ActionHeld text a → KnownHeld text bytes known c → Learning (learning s (as_action text a) (live_texts held store i 1)) sweep text bytes known c bytes' known' r)
      → r ≡ Err f → (text : Text) → ActionHeld text a → KnownHeld text bytes₀ known₀ c₀
      → Learning (learning s (as_action text a) (live_texts held store first (end - first))) sweep text bytes₀ known₀ c₀ bytes' known' (Err f)
  before_stop {bytes'} {known'} {f = f} h l e text q k =
      let x = w.learnt text q k in
      let t : learning s (as_action text a) (live_texts held store first (end - first))
      ≡ learning s (as_action text a) (live_texts held store first (i - first))
      ++ (learning s (as_action text a) (live_texts held store i 1) ++ learning s (as_action text a) (live_texts held store (i + 1) (end - suc i))) =
      rw (texts_rest h, learning_append s (as_action text a) (live_texts held store first (i - first)) (live_texts held store i 1 ++ live_texts held store (i + 1) (end - suc i)), learning_append s (as_action text a) (live_texts held store i 1) (live_texts held store (i + 1) (end - suc i))) in
      rw t (learnt_stop x (learning s (as_action text a) (live_texts held store (i + 1) (end - suc i))) (learnt_stopped (l text q x.held) e))

  -- all are learnt
  pub before_end : end ≤ i → (text : Text) → ActionHeld text a → KnownHeld text bytes₀ known₀ c₀
      → Learning (learning s (as_action text a) (live_texts held store first (end - first))) sweep text bytes₀ known₀ c₀ bytes known (Ok c)
  before_end h text q k = let e : end ≡ i = omega (arith, w.high) in record { out = rw e (w.learnt text q k) }

-- ---- one leaf

module _ (held : List HeldLeaf) (store : Text) (i : ℕ) where
  pub one_gone : (s : Separators) (a : Action) (sweep : Bool) {text bytes : Text} {known : List HeldKnown} {c : Counters} → (leaf_row held i).gone ≡ true → KnownHeld text bytes known c
      → Learning (learning s a (live_texts held store i 1)) sweep text bytes known c bytes known (Ok c)
  one_gone s a sweep e h = record { out = rw (none_one e) (learnt_none s a sweep held store (suc i) h) }
    where
      none_one : (leaf_row held i).gone ≡ true → live_texts held store i 1 ≡ live_texts held store (suc i) 0
      none_one e = unfold live_texts in rw e

  pub one_live : (leaf_row held i).gone ≡ false → text_in held store i ∷ [] ≡ live_texts held store i 1
  unfolding live_texts
  one_live e = sym (rw e)

pub one_readable : {held : List HeldLeaf} {bytes : Text} {known : List HeldKnown} {i : ℕ} {c : Counters} → Learnable held bytes known i c → (leaf_row held i).gone ≡ false → Readable held bytes known i c
one_readable {held} {i = i} l e = record { row = l.row; inside = l.inside; short = rw (live_length held i e) at l.short; good = l.good }

pub all_learnable : {held : List HeldLeaf} {bytes : Text} {known : List HeldKnown} {first end i : ℕ} {c : Counters} → AllLearnable held first end → first ≤ i → i < end
    → GoodKnown bytes known c.known c.known_used → Learnable held bytes known i c
all_learnable l h k g = record { row = omega (arith, l.rows); inside = l.inside _ k; short = l.short _ h k; good = g }
