-- A node's leaves in the table of leaves, and its collapse. What the contracts of private functions cite; no public contract rests on it.
-- Assumes nothing: these are definitions.
use Rattle.std.specs.Prelude.{Bool, cond, not, ◌&&◌, List, [], ◌∷◌, ℕ, zero, suc, ◌+◌, ◌-◌, ◌≤◌, ◌<◌, length}
use Rattle.text.specs.Text.{Text}
use Rattle.message_model.specs.Value.{is_null}
use Rattle.run_model.specs.Redact.{Reach, is_nil}
use Rattle.er7_table.specs.declared.table.Leaf.{Leaf as HeldLeaf}
use Rattle.er7_table.specs.Table.{leaf_row, place_at}
use Rattle.er7_render.specs.Stored.{live_len}
use Rattle.redact_6_row.specs.Reach.{starts_at}
use Rattle.redact_5_act.specs.Known.{GoodKnown}
use Rattle.redact_5_act.specs.declared.state.Counters.{Counters}
use Rattle.redact_4_leaf.specs.State.{text_in}
use Rattle.refusal.specs.Limits.{TEXT_MAX}
use Rattle.redact_5_act.specs.declared.known.Known.{Known as HeldKnown}

-- ---- the leaves of a node

-- leaf i has not vanished, and begins a node
unfoldable pub opens : Reach → List HeldLeaf → ℕ → Bool
opens r held i = not (leaf_row held i).gone && starts_at r (place_at held i)

-- the first of k leaves from leaf i on that does so, or the index behind them
unfoldable pub node_end : Reach → List HeldLeaf → ℕ → ℕ → ℕ
node_end r held i zero = i
node_end r held i (suc k) = cond (opens r held i) i (node_end r held (suc i) k)

-- the texts of k leaves from leaf i on, of those that have not vanished
unfoldable pub live_texts : List HeldLeaf → Text → ℕ → ℕ → List Text
live_texts held store i zero = []
live_texts held store i (suc k) =
    let more = live_texts held store (suc i) k in
    cond (leaf_row held i).gone more (text_in held store i ∷ more)

-- the bytes of leaf i with its delimiter, none if it has vanished; and those of k leaves from leaf i on
unfoldable pub leaf_size : List HeldLeaf → ℕ → ℕ
leaf_size held i = cond (leaf_row held i).gone 0 ((leaf_row held i).len + 1)

unfoldable pub leaves_size : List HeldLeaf → ℕ → ℕ → ℕ
leaves_size held i zero = 0
leaves_size held i (suc k) = leaf_size held i + leaves_size held (suc i) k

-- the text of leaf i may be learnt, unless it has vanished; so may those of the leaves from leaf i to before leaf `end`
pub record Learnable (held : List HeldLeaf) (bytes : Text) (known : List HeldKnown) (i : ℕ) (c : Counters) : Type 0 where
  pub row : i < length held
  pub inside : (leaf_row held i).start + (leaf_row held i).len ≤ 98304
  pub short : live_len held i ≤ TEXT_MAX
  pub good : GoodKnown bytes known c.known c.known_used

pub record AllLearnable (held : List HeldLeaf) (first end : ℕ) : Type 0 where
  pub order : first ≤ end
  pub rows : end ≤ length held
  pub inside : (i : ℕ) → i < end → (leaf_row held i).start + (leaf_row held i).len ≤ 98304
  pub short : (i : ℕ) → first ≤ i → i < end → live_len held i ≤ TEXT_MAX

-- ---- the collapse

-- "a node that is already that is left": the node of leaf i, which ends before leaf e, is one null leaf
unfoldable pub already : List HeldLeaf → Text → ℕ → ℕ → Bool
already held store i e = is_null (text_in held store i) && is_nil (live_texts held store (suc i) (e - suc i))
