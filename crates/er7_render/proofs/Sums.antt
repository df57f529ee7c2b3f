-- Laws of the lengths of leaves' texts, and of their sums. Assumes nothing.
use Rattle.std.proofs.Common.{◌≡◌, refl, List, ℕ, zero, suc, ◌+◌, ◌-◌, ◌≤◌, ◌<◌, arith, add-zero}
use Rattle.text.proofs.Laws.{split}
use Rattle.er7_table.specs.declared.table.Leaf.{Leaf as HeldLeaf}
use Rattle.er7_table.specs.Table.{leaf_row}
use Rattle.er7_render.specs.Stored.{live_len, live_sum}

-- a leaf whose length and whose being there did not change
pub lens_kept : (held held' : List HeldLeaf) (j : ℕ) → (leaf_row held' j).gone ≡ (leaf_row held j).gone → (leaf_row held' j).len ≡ (leaf_row held j).len → live_len held' j ≡ live_len held j
unfolding live_len
lens_kept held held' j e q = rw (e, q)

pub sum_same : (held held' : List HeldLeaf) (i k : ℕ) → ((j : ℕ) → i ≤ j → j < i + k → live_len held' j ≡ live_len held j) → live_sum held' i k ≡ live_sum held i k
unfolding live_sum
sum_same held held' i zero h = refl
sum_same held held' i (suc k) h =
    rw (h i (omega arith) (omega arith), sum_same held held' (suc i) k (λ j a b. h j (omega arith) (omega arith)))

-- the first one, and the others
pub sum_step : (held : List HeldLeaf) (i e : ℕ) → i < e → live_sum held i (e - i) ≡ live_len held i + live_sum held (suc i) (e - suc i)
sum_step held i e h = let n : e - i ≡ suc (e - suc i) = omega arith in rw n (unfold live_sum in refl)

pub sum_append : (held : List HeldLeaf) (i a b : ℕ) → live_sum held i (a + b) ≡ live_sum held i a + live_sum held (i + a) b
unfolding live_sum
sum_append held i zero b = let e : 0 + b ≡ b = omega arith in rw (e, add-zero) (omega arith)
sum_append held i (suc a) b =
    let e : suc a + b ≡ suc (a + b) = omega arith in
    let f : i + suc a ≡ suc i + a = omega arith in
    rw (e, f) (omega (arith, sum_append held (suc i) a b))

-- of the leaves from leaf i to before leaf n: those before leaf e, and those from it on
pub sum_parts : (held : List HeldLeaf) (i e n : ℕ) → i ≤ e → e ≤ n → live_sum held i (n - i) ≡ live_sum held i (e - i) + live_sum held e (n - e)
sum_parts held i e n h l =
    let f : e - i + (n - e) ≡ n - i = omega arith in
    let g : i + (e - i) ≡ e = omega arith in
    rw (f, g) at (sum_append held i (e - i) (n - e))

-- each of them
pub sum_each : (held : List HeldLeaf) (i k j : ℕ) → i ≤ j → j < i + k → live_len held j ≤ live_sum held i k
unfolding live_sum
sum_each held i zero j h l = absurd (omega arith)
sum_each held i (suc k) j h l =
    split i j (λ a. omega (arith, sum_each held (suc i) k j a (omega arith))) (λ a. let e : j ≡ i = omega arith in rw e (omega arith))
