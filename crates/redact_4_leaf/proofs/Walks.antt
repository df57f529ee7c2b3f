-- Laws of a pass under way. Assumes nothing.
use mathlib.Core.Path.{◌≡◌, refl, sym, ap, ◌∙◌}
use mathlib.Core.Bool.{Bool}
use mathlib.Core.List.{List, [], ◌∷◌, ◌++◌, append_assoc, append-nil}
use Prim.Native.Nat.{ℕ, suc, ◌+◌, ◌-◌, ◌≤◌, ◌<◌}
use native.Mathlib.Nat.{sub_self, zero-add}
use native.Mathlib.Omega.{arith}
use Rattle.refusal.specs.declared.Refusal.{Refusal}
use Rattle.message_model.specs.Message.{Leaf, Label, segment}
use Rattle.run_model.specs.Redact.{Event, Progress, stopped, after_event, after_events, over_leaves, over_segments, leaves_events, segments_events}
use Rattle.er7_table.specs.Table.{list_of}
use Rattle.er7_table.proofs.Laws.{list_snoc, list_ext}
use Rattle.redact_4_leaf.specs.Walk.{Pass, LeavesTo, LeafDone, SegmentDone, segment_of, SegmentsTo, AllDone}

pub progress_append : (sweep : Bool) (es fs : List Event) (b : Progress) → after_events sweep (es ++ fs) b ≡ after_events sweep fs (after_events sweep es b)
unfolding after_events
progress_append sweep [] fs b = refl
progress_append sweep (e ∷ es) fs b = progress_append sweep es fs _

pub stopped_stays : (sweep : Bool) (es : List Event) (e : Refusal) → after_events sweep es (stopped e) ≡ stopped e
unfolding after_events after_event
stopped_stays sweep [] e = refl
stopped_stays sweep (x ∷ es) e = stopped_stays sweep es e

-- the first of a list, and the last
pub list_step : {A : Type 0} (f : ℕ → A) (i e : ℕ) → i < e → list_of f i (e - i) ≡ f i ∷ list_of f (suc i) (e - suc i)
list_step f i e h = let n : e - i ≡ suc (e - suc i) = omega arith in rw n (unfold list_of in refl)

list_last : {A : Type 0} (f : ℕ → A) (a i : ℕ) → a ≤ i → list_of f a (suc i - a) ≡ list_of f a (i - a) ++ (f i ∷ [])
list_last f a i h =
    let n : suc i - a ≡ suc (i - a) = omega arith in
    let m : a + (i - a) ≡ i = omega arith in
    rw n (list_snoc f a (i - a) ∙ ap (λ k. list_of f a (i - a) ++ (f k ∷ [])) m)

module _ (P : Pass) (sweep : Bool) (g : Label) (n first end : ℕ) where
  pub leaves_start : (f : ℕ → Leaf) (b : Progress) → first ≤ end → LeavesTo P sweep g n first end first f f b b
  leaves_start f b h = record {
    low = omega arith;
    high = h;
    ahead = λ j l k. refl;
    before = λ j l. refl;
    done = rw (sub_self first) (unfold list_of in refl);
    progress = refl;
  }

  module _ (l : end ≤ n) {i : ℕ} {f₀ f f' : ℕ → Leaf} {b₀ b b' : Progress} (w : LeavesTo P sweep g n first end i f₀ f b₀ b) (h : i < end)
      (d : LeafDone P sweep g n end i f f' b b') where
    rest_same : list_of f (suc i) (end - suc i) ≡ list_of f₀ (suc i) (end - suc i)
    rest_same = list_ext f f₀ (suc i) (end - suc i) (λ k a c. w.ahead k (omega arith) (omega arith))

    here_same : f i ≡ f₀ i
    here_same = w.ahead i (omega arith) (omega arith)

    front_same : list_of f' first (i - first) ≡ list_of f first (i - first)
    front_same = list_ext f' f first (i - first) (λ k a c. d.other k (omega (arith, w.low)) (λ e. omega (arith, w.low)))

    pub leaves_more : LeavesTo P sweep g n first end (suc i) f₀ f' b₀ b'
    leaves_more = record {
      low = omega (arith, w.low);
      high = omega arith;
      ahead = λ j a c. d.other j c (λ e. omega arith) ∙ w.ahead j (omega arith) c;
      before = λ j a. d.other j (omega (arith, w.low)) (λ e. omega (arith, w.low)) ∙ w.before j a;
      done =
          rw (list_last f' first i w.low, front_same, d.here, rest_same, here_same, append_assoc)
          (sym (ap (λ xs. list_of f first (i - first) ++ over_leaves P.leaf g xs) (list_step f₀ i end h)) ∙ w.done);
      progress =
          sym (ap (after_events sweep (leaves_events P.says g (list_of f₀ (suc i) (end - suc i)))) d.progress)
          ∙ rw (rest_same, here_same)
          (sym (progress_append sweep (P.says g (f₀ i) (list_of f₀ (suc i) (end - suc i))) (leaves_events P.says g (list_of f₀ (suc i) (end - suc i))) b)
          ∙ sym (ap (λ xs. after_events sweep (leaves_events P.says g xs) b) (list_step f₀ i end h)) ∙ w.progress);
    }

  -- a leaf at which the run is refused
  pub leaves_stop : end ≤ n → {i : ℕ} {f₀ f : ℕ → Leaf} {b₀ b : Progress} → LeavesTo P sweep g n first end i f₀ f b₀ b → i < end → (e : Refusal)
      → after_events sweep (P.says g (f i) (list_of f (suc i) (end - suc i))) b ≡ stopped e
      → after_events sweep (leaves_events P.says g (list_of f₀ first (end - first))) b₀ ≡ stopped e
  leaves_stop l {i} {f₀} {f} {b₀} {b} w h e q =
      let rest = list_ext f f₀ (suc i) (end - suc i) (λ k a c. w.ahead k (omega arith) (omega arith)) in
      let here = w.ahead i (omega arith) (omega arith) in
      sym w.progress
      ∙ ap (λ xs. after_events sweep (leaves_events P.says g xs) b) (list_step f₀ i end h)
      ∙ progress_append sweep (P.says g (f₀ i) (list_of f₀ (suc i) (end - suc i))) (leaves_events P.says g (list_of f₀ (suc i) (end - suc i))) b
      ∙ ap (after_events sweep (leaves_events P.says g (list_of f₀ (suc i) (end - suc i)))) (sym (rw (rest, here)) ∙ q)
      ∙ stopped_stays sweep (leaves_events P.says g (list_of f₀ (suc i) (end - suc i))) e

  pub leaves_end : {i : ℕ} {f₀ f : ℕ → Leaf} {b₀ b : Progress} → LeavesTo P sweep g n first end i f₀ f b₀ b → end ≤ i → SegmentDone P sweep g n first end f₀ f b₀ b
  leaves_end {i} {f₀} {f} {b₀} {b} w h =
      let e : i ≡ end = omega (arith, w.high) in
      let z : end - end ≡ 0 = omega arith in
      let none : list_of f₀ i (end - i) ≡ [] = rw (e, z) (unfold list_of in refl) in
      record {
        here = sym (append-nil (list_of f first (end - first))) ∙ ended e none;
        before = w.before;
        behind = λ j a c. w.ahead j (omega arith) c;
        progress = sym w.progress ∙ rw none (unfold after_events in refl);
      }
    where
      ended : i ≡ end → list_of f₀ i (end - i) ≡ [] → list_of f first (end - first) ++ [] ≡ over_leaves P.leaf g (list_of f₀ first (end - first))
      ended e q = sym (ap (λ k. list_of f first (k - first) ++ []) e) ∙ sym (ap (λ xs. list_of f first (i - first) ++ over_leaves P.leaf g xs) q) ∙ w.done

-- ---- segments

module _ (P : Pass) (sweep : Bool) (labels : ℕ → Label) (firsts : ℕ → ℕ) (n m : ℕ) where
  pub segments_start : (f : ℕ → Leaf) (b : Progress) → SegmentsTo P sweep labels firsts n m 0 f f b b
  segments_start f b = let z : m - 0 ≡ m = omega arith in record {
    high = omega arith;
    ahead = λ j l k. refl;
    done = rw z (unfold list_of in refl);
    progress = rw z;
  }

  module _ (up : (i j : ℕ) → i ≤ j → j ≤ m → firsts i ≤ firsts j) (all : firsts m ≡ n) {k : ℕ} {f₀ f f' : ℕ → Leaf} {b₀ b b' : Progress}
      (w : SegmentsTo P sweep labels firsts n m k f₀ f b₀ b) (h : k < m)
      (d : SegmentDone P sweep (labels k) n (firsts k) (firsts (suc k)) f f' b b') where
    own_same : list_of f (firsts k) (firsts (suc k) - firsts k) ≡ list_of f₀ (firsts k) (firsts (suc k) - firsts k)
    own_same = list_ext f f₀ (firsts k) (firsts (suc k) - firsts k) (λ j a c. w.ahead j a (omega (arith, up k (suc k) (omega arith) (omega arith), up (suc k) m (omega arith) (omega arith), all)))

    front_segments : list_of (segment_of labels firsts f') 0 k ≡ list_of (segment_of labels firsts f) 0 k
    unfolding segment_of
    front_segments = list_ext (segment_of labels firsts f') (segment_of labels firsts f) 0 k (λ j a c.
        ap (segment (labels j)) (list_ext f' f (firsts j) (firsts (suc j) - firsts j) (λ i x y. d.before i (omega (arith, up (suc j) k (omega arith) (omega arith), up j (suc j) (omega arith) (omega arith))))))

    this_segment : segment_of labels firsts f' k ≡ segment (labels k) (over_leaves P.leaf (labels k) (list_of f₀ (firsts k) (firsts (suc k) - firsts k)))
    unfolding segment_of
    this_segment = ap (segment (labels k)) (d.here ∙ ap (over_leaves P.leaf (labels k)) own_same)

    pub segments_more : SegmentsTo P sweep labels firsts n m (suc k) f₀ f' b₀ b'
    unfolding segment_of
    segments_more = record {
      high = omega arith;
      ahead = λ j a c. d.behind j a c ∙ w.ahead j (omega (arith, up k (suc k) (omega arith) (omega arith))) c;
      done =
          rw (list_snoc (segment_of labels firsts f') 0 k, front_segments, zero-add k, this_segment, append_assoc)
          (sym (ap (λ xs. list_of (segment_of labels firsts f) 0 k ++ over_segments P.leaf xs) (list_step (segment_of labels firsts f₀) k m h))
          ∙ w.done);
      progress =
          sym (ap (after_events sweep (segments_events P.says (list_of (segment_of labels firsts f₀) (suc k) (m - suc k)))) d.progress)
          ∙ rw own_same
          (sym (progress_append sweep (leaves_events P.says (labels k) (list_of f₀ (firsts k) (firsts (suc k) - firsts k))) (segments_events P.says (list_of (segment_of labels firsts f₀) (suc k) (m - suc k))) b)
          ∙ sym (ap (λ xs. after_events sweep (segments_events P.says xs) b) (list_step (segment_of labels firsts f₀) k m h)) ∙ w.progress);
    }

  pub segments_end : {k : ℕ} {f₀ f : ℕ → Leaf} {b₀ b : Progress} → SegmentsTo P sweep labels firsts n m k f₀ f b₀ b → m ≤ k → AllDone P sweep labels firsts m f₀ f b₀ b
  segments_end {k} {f₀} {f} {b₀} {b} w h =
      let e : k ≡ m = omega (arith, w.high) in
      let z : m - m ≡ 0 = omega arith in
      let none : list_of (segment_of labels firsts f₀) k (m - k) ≡ [] = rw (e, z) (unfold list_of in refl) in
      record {
        here = sym (append-nil (list_of (segment_of labels firsts f) 0 m)) ∙ ended e none;
        progress = sym w.progress ∙ rw none (unfold after_events in refl);
      }
    where
      ended : k ≡ m → list_of (segment_of labels firsts f₀) k (m - k) ≡ [] → list_of (segment_of labels firsts f) 0 m ++ [] ≡ over_segments P.leaf (list_of (segment_of labels firsts f₀) 0 m)
      ended e q =
          sym (ap (λ i. list_of (segment_of labels firsts f) 0 i ++ []) e)
          ∙ sym (ap (λ xs. list_of (segment_of labels firsts f) 0 k ++ over_segments P.leaf xs) q) ∙ w.done
