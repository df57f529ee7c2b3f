-- Laws of the turns of a run, one behind the other. Assumes nothing.
use Rattle.std.proofs.Common.{le_refl, ◌≡◌, refl, sym, ◌∙◌, Bool, true, false, cond, List, [], ◌∷◌, ◌++◌, ℕ, ◌+◌, ◌≤◌, ◌<◌, eqb, eqb-true, length, get_or, arith, ◌≢◌, Result, Ok, Err}
use Rattle.std.specs.Prelude.{⊤}
use Rattle.std.specs.Result.{result_and}
use Rattle.std.proofs.Math.Option.{Option, none}
use Rattle.text.specs.Text.{Text}
use Rattle.refusal.specs.declared.Refusal.{Refusal}
use Rattle.er7.specs.declared.separators.Separators.{Separators}
use Rattle.er7.specs.Path.{PathHeld}
use Rattle.er7_redact.specs.Action.{Action, ActionHeld}
use Rattle.er7_redact.specs.Policy.{as_rule}
use Rattle.er7_redact.specs.declared.policy.Rule.{Rule as HeldRule}
use Rattle.message_model.specs.Message.{Leaf, leaf, Label, Segment, segment}
use Rattle.message_model.specs.Value.{is_empty_or_null}
use Rattle.policy_model.specs.Policy.{Policy}
use Rattle.policy.specs.Policy.{as_rules, as_policy, PolicyHeld}
use Rattle.policy.specs.Line.{PostureHeld}
use Rattle.policy.specs.declared.policy.Policy.{Policy as HeldPolicy}
use Rattle.er7_table.specs.declared.table.Segment.{Segment as HeldSegment}
use Rattle.run_model.specs.Redact.{Progress, stopped, after_events, over_segments, segments_events, longest_found, action_in, for_sweep}
use Rattle.run_model.proofs.Chains.{cond_both}
use Rattle.redact_5_act.specs.Known.{known_from}
use Rattle.redact_5_act.specs.State.{after_step}
use Rattle.redact_5_act.specs.declared.state.Setting.{Setting}
use Rattle.redact_5_act.specs.declared.state.Counters.{Counters}
use Rattle.redact_4_leaf.specs.Walk.{Pass}
use Rattle.redact_4_leaf.specs.State.{Buffers, knowing, known_now}
use Rattle.redact_4_leaf.specs.Visit.{unnamed_pass}
use Rattle.redact_4_leaf.proofs.Walks.{stopped_stays}
use Rattle.redact_2_turn.specs.Turn.{pass_of, TurnHeld}
use Rattle.redact_2_turn.specs.Taken.{TurnTaken}
use Rattle.redact_2_turn.specs.declared.turn.Turn.{Turn}
use Rattle.redact_2_turn.specs.declared.turn.Turn.TheVariants.{Sweep, Idle}
use Rattle.redact_2_turn.proofs.Still.{Still, unpicked}
use Rattle.redact_2_turn.proofs.Turns.{leaves_same, leaves_silent}
use Rattle.redact_1_run.specs.Turns.{Task, tasks_of, ruled, judged, swept, pass_for, segments_by, progress_by, after_tasks, progress_tasks, RuleTurn, PostureTurn, turn_of_sweep}
use Rattle.redact_1_run.specs.Stage.{Stage, Stands, TurnReady, Begun, Inputs}
use Rattle.redact_1_run.proofs.Stages.{turn_sound, progress_knows, stands_next, stage_turn_ready, stands_later}
use Rattle.redact_1_run.proofs.Tasks.{tasks_progress, next_pass, task_after, task_progress, rules_to, all_rules, rules_more, left, rules_left, rules_ended, posture_left}
use Rattle.redact_5_act.specs.declared.known.Known.{Known as HeldKnown}

-- ---- passes that do the same

pub record Alike (Q W : Pass) (ss : List Segment) : Type 0 where
  pub leaf : over_segments Q.leaf ss ≡ over_segments W.leaf ss
  pub says : segments_events Q.says ss ≡ segments_events W.says ss

alike_eq : {Q W : Pass} {ss : List Segment} → Q ≡ W → Alike Q W ss
alike_eq e = record { leaf = rw e; says = rw e }

-- a pass that leaves every leaf and says nothing
module _ (Q : Pass) (still : (g : Label) (x : Leaf) (xs : List Leaf) → Still Q g x xs) where
  segments_same : (ss : List Segment) → over_segments Q.leaf ss ≡ ss
  segments_same [] = refl
  segments_same (segment g xs ∷ ss) = rw (leaves_same Q g (still g) xs, segments_same ss)

  segments_silent : (ss : List Segment) → segments_events Q.says ss ≡ []
  segments_silent [] = refl
  segments_silent (segment g xs ∷ ss) = rw (leaves_silent Q g (still g) xs, segments_silent ss)

-- .. since it has no action for any text
none_still : (key : ℕ) (s : Separators) (pick : Text → Option Action) → ((t : Text) → pick t ≡ none) → (g : Label) (x : Leaf) (xs : List Leaf) → Still (unnamed_pass key s pick) g x xs
none_still key s pick f g (leaf p b o) xs = unpicked key s pick g p b o xs (λ t e. f t)

none_found : (s : Separators) (t : Text) → for_sweep s [] t ≡ none
unfolding for_sweep longest_found action_in
none_found s t = cond_both (is_empty_or_null t) none

idle_alike : (key : ℕ) (s : Separators) (ss : List Segment) → Alike (unnamed_pass key s (λ t. none)) (unnamed_pass key s (for_sweep s [])) ss
idle_alike key s ss =
    let a = none_still key s (λ t. none) (λ t. refl) in
    let b = none_still key s (for_sweep s []) (none_found s) in
    record {
      leaf = segments_same (unnamed_pass key s (λ t. none)) a ss ∙ sym (segments_same (unnamed_pass key s (for_sweep s [])) b ss);
      says = segments_silent (unnamed_pass key s (λ t. none)) a ss ∙ sym (segments_silent (unnamed_pass key s (for_sweep s [])) b ss);
    }

none_known : (text bytes : Text) (known : List HeldKnown) (c : Counters) → c.known ≡ 0 → known_now text bytes known c ≡ []
unfolding known_now known_from
none_known text bytes known c e = rw e

-- ---- the turn of a task

module _ (key : ℕ) (s : Separators) (text : Text) (β : Buffers) (c : Counters) (ss : List Segment) where
  sweep_alike : {turn : Turn} → turn ≡ turn_of_sweep c.known → Alike (pass_of key s text (knowing text β c) turn) (unnamed_pass key s (for_sweep s (knowing text β c))) ss
  unfolding turn_of_sweep
  sweep_alike {turn} e = go (eqb c.known 0) refl e
    where
      go : (b : Bool) → eqb c.known 0 ≡ b → turn ≡ cond b Idle Sweep → Alike (pass_of key s text (knowing text β c) turn) (unnamed_pass key s (for_sweep s (knowing text β c))) ss
      go true q f = rw (f, none_known text β.bytes β.known c (eqb-true _ _ q)) (unfold pass_of in idle_alike key s ss)
      go false q f = alike_eq (rw f (unfold pass_of in refl))

sweep_held : (text : Text) (known : ℕ) → TurnHeld text (turn_of_sweep known)
unfolding turn_of_sweep
sweep_held text known = go (eqb known 0)
  where
    go : (b : Bool) → TurnHeld text (cond b Idle Sweep)
    go true = tt
    go false = tt

module _ (text : Text) (policy : HeldPolicy) where
  -- a turn names what lies in the policy's text, and does what the task asks where the counters c are
  pub record TurnFor (t : Task) (c : Counters) (turn : Turn) : Type 0 where
    pub held : TurnHeld text turn
    pub alike : (key : ℕ) (s : Separators) (β : Buffers) (ss : List Segment) → Alike (pass_of key s text (knowing text β c) turn) (pass_for key s (as_policy text policy) t (knowing text β c)) ss

  pub rule_for : {rule : HeldRule} {turn : Turn} {c : Counters} → PathHeld text rule.path → ActionHeld text rule.action → RuleTurn rule turn → TurnFor (ruled (as_rule text rule)) c turn
  rule_for p a t = record { held = t.held text p a; alike = λ key s β ss. alike_eq (t.pass key s text _ ∙ unfold pass_for in refl) }

  pub posture_for : {turn : Turn} {c : Counters} → PostureHeld text policy.posture → PostureTurn policy.posture turn → TurnFor judged c turn
  posture_for p t = record { held = t.held text p; alike = λ key s β ss. alike_eq (t.pass key s text _ ∙ unfold pass_for as_policy in refl) }

  pub sweep_for : {turn : Turn} {c : Counters} → turn ≡ turn_of_sweep c.known → TurnFor swept c turn
  sweep_for {c = c} e = record { held = rw e (sweep_held text c.known); alike = λ key s β ss. unfold pass_for in sweep_alike key s text β c ss e }

-- ---- a run that is refused stays so, whatever tasks are left

stopped_tasks : (key : ℕ) (s : Separators) (P : Policy) (us : List Task) (ss : List Segment) {b : Progress} {e : Refusal} → b ≡ stopped e → progress_tasks key s P us ss b ≡ stopped e
unfolding progress_tasks progress_by
stopped_tasks key s P [] ss f = f
stopped_tasks key s P (t ∷ us) ss {b} {e} f = stopped_tasks key s P us _ (rw f (stopped_stays P.sweep _ e))

-- ---- some turns are taken

module _ (text : Text) (segs : List HeldSegment) (on : Setting) (policy : HeldPolicy) (β₀ : Buffers) (c₀ : Counters) where
  abbrev P : Policy
  P = as_policy text policy

  -- those of the tasks ts, which are k, whatever stood there before them; r says how far the run has come
  pub record Taken (k : ℕ) (ts : List Task) (β : Buffers) (r : Result Counters Refusal) : Type 0 where
    pub to : (x : ℕ) (cr : Bool) (ss : List Segment) (b : Progress) → Stage x cr text segs on 0 ss b β₀ c₀
        → Stands x cr text segs on k (after_tasks on.key on.separators P ts ss b) (progress_tasks on.key on.separators P ts ss b) β r

  pub none_taken : Taken 0 (rules_to text policy 0) β₀ (Ok c₀)
  unfolding as_rules after_tasks progress_tasks
  none_taken = record { to = λ x cr ss b g. record { out = g } }

  taken_ready : {k : ℕ} {ts : List Task} {β : Buffers} {c : Counters} → Inputs text segs on → k ≤ 130 → Begun text segs on β₀ (Ok c₀) → Taken k ts β (Ok c) → TurnReady text segs on β c
  taken_ready l h g w = stage_turn_ready l.segmented h (w.to g.x g.cr g.ss g.progress g.stands.out).out

  module _ (q : on.sweep ≡ policy.sweep) (l : Inputs text segs on) where
    same_progress : {Q W : Pass} {ss : List Segment} (b : Progress) → Alike Q W ss → after_events on.sweep (segments_events Q.says ss) b ≡ progress_by P W ss b
    unfolding progress_by as_policy
    same_progress b a = rw (q, a.says)

    same_segments : {Q W : Pass} {ss : List Segment} → Alike Q W ss → over_segments Q.leaf ss ≡ segments_by W ss
    unfolding segments_by
    same_segments a = a.leaf

    -- one more
    module _ {k : ℕ} (ts : List Task) {β β' : Buffers} {c : Counters} (w : Taken k ts β (Ok c)) (t : Task) (turn : Turn) (f : TurnFor text policy t c turn) where
      taken_more : (r : Result Counters Refusal) → TurnTaken (λ ks. pass_of on.key on.separators text ks turn) on segs text β c β' r → Taken (k + 1) (ts ++ (t ∷ [])) β' r
      taken_more r n = record {
        to = λ x cr ss b s.
            let g = (w.to x cr ss b s).out in
            let b' = progress_tasks on.key on.separators P ts ss b in
            let ss' = after_tasks on.key on.separators P ts ss b in
            let a : Alike (pass_of on.key on.separators text (knowing text β c) turn) (next_pass on.key on.separators P ts t ss b) ss' = rw (← progress_knows g) (f.alike on.key on.separators β ss') in
            rw (task_after on.key on.separators P ts t ss b, task_progress on.key on.separators P ts t ss b)
            (rw (same_segments a, same_progress b' a) at (stands_next g (λ ks. pass_of on.key on.separators text ks turn) (turn_sound on.key on.separators cr text (knowing text β c) turn) l.leaves r n));
      }

  taken_stops : {k : ℕ} {ts : List Task} (us : List Task) {β : Buffers} {e : Refusal} → Taken k ts β (Err e) → (x : ℕ) (cr : Bool) (ss : List Segment) (b : Progress) → Stage x cr text segs on 0 ss b β₀ c₀
      → Stands x cr text segs on 130 (after_tasks on.key on.separators P (ts ++ us) ss b) (progress_tasks on.key on.separators P (ts ++ us) ss b) β (Err e)
  taken_stops {ts = ts} us w x cr ss b g = record { out = tasks_progress on.key on.separators P ts us ss b ∙ stopped_tasks on.key on.separators P us _ (w.to x cr ss b g).out }

  taken_all : {k : ℕ} {ts : List Task} {β : Buffers} (r : Result Counters Refusal) → k ≤ 130 → Taken k ts β r → (x : ℕ) (cr : Bool) (ss : List Segment) (b : Progress) → Stage x cr text segs on 0 ss b β₀ c₀
      → Stands x cr text segs on 130 (after_tasks on.key on.separators P ts ss b) (progress_tasks on.key on.separators P ts ss b) β r
  taken_all r h w x cr ss b g = stands_later r h (w.to x cr ss b g)

-- ---- the turns of a policy

module _ (text : Text) (segs : List HeldSegment) (on : Setting) (policy : HeldPolicy) (β₀ : Buffers) (c₀ : Counters) (q : on.sweep ≡ policy.sweep) (l : Inputs text segs on) (p : PolicyHeld text policy) where
  -- what is taken with that turn
  abbrev pub Next : Buffers → Counters → Turn → Buffers → Result Counters Refusal → Type 0
  Next β c turn β' r = TurnTaken (λ ks. pass_of on.key on.separators text ks turn) on segs text β c β' r

  -- all is taken
  abbrev pub Ended : Buffers → Result Counters Refusal → Type 0
  Ended β r = (x : ℕ) (cr : Bool) (ss : List Segment) (b : Progress) → Stage x cr text segs on 0 ss b β₀ c₀
      → Stands x cr text segs on 130 (after_tasks on.key on.separators (as_policy text policy) (tasks_of (as_policy text policy)) ss b) (progress_tasks on.key on.separators (as_policy text policy) (tasks_of (as_policy text policy)) ss b) β r

  -- k rules' turns are taken; rs are the rules
  module _ {k : ℕ} {β : Buffers} {c : Counters} (w : Taken text segs on policy β₀ c₀ k (rules_to text policy k) β (Ok c)) {rs : List HeldRule} (e : rs ≡ policy.rules) where
    -- that of rule k is next
    module _ (h : k < length rs) (z : HeldRule) {turn : Turn} (t : RuleTurn (get_or rs k z) turn) where
      low : k < length policy.rules
      low = rw e at h

      turn_for : TurnFor text policy (ruled (as_rule text (get_or policy.rules k z))) c turn
      turn_for = let a = p.rules.each k z low in rule_for text policy a.path a.action (rw e at t)

      pub rule_asks : Begun text segs on β₀ (Ok c₀) → TurnHeld text turn × Inputs text segs on × TurnReady text segs on β c
      rule_asks g = (turn_for.held, l, taken_ready text segs on policy β₀ c₀ l (omega (arith, low, p.few)) g w)

      module _ {β' : Buffers} {r : Result Counters Refusal} (n : Next β c turn β' r) where
        pub rule_made : {c' : Counters} → r ≡ Ok c' → Taken text segs on policy β₀ c₀ (k + 1) (rules_to text policy (k + 1)) β' (Ok c')
        rule_made f = rw (rules_more text policy low z, ← f) (taken_more text segs on policy β₀ c₀ q l (rules_to text policy k) w _ turn turn_for r n)

        pub rule_refused : {x : Refusal} → r ≡ Err x → Ended β' (Err x)
        rule_refused f = rw (rules_left text policy low z) (taken_stops text segs on policy β₀ c₀ (left text policy low z) (rw f at (taken_more text segs on policy β₀ c₀ q l (rules_to text policy k) w _ turn turn_for r n)))

    -- they were all, and the posture's is next
    module _ (high : k ≤ length rs) (h : length rs ≤ k) {turn : Turn} (t : PostureTurn policy.posture turn) where
      all : k ≡ length policy.rules
      all = let a : k ≡ length rs = omega (arith, high, h) in rw e at a

      all_taken : Taken text segs on policy β₀ c₀ (length policy.rules) (all_rules text policy) β (Ok c)
      all_taken = rw (all, rules_ended text policy (le_refl (length policy.rules))) at w

      pub posture_asks : Begun text segs on β₀ (Ok c₀) → TurnHeld text turn × Inputs text segs on × TurnReady text segs on β c
      posture_asks g = (t.held text p.posture, l, taken_ready text segs on policy β₀ c₀ l (omega (arith, p.few)) g all_taken)

      module _ {β' : Buffers} {r : Result Counters Refusal} (n : Next β c turn β' r) where
        judged_taken : Taken text segs on policy β₀ c₀ (length policy.rules + 1) (all_rules text policy ++ (judged ∷ [])) β' r
        judged_taken = taken_more text segs on policy β₀ c₀ q l (all_rules text policy) all_taken judged turn (posture_for text policy p.posture t) r n

        pub posture_made : {c' : Counters} → r ≡ Ok c' → Taken text segs on policy β₀ c₀ (length policy.rules + 1) (all_rules text policy ++ (judged ∷ [])) β' (Ok c')
        posture_made f = rw f at judged_taken

        pub posture_refused : {x : Refusal} → r ≡ Err x → Ended β' (Err x)
        posture_refused f = rw (posture_left text policy) (taken_stops text segs on policy β₀ c₀ (swept ∷ []) (rw f at judged_taken))

  -- the sweep's is next
  module _ {β : Buffers} {c : Counters} (w : Taken text segs on policy β₀ c₀ (length policy.rules + 1) (all_rules text policy ++ (judged ∷ [])) β (Ok c)) {turn : Turn} (t : turn ≡ turn_of_sweep c.known) where
    pub sweep_asks : Begun text segs on β₀ (Ok c₀) → TurnHeld text turn × Inputs text segs on × TurnReady text segs on β c
    sweep_asks g = ((sweep_for text policy {c = c} t).held, l, taken_ready text segs on policy β₀ c₀ l (omega (arith, p.few)) g w)

    pub sweep_ends : {β' : Buffers} (r : Result Counters Refusal) → Next β c turn β' r → Ended β' r
    sweep_ends r n =
        rw (posture_left text policy)
        (taken_all text segs on policy β₀ c₀ r (omega (arith, p.few)) (taken_more text segs on policy β₀ c₀ q l (all_rules text policy ++ (judged ∷ [])) w swept turn (sweep_for text policy t) r n))

-- ---- a run, whether it was refused before or not

module _ (text : Text) (segs : List HeldSegment) (on : Setting) (P : Policy) where
  -- all is taken by the run r₀, which is r behind it
  abbrev pub Run : Buffers → Result Counters Refusal → Buffers → Result Counters Refusal → Type 0
  Run β₀ r₀ β r = (x : ℕ) (cr : Bool) (ss : List Segment) (b : Progress) → Stands x cr text segs on 0 ss b β₀ r₀
      → Stands x cr text segs on 130 (after_tasks on.key on.separators P (tasks_of P) ss b) (progress_tasks on.key on.separators P (tasks_of P) ss b) β r

  pub run_goes : {β₀ β : Buffers} {r₀ : Result Counters Refusal} {c : Counters} (c' : Counters) (made : Result ⊤ Refusal) → r₀ ≡ Ok c
      → ((x : ℕ) (cr : Bool) (ss : List Segment) (b : Progress) → Stage x cr text segs on 0 ss b β₀ c
      → Stands x cr text segs on 130 (after_tasks on.key on.separators P (tasks_of P) ss b) (progress_tasks on.key on.separators P (tasks_of P) ss b) β (after_step c' made))
      → Run β₀ r₀ β (result_and made (Ok c'))
  run_goes c' (Ok u) e f = λ x cr ss b g. f x cr ss b (rw e at g).out
  run_goes c' (Err x) e f = λ x cr ss b g. f x cr ss b (rw e at g).out

  pub run_stays : {β : Buffers} (r₀ : Result Counters Refusal) → ((c : Counters) → r₀ ≢ Ok c) → Run β r₀ β r₀
  run_stays (Ok c) n = absurd (n c refl)
  run_stays (Err e) n = λ x cr ss b g. record { out = stopped_tasks on.key on.separators P (tasks_of P) ss g.out }
