-- Laws of the tasks of a policy, one behind the other. Assumes nothing.
use Rattle.std.proofs.Common.{◌≡◌, refl, sym, ap, ◌∙◌, Bool, List, [], ◌∷◌, ◌++◌, map, append_assoc, ℕ, ◌+◌, ◌≤◌, ◌<◌, length, take, take_all, get_or}
use Rattle.std.proofs.lemmas.List.{map-append}
use Rattle.text.specs.Text.{Text}
use Rattle.er7.specs.declared.separators.Separators.{Separators}
use Rattle.er7_redact.specs.Policy.{Rule, as_rule}
use Rattle.er7_redact.specs.declared.policy.Rule.{Rule as HeldRule}
use Rattle.message_model.specs.Message.{Segment, Message}
use Rattle.policy_model.specs.Policy.{Policy}
use Rattle.policy.specs.Policy.{as_rules, as_policy}
use Rattle.policy.specs.declared.policy.Policy.{Policy as HeldPolicy}
use Rattle.policy.proofs.Rules.{behind, rules_step, rules_split}
use Rattle.run_model.specs.Redact.{Progress, running, known_in, after_events, over_segments, segments_events, unnamed_leaf, unnamed_events, after_rule, after_rules, rules_events, for_posture, before_sweep, events_before_sweep, progress_before_sweep, redacted_as, swept as sweptAs, redact_from}
use Rattle.redact_4_leaf.specs.Walk.{Pass}
use Rattle.redact_4_leaf.specs.Visit.{rule_pass, unnamed_pass}
use Rattle.redact_4_leaf.proofs.Walks.{progress_append}
use Rattle.redact_1_run.specs.Turns.{Task, ruled, judged, swept, tasks_of, pass_for, segments_by, progress_by, after_tasks, progress_tasks}

-- ---- tasks behind tasks

module _ (key : ℕ) (s : Separators) (P : Policy) where
  tasks_after : (ts us : List Task) (ss : List Segment) (b : Progress) → after_tasks key s P (ts ++ us) ss b ≡ after_tasks key s P us (after_tasks key s P ts ss b) (progress_tasks key s P ts ss b)
  unfolding after_tasks progress_tasks
  tasks_after [] us ss b = refl
  tasks_after (t ∷ ts) us ss b = tasks_after ts us _ _

  pub tasks_progress : (ts us : List Task) (ss : List Segment) (b : Progress) → progress_tasks key s P (ts ++ us) ss b ≡ progress_tasks key s P us (after_tasks key s P ts ss b) (progress_tasks key s P ts ss b)
  unfolding after_tasks progress_tasks
  tasks_progress [] us ss b = refl
  tasks_progress (t ∷ ts) us ss b = tasks_progress ts us _ _

  -- one more
  module _ (ts : List Task) (t : Task) (ss : List Segment) (b : Progress) where
    abbrev pub next_pass : Pass
    next_pass = pass_for key s P t (known_in (progress_tasks key s P ts ss b))

    pub task_after : after_tasks key s P (ts ++ (t ∷ [])) ss b ≡ segments_by next_pass (after_tasks key s P ts ss b)
    unfolding after_tasks
    task_after = tasks_after ts (t ∷ []) ss b

    pub task_progress : progress_tasks key s P (ts ++ (t ∷ [])) ss b ≡ progress_by P next_pass (after_tasks key s P ts ss b) (progress_tasks key s P ts ss b)
    unfolding progress_tasks
    task_progress = tasks_progress ts (t ∷ []) ss b

  -- ---- rules

  rules_after : (rs : List Rule) (ss : List Segment) (b : Progress) → after_tasks key s P (map ruled rs) ss b ≡ after_rules key s rs ss
  unfolding after_tasks after_rules after_rule pass_for segments_by rule_pass
  rules_after [] ss b = refl
  rules_after (r ∷ rs) ss b = rules_after rs (after_rule key s r ss) _

  rules_progress : (rs : List Rule) (ss : List Segment) (b : Progress) → progress_tasks key s P (map ruled rs) ss b ≡ after_events P.sweep (rules_events key s rs ss) b
  unfolding progress_tasks rules_events after_rule pass_for segments_by progress_by rule_pass after_events
  rules_progress [] ss b = refl
  rules_progress (r ∷ rs) ss b = rules_progress rs (after_rule key s r ss) _ ∙ sym (progress_append P.sweep (segments_events (rule_pass key s r).says ss) (rules_events key s rs (after_rule key s r ss)) b)

  -- ---- the whole run

  module _ (cr : Bool) (ss : List Segment) (z : ℕ) where
    abbrev b₀ : Progress
    b₀ = running [] [] z

    before_after : after_tasks key s P (map ruled P.rules ++ (judged ∷ [])) ss b₀ ≡ before_sweep key s P ss
    unfolding before_sweep segments_by pass_for unnamed_pass
    before_after = task_after (map ruled P.rules) judged ss b₀ ∙ ap (over_segments (unnamed_leaf key s (for_posture P.posture))) (rules_after P.rules ss b₀)

    before_progress : progress_tasks key s P (map ruled P.rules ++ (judged ∷ [])) ss b₀ ≡ progress_before_sweep z key s P ss
    unfolding progress_before_sweep events_before_sweep progress_by pass_for unnamed_pass
    before_progress =
        task_progress (map ruled P.rules) judged ss b₀
        ∙ rw (rules_after P.rules ss b₀, rules_progress P.rules ss b₀)
        (sym (progress_append P.sweep (rules_events key s P.rules ss) (segments_events (unnamed_events key s (for_posture P.posture)) (after_rules key s P.rules ss)) b₀))

    all_tasks : tasks_of P ≡ (map ruled P.rules ++ (judged ∷ [])) ++ (swept ∷ [])
    unfolding tasks_of
    all_tasks = sym (append_assoc (map ruled P.rules) (judged ∷ []) (swept ∷ []))

    tasks_run : sweptAs key s P cr (known_in (progress_before_sweep z key s P ss)) (progress_before_sweep z key s P ss) (before_sweep key s P ss)
        ≡ redacted_as s cr (progress_tasks key s P (tasks_of P) ss b₀) (after_tasks key s P (tasks_of P) ss b₀)
    unfolding sweptAs segments_by progress_by pass_for unnamed_pass
    tasks_run =
        rw (all_tasks, task_after (map ruled P.rules ++ (judged ∷ [])) swept ss b₀, task_progress (map ruled P.rules ++ (judged ∷ [])) swept ss b₀, before_after, before_progress)

pub tasks_redact : (key size : ℕ) (P : Policy) (m : Message)
    → redact_from size key P m ≡ redacted_as m.separators m.last_cr (progress_tasks key m.separators P (tasks_of P) m.segments (running [] [] size)) (after_tasks key m.separators P (tasks_of P) m.segments (running [] [] size))
unfolding redact_from
tasks_redact key size P m = tasks_run key m.separators P m.last_cr m.segments size

-- ---- the tasks of a policy's struct

module _ (text : Text) (policy : HeldPolicy) where
  -- those of its first k rules, and of all
  abbrev pub rules_to : ℕ → List Task
  rules_to k = map ruled (as_rules text (take k policy.rules))

  abbrev pub all_rules : List Task
  all_rules = map ruled (as_rules text policy.rules)

  module _ {k : ℕ} (h : k < length policy.rules) (z : HeldRule) where
    abbrev this : Task
    this = ruled (as_rule text (get_or policy.rules k z))

    pub rules_more : rules_to (k + 1) ≡ rules_to k ++ (this ∷ [])
    rules_more = rw (rules_step text policy.rules k z h) (map-append ruled (as_rules text (take k policy.rules)) (as_rule text (get_or policy.rules k z) ∷ []))

    -- what is left behind it
    abbrev pub left : List Task
    left = map ruled (behind text policy.rules k) ++ (judged ∷ swept ∷ [])

    pub rules_left : tasks_of (as_policy text policy) ≡ (rules_to k ++ (this ∷ [])) ++ left
    unfolding tasks_of as_policy
    rules_left =
        rw (← rules_more, rules_split text policy.rules k, map-append ruled (as_rules text (take (k + 1) policy.rules)) (behind text policy.rules k))
        (append_assoc (rules_to (k + 1)) (map ruled (behind text policy.rules k)) (judged ∷ swept ∷ []))

  pub rules_ended : {k : ℕ} → length policy.rules ≤ k → rules_to k ≡ all_rules
  rules_ended {k} h = rw (take_all k policy.rules h) refl

  pub posture_left : tasks_of (as_policy text policy) ≡ (all_rules ++ (judged ∷ [])) ++ (swept ∷ [])
  unfolding tasks_of as_policy
  posture_left = sym (append_assoc all_rules (judged ∷ []) (swept ∷ []))
