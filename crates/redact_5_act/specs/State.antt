-- How far a run has come after a step. Assumes nothing: these are definitions.
use Rattle.std.specs.Prelude.{Result, Ok, Err, ⊤}
use Rattle.refusal.specs.declared.Refusal.{Refusal}
use Rattle.redact_5_act.specs.declared.state.Counters.{Counters}

-- how far the run has come after a step, with those counters if it was made
abbrev pub after_step : Counters → Result ⊤ Refusal → Result Counters Refusal
after_step c (Ok x) = Ok c
after_step c (Err e) = Err e
