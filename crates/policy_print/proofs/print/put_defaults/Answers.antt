use Rattle.policy_print.proofs.Whole.{defaults_wrote}
use Rattle.policy_print.proofs.print.put_defaults.Goals as goal

pub returns : goal.returns
returns c = defaults_wrote _ _ _ c.put_posture-a.ensures c.put_unrecognised-b.ensures c.put_sweep.ensures
