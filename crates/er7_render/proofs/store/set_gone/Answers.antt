use Rattle.er7_render.proofs.Slots.{vanished}
use Rattle.er7_render.proofs.store.set_gone.Goals as goal

pub returns : goal.returns
returns c = vanished _ _ c.requires
