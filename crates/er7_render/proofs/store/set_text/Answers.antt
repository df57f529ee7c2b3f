use Rattle.er7_render.proofs.Slots.{text_set}
use Rattle.er7_render.proofs.store.set_text.Goals as goal

pub returns : goal.returns
returns c = text_set _ _ _ _ c.requires
