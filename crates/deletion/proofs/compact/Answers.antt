-- `compact` answers with the moves made. Assumes nothing.
use Rattle.deletion.proofs.CarriedOut.{sound_steps, is_compacted}
use Rattle.deletion.proofs.compact.Goals as goal

pub compact-requires : goal.compact-requires
compact-requires c = (_, sound_steps c.requires)

pub returns : goal.returns
returns c = is_compacted _ _ _ c.compact.auto.base (c.compact.ensures _ (sound_steps c.requires))
