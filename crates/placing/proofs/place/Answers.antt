-- `place` seeks at the size that base[0] states. Assumes nothing.
use Rattle.placing.proofs.place.Goals as goal

pub seek-requires : goal.seek-requires
seek-requires c = rw c.at.ensures.is c.requires

pub returns : goal.returns
returns c = rw (← c.at.ensures.is) c.seek.ensures
