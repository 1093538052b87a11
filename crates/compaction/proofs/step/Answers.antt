-- `step` lowers, then trims the size. Assumes nothing.
use Rattle.compaction.proofs.Compacting.{lowered_trimmed}
use Rattle.compaction.proofs.step.Goals as goal

pub returns : goal.returns
returns c = λ t a.
    let m = c.lower-moved.ensures t a in
    lowered_trimmed t m (c.trim.ensures _ m.left)
