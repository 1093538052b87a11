-- `are_ways_kept` looks at the cells upwards: it asks each used one for its fruit and its depth, and notes the depth. Assumes
-- nothing.
use Rattle.std.proofs.Common.{◌+◌}
use Rattle.rules.specs.WhatTheIndexDoes.{document01}
use Rattle.audit.specs.Ways.{NotedBelow, WaysUpTo}
use Rattle.audit.proofs.Stated.are_ways_kept.Given as goal

abbrev pub invariant-loop-below : goal.invariant-loop-below
invariant-loop-below l =
    WaysUpTo document01 l.self.base.now l.self.check.now l.below × NotedBelow l.self.check.now l.self.size (l.below + 1) l.depths
