-- `climb` counts the steps to the first cell below the one where it started, and adds the depth noted there. Assumes
-- nothing.
use Rattle.std.proofs.Common.{◌-◌, ◌≤◌}
use Rattle.audit.proofs.Climbing.{Climbing}
use Rattle.audit.proofs.Stated.climb.Given as goal

abbrev pub invariant-loop-steps : goal.invariant-loop-steps
invariant-loop-steps l = Climbing l.self.check.now l.t.0 (l.steps - 1) l.at × (l.t.0 ≤ l.at)
