-- `pass_over` goes along the chain. The loop's invariant: bases may be passed over from u, and have been up to it. The measure is what
-- is left to the last cell. Assumes nothing.
use Prim.Native.Nat.{suc, ◌-◌}
use Rattle.placing.specs.Search.{Passes, Passed}
use Rattle.placing.proofs.Stored.pass_over.Given as goal

abbrev pub invariant-loop-u : goal.invariant-loop-u
invariant-loop-u l = Passes l.self.check.now l.self.last l.span l.u × Passed l.self.check.now l.self.last l.span l.from l.u

abbrev pub decreases-loop-u : goal.decreases-loop-u
decreases-loop-u l = suc l.self.last - l.u
