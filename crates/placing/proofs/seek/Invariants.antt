-- `seek` walks the chain. The loop's invariant, whichever cells the chain names: the search has arrived at u. The measure is what is
-- left to the chain's end. Assumes nothing.
use mathlib.Core.Bool.{Bool}
use Prim.Native.Nat.{ℕ, suc, ◌-◌}
use Rattle.placing.specs.Search.{Chain, Arrived}
use Rattle.placing.proofs.seek.Given as goal

abbrev pub invariant-loop-u : goal.invariant-loop-u
invariant-loop-u l = (m : ℕ → Bool) → Chain m l.size l.check → Arrived m l.check l.size l.codes l.u

abbrev pub decreases-loop-u : goal.decreases-loop-u
decreases-loop-u l = suc l.size - l.u
