-- `steps` climbs from parent to parent. The loop's invariant: the steps made, and those from the cell reached, are all of them. Assumes
-- nothing.
use mathlib.Core.Path.{◌≡◌}
use Prim.Native.Nat.{◌+◌, ◌-◌}
use Rattle.listing.specs.Visiting.{DEEPEST}
use Rattle.listing.specs.Measuring.{steps_at}
use Rattle.listing.proofs.steps.Given as goal

abbrev pub invariant-loop-n : goal.invariant-loop-n
invariant-loop-n l = l.n + steps_at l.check (DEEPEST - l.n) l.at ≡ steps_at l.check DEEPEST l.initial.at
