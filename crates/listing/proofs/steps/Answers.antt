-- `steps` climbs from parent to parent. Assumes nothing.
use Prim.Native.Nat.{◌+◌, ◌-◌}
use native.Mathlib.Omega.{arith}
use Rattle.listing.specs.Visiting.{DEEPEST}
use Rattle.listing.proofs.Climbing.{steps_none, steps_home, steps_on}
use Rattle.listing.proofs.steps.Goals as goal

pub returns-then-at-eq1-clause-value : goal.returns-then-at-eq1-clause-value
returns-then-at-eq1-clause-value c =
    omega (arith, c.loop-n.invariant, steps_home c.args.check.now (DEEPEST - c.loop-n.n) c.if-at-eq1.true)

pub loop-n-preserved : goal.loop-n-preserved
loop-n-preserved c =
    let n = c.loop-n.n in
    let on = steps_on c.args.check.now (DEEPEST - n) (DEEPEST - (n + 1)) (omega arith) c.if-at-eq1.false c.at-at.ensures.is in
    omega (arith, c.loop-n.invariant, on)

pub returns-clause-value : goal.returns-clause-value
returns-clause-value c =
    omega (arith, c.loop-n.invariant, steps_none c.args.check.now (DEEPEST - c.loop-n.n) c.loop-n.at (omega (arith, c.loop-n-test.false)))
