-- `pass_over` goes along the chain. Assumes nothing.
use native.Mathlib.Omega.{arith}
use Rattle.rules.proofs.Choices.{was_yes}
use Rattle.placing.proofs.GreatestFirst.{passes_on, passed_on}
use Rattle.placing.proofs.Stored.pass_over.Goals as goal

pub loop-u-preserved : goal.loop-u-preserved
loop-u-preserved c =
    let i = c.loop-u.invariant in
    rw c.known-u.ensures.is
    (passes_on i.0 (omega arith), passed_on i.0 i.1 (omega arith) (was_yes _ c.is_plus_in.ensures c.if-is_plus_in.true))
