-- `compact` trims the size, then repeats steps. Assumes nothing.
use mathlib.Core.Path.{◌≡◌}
use mathlib.Core.Bool.{true, false}
use native.Mathlib.Omega.{arith}
use Rattle.rules.specs.DeletionAndCompaction.{compacted}
use Rattle.compaction.proofs.Compacting.{steps_trimmed, going_begun, going_ended, going_stopped, going_on}
use Rattle.compaction.proofs.compact.Goals as goal

pub loop-made-init : goal.loop-made-init
loop-made-init c = λ t a. going_begun _ (steps_trimmed a (c.trim.ensures t a.shown))

pub returns-then-not-step : goal.returns-then-not-step
unfolding compacted
returns-then-not-step c = λ t a.
    let g = c.loop-made.invariant t a in
    let e : c.step.result ≡ false = grind arith in
    going_stopped g (omega arith) (rw e at (c.step.ensures g.here g.asked))

pub loop-made-preserved : goal.loop-made-preserved
loop-made-preserved c = λ t a.
    let g = c.loop-made.invariant t a in
    let e : c.step.result ≡ true = grind arith in
    going_on g (omega arith) (rw e at (c.step.ensures g.here g.asked))

pub returns : goal.returns
unfolding compacted
returns c = λ t a. going_ended (c.loop-made.invariant t a) (omega arith) (omega arith)
