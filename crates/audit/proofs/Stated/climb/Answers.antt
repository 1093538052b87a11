-- `climb` counts the steps to the first cell below the one where it started, and adds the depth noted there. Assumes nothing.
use native.Mathlib.Omega.{arith}
use Rattle.rules.specs.WhatTheIndexDoes.{document01}
use Rattle.audit.proofs.Climbing.{climb_on, climbed_out, climbed}
use Rattle.audit.proofs.Stated.climb.Goals as goal

pub returns-then-at-t : goal.returns-then-at-t
returns-then-at-t c =
    let s = c.requires in
    let w = climb_on c.loop-steps.steps s.closed c.loop-steps.invariant.0 (omega arith) c.known-at.ensures.is (omega arith) in
    climbed w document01 s.noted c.if-at-t.true (omega arith) c.then_some.ensures

pub loop-steps-preserved : goal.loop-steps-preserved
loop-steps-preserved c =
    (climb_on _ c.requires.closed c.loop-steps.invariant.0 (omega arith) c.known-at.ensures.is (omega arith), omega arith)

pub returns : goal.returns
returns c = climbed_out c.loop-steps.invariant.0 document01 (omega arith) (λ e. omega arith)
