-- `seek` walks the chain. Assumes nothing.
use mathlib.Core.Path.{sym, ap, ◌∙◌}
use native.Mathlib.Omega.{arith}
use Rattle.rules.specs.WhatTheIndexDoes.{GREATEST}
use Rattle.rules.specs.Placement.{opens}
use Rattle.tree.proofs.Placement.{greatest_within}
use Rattle.placing.proofs.Seeking.{starts, goes_on, found, ended}
use Rattle.placing.proofs.GreatestFirst.{least_greatest, some_stored, taken_same, opens_same, past_size, passes}
use Rattle.placing.proofs.seek.Goals.{else-low-u-via-then-low-u+else-opens, else-low-u-via-else-low-u}
use Rattle.placing.proofs.seek.Goals as goal

pub least-low-requires : goal.least-low-requires
least-low-requires c = c.requires.wanted.some

pub overflow_sub-span : goal.overflow_sub-span
overflow_sub-span c =
    omega (arith, least_greatest c.args.codes.now c.requires.wanted.some)

pub last_stored-last-requires : goal.last_stored-last-requires
last_stored-last-requires c = some_stored c.requires.chain

pub pass_over-u-requires : goal.pass_over-u-requires
pass_over-u-requires c =
    let p = c.requires in
    rw c.at.ensures.is (passes p.chain c.last_stored-last.ensures p.small
    (omega (arith, greatest_within c.args.codes.now GREATEST p.wanted.small)) (omega arith) p.chain.header)

pub loop-u-init : goal.loop-u-init
loop-u-init c =
    let some = c.requires.wanted.some in
    λ m ch. c.pass_over-u.ensures.arrives m _ c.args.codes.now ch c.last_stored-last.ensures some
    (omega (arith, least_greatest c.args.codes.now some)) (rw c.at.ensures.is (starts _ ch))

pub opens-requires : goal.opens-requires
opens-requires c =
    let p = c.requires in
    record { near = omega arith; wanted = p.wanted }

pub returns-then-opens : goal.returns-then-opens
returns-then-opens c = λ m ch. found _ (c.loop-u.invariant m ch) _ (omega arith) (omega arith) (omega arith)
    (sym (opens_same c.last_stored-last.ensures _ _) ∙ sym c.opens.ensures ∙ c.if-opens.true)

pub known-requires : goal.known-requires
known-requires c =
    let p = c.requires in
    let l = c.loop-u in
    omega (arith, p.chain.link l.u (omega arith) ((l.invariant p.cells p.chain).on (omega arith)))

pub pass_over-u-requires-in-loop-u : goal.pass_over-u-requires-in-loop-u
pass_over-u-requires-in-loop-u c =
    let p = c.requires in
    let l = c.loop-u in
    rw c.known.ensures.is (passes p.chain c.last_stored-last.ensures p.small
    (omega (arith, greatest_within c.args.codes.now GREATEST p.wanted.small)) (omega arith)
    ((l.invariant p.cells p.chain).on (omega arith)))

pub loop-u-smaller : goal.loop-u-smaller
loop-u-smaller c =
    let p = c.requires in
    let l = c.loop-u in
    omega (arith, p.chain.link l.u (omega arith) ((l.invariant p.cells p.chain).on (omega arith)))

pub loop-u-preserved : goal.loop-u-preserved
loop-u-preserved c =
    let some = c.requires.wanted.some in
    let l = c.last_stored-last.ensures in
    λ m ch. c.pass_over-u-in-loop-u.ensures.arrives m _ c.args.codes.now ch l some
    (omega (arith, least_greatest c.args.codes.now some)) (rw c.known.ensures.is
    (goes_on _ ch (c.loop-u.invariant m ch) (omega arith) (λ q h e. rw (← taken_same l) (elim c.else-low-u.branch [
      | else-low-u-via-then-low-u+else-opens w ↦ ap (opens _ _) (omega arith) ∙ sym w.opens.ensures ∙ w.if-opens.false
      | else-low-u-via-else-low-u w ↦ absurd (omega arith)
    ]))))

pub returns : goal.returns
returns c = λ m ch.
    let l = c.loop-u in
    ended _ (l.invariant m ch) _ (past_size c.last_stored-last.ensures l.u (omega arith)
    (λ h. omega (arith, ch.link l.u h ((l.invariant m ch).on h)))) (omega arith)
