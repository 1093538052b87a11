-- `first_found` tries label after label. Assumes nothing.
use Rattle.std.proofs.Common.{◌≡◌, ◌≢◌, ◌-◌, ◌+◌, sym, ap, ◌∙◌, is_some, arith}
use Rattle.rules.specs.WhatTheIndexDoes.{document01}
use Rattle.rules.specs.Options.{some_number}
use Rattle.rules.proofs.Options.{is_number}
use Rattle.tree.proofs.Listing.{listed_within}
use Rattle.rules.specs.Finding.{next_at}
use Rattle.listing.proofs.FirstFound.{is_led, not_led, first_none, first_skip, first_here}
use Rattle.listing.proofs.first_found.Goals as goal

pub next-requires : goal.next-requires
next-requires c =
    let some : c.loop-behind.behind - 1 + 1 ≢ 0 = omega arith in
    (listed_within document01 some (omega arith) c.listed.ensures).1

pub returns-then-is_some : goal.returns-then-is_some
returns-then-is_some c =
    let a = c.args in
    let some : c.loop-behind.behind ≢ 0 = omega arith in
    let left : c.loop-behind.behind - 1 + 1 ≡ c.loop-behind.behind = omega arith in
    let led = is_led (sym (c.is_some.ensures ∙ ap is_some c.next.ensures) ∙ c.if-is_some.true) in
    let leads = ap (next_at a.arrays.base.now a.arrays.check.now a.s.0) (rw left at c.listed.ensures) in
    let here = first_here a.arrays.base.now a.arrays.check.now a.s.0 _ some leads led in
    sym (is_number _ (omega arith)) ∙ ap some_number (left ∙ here ∙ c.loop-behind.invariant)

pub loop-behind-preserved : goal.loop-behind-preserved
loop-behind-preserved c =
    let a = c.args in
    let some : c.loop-behind.behind ≢ 0 = omega arith in
    let left : c.loop-behind.behind - 1 + 1 ≡ c.loop-behind.behind = omega arith in
    let led = not_led (sym (c.is_some.ensures ∙ ap is_some c.next.ensures) ∙ c.if-is_some.false) in
    let leads = ap (next_at a.arrays.base.now a.arrays.check.now a.s.0) (rw left at c.listed.ensures) in
    first_skip a.arrays.base.now a.arrays.check.now a.s.0 _ some leads led ∙ c.loop-behind.invariant

pub returns : goal.returns
returns c =
    let a = c.args in
    ap some_number (first_none a.arrays.base.now a.arrays.check.now a.s.0 (c.loop-behind.behind) (omega (arith, c.loop-behind-test.false)) ∙ c.loop-behind.invariant)
