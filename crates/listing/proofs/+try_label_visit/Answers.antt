-- `visit` and `try_label` call each other. Assumes nothing.
use Rattle.std.proofs.Common.{sym, arith, refl}
use Rattle.rules.specs.WhatTheIndexDoes.{document01}
use Rattle.tree.proofs.Listing.{listed_within}
use Rattle.finding.proofs.Options.{number_none, number_some, cell_none, cell_some, row_none, row_some}
use Rattle.listing.proofs.Beginnings.{spelt_length, spelt_back}
use Rattle.listing.proofs.FirstFound.{first_within}
use Rattle.listing.proofs.Visiting.{next_none, next_visits, next_lists, trying_begins, trying_first, trying_ends, trying_next, next_within, trying_again}
use Rattle.listing.proofs.Visiting.{leaf_room, leaf_lists, visits_none, inner_tries, inner_lists}
use Rattle.listing.proofs.+try_label_visit.Goals as goal

-- ---- the next label

pub try_label-next-requires : goal.try_label-next-requires
try_label-next-requires t c = (listed_within document01 c.requires.some c.requires.labels c.listed-code.ensures).1

pub try_label-returns-in_default-clause-lists : goal.try_label-returns-in_default-clause-lists
try_label-returns-in_default-clause-lists t c = next_none c.requires c.listed-code.ensures refl (cell_none c.in_default.ensures)

pub try_label-spell-requires-clause-label : goal.try_label-spell-requires-clause-label
try_label-spell-requires-clause-label t c = listed_within document01 c.requires.some c.requires.labels c.listed-code.ensures

pub try_label-visit-written-requires : goal.try_label-visit-written-requires
try_label-visit-written-requires t c =
    let led = cell_some c.in-Some.ensures in
    (omega (arith, c.decreases), rw c.spell.ensures (next_visits c.requires c.listed-code.ensures (omega (arith, led.0)) (λ z. omega (arith, led.1))))

pub try_label-cut-requires : goal.try_label-cut-requires
try_label-cut-requires t c =
    rw (c.visit-written.ensures.key_unchanged, c.spell.ensures, c.len-length.ensures) (spelt_length c.args.key.now c.listed-code.result).0

pub try_label-returns-clause-lists : goal.try_label-returns-clause-lists
try_label-returns-clause-lists t c =
    let led = cell_some c.in-Some.ensures in
    next_lists c.requires c.listed-code.ensures (omega (arith, led.0)) (λ z. omega (arith, led.1)) (rw c.spell.ensures at c.visit-written.ensures.lists)

pub try_label-returns-clause-key_unchanged : goal.try_label-returns-clause-key_unchanged
try_label-returns-clause-key_unchanged t c =
    rw (c.cut.ensures, c.visit-written.ensures.key_unchanged, c.spell.ensures, c.len-length.ensures) (spelt_back c.args.key.now c.listed-code.result)

-- ---- a visit

pub visit-put_line-requires : goal.visit-put_line-requires
visit-put_line-requires t c =
    let held = row_some c.in-Some.ensures in
    rw c.characters-characters.ensures (leaf_room c.requires held.0 (λ z. omega (arith, held.1)))

pub visit-returns-in-Some-clause-lists : goal.visit-returns-in-Some-clause-lists
visit-returns-in-Some-clause-lists t c =
    let held = row_some c.in-Some.ensures in
    rw c.characters-characters.ensures (leaf_lists c.requires held.0 (λ z. omega (arith, held.1)) (rw c.characters-characters.ensures at c.put_line.ensures))

pub visit-returns-then-depth-eq0-clause-lists : goal.visit-returns-then-depth-eq0-clause-lists
visit-returns-then-depth-eq0-clause-lists t c = visits_none c.requires refl (row_none c.in_default.ensures) c.if-depth-eq0.true

-- ---- an inner cell

pub visit-loop-left-init : goal.visit-loop-left-init
visit-loop-left-init t c = trying_begins (inner_tries c.requires refl (row_none c.in_default.ensures) c.if-depth-eq0.false)

pub visit-try_label-written-requires : goal.visit-try_label-written-requires
visit-try_label-written-requires t c =
    let found = number_some c.in-Some-first_found.ensures in
    let h = trying_first c.loop-left.invariant found.0 in
    (omega (arith, c.decreases, h.asked.labels), trying_next h (λ z. omega (arith, found.1)))

pub visit-overflow_add-written : goal.visit-overflow_add-written
visit-overflow_add-written t c =
    let found = number_some c.in-Some-first_found.ensures in
    let h = trying_first c.loop-left.invariant found.0 in
    omega (arith, next_within h (λ z. omega (arith, found.1)) c.try_label-written.ensures.lists)

pub visit-loop-left-preserved : goal.visit-loop-left-preserved
visit-loop-left-preserved t c =
    let found = number_some c.in-Some-first_found.ensures in
    let w = c.try_label-written.ensures in
    trying_again (trying_first c.loop-left.invariant found.0) (λ z. omega (arith, found.1)) w.lists w.key_unchanged

pub visit-loop-left-smaller : goal.visit-loop-left-smaller
visit-loop-left-smaller t c =
    let found = number_some c.in-Some-first_found.ensures in
    omega (arith, found.0, found.1, first_within c.args.arrays.base.now c.args.arrays.check.now c.args.s.0 c.loop-left.labels)

pub visit-returns-clause-lists : goal.visit-returns-clause-lists
visit-returns-clause-lists t c =
    let all = trying_ends (trying_first c.loop-left.invariant (sym (number_none c.in_default-first_found.ensures))) refl in
    inner_lists c.requires refl (row_none c.in_default.ensures) c.if-depth-eq0.false all
