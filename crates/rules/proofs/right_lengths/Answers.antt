-- `right_lengths` decides which arrays can hold a table. Assumes nothing.
use borrow.Author.Tests.{eq-eqb, ne_eqb, le-leb, lt-leb}
use Rattle.rules.specs.Ranges.{within}
use Rattle.rules.specs.WhatTheIndexDoes.{right_lengths}
use Rattle.rules.proofs.right_lengths.Goals as goal

pub returns-then-base-check : goal.returns-then-base-check
unfolding right_lengths
returns-then-base-check c = rw (ne_eqb _ _ c.if-base-check.true)

pub returns-then-base-ge2 : goal.returns-then-base-ge2
unfolding right_lengths within
returns-then-base-ge2 c = rw (eq-eqb _ _ c.if-base-check.false, le-leb 2 _ c.if-base-ge2.true)

pub returns-else-base-ge2 : goal.returns-else-base-ge2
unfolding right_lengths within
returns-else-base-ge2 c = rw (eq-eqb _ _ c.if-base-check.false, lt-leb 2 _ c.if-base-ge2.false)
