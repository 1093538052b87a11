-- `is_row` decides the range of rows. Assumes nothing.
use borrow.Author.Tests.{le-leb, lt-leb}
use Rattle.rules.specs.Ranges.{within}
use Rattle.rules.specs.WhatTheIndexDoes.{is_row}
use Rattle.rules.proofs.Ranges.{below}
use Rattle.rules.proofs.is_row.Goals as goal

pub returns-then-n-ge1 : goal.returns-then-n-ge1
unfolding is_row within
returns-then-n-ge1 c = rw (le-leb 1 _ c.if-n-ge1.true)

pub returns-else-n-ge1 : goal.returns-else-n-ge1
unfolding is_row
returns-else-n-ge1 c = rw (below 1 1000000 _ c.if-n-ge1.false, lt-leb 1 _ c.if-n-ge1.false)
