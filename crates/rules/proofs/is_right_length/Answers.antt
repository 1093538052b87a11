-- `is_right_length` decides the range of an identifier's length. Assumes nothing.
use borrow.Author.Tests.{le-leb, lt-leb}
use Rattle.rules.specs.Ranges.{within}
use Rattle.rules.proofs.Ranges.{below}
use Rattle.rules.proofs.is_right_length.Goals as goal

pub returns-then-key-ge1 : goal.returns-then-key-ge1
unfolding within
returns-then-key-ge1 c = rw (le-leb 1 _ c.if-key-ge1.true)

pub returns-else-key-ge1 : goal.returns-else-key-ge1
returns-else-key-ge1 c = rw (below 1 32 _ c.if-key-ge1.false, lt-leb 1 _ c.if-key-ge1.false)
