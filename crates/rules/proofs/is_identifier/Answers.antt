-- `is_identifier` is both tests. Assumes nothing.
use Rattle.rules.specs.WhatTheIndexDoes.{is_identifier}
use Rattle.rules.proofs.is_identifier.Goals as goal

pub returns-then-is_right_length : goal.returns-then-is_right_length
unfolding is_identifier
returns-then-is_right_length c = rw (← c.is_right_length.ensures, c.if-is_right_length.true, c.is_coded.ensures)

pub returns-else-is_right_length : goal.returns-else-is_right_length
unfolding is_identifier
returns-else-is_right_length c = rw (← c.is_right_length.ensures, c.if-is_right_length.false)
