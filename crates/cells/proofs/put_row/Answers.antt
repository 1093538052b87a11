-- `put_row` stores minus the row, which is in the range of rows. Assumes nothing.
use native.Mathlib.Omega.{arith}
use Rattle.rules.specs.WhatTheIndexDoes.{is_row}
use Rattle.rules.proofs.Ranges.{within_is}
use Rattle.cells.proofs.put_row.Goals as goal

pub put-requires : goal.put-requires
unfolding is_row
put-requires c = omega (arith, within_is 1 1000000 c.args.row.0 c.requires)
