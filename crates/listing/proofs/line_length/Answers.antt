-- `line_length` is told by a leaf's steps to the root. Assumes nothing.
use Rattle.std.proofs.Common.{refl, arith}
use Rattle.finding.proofs.Options.{row_none, row_some}
use Rattle.listing.proofs.Climbing.{line_none, line_leaf}
use Rattle.listing.proofs.line_length.Goals as goal

pub returns-in-None : goal.returns-in-None
returns-in-None c = line_none _ _ _ refl (row_none c.in-None.ensures)

pub returns-in-Some : goal.returns-in-Some
returns-in-Some c =
    let held = row_some c.in-Some.ensures in
    line_leaf _ _ _ held.0 (λ z. omega (arith, held.1)) c.steps.ensures.value
