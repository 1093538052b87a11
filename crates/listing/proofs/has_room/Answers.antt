-- `has_room` takes the line of each cell from the room, from the last cell down to the first. Assumes nothing.
use native.Mathlib.Omega.{arith}
use Rattle.listing.proofs.WholeListing.{taken_all, taken_short, taken_on}
use Rattle.listing.proofs.has_room.Goals.{In-loop-t}
use Rattle.listing.proofs.has_room.Goals as goal

pub returns-then-rest-n : goal.returns-then-rest-n
returns-then-rest-n c =
    taken_short _ _ c.loop-t.invariant (omega (arith, c.loop-t-test.true)) c.line_length-n.ensures c.requires (omega (arith, c.if-rest-n.true))

pub loop-t-preserved : goal.loop-t-preserved
loop-t-preserved c = taken_on _ _ c.loop-t.invariant (omega (arith, c.loop-t-test.true)) c.line_length-n.ensures (omega (arith, c.if-rest-n.false))

pub returns : goal.returns
returns c = taken_all _ _ c.loop-t.invariant c.requires (omega (arith, c.loop-t-test.false))
