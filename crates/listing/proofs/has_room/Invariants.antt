-- `has_room` takes the line of each cell from the room, from the last cell down to the first. Assumes nothing.
use Prim.Native.Nat.{◌-◌}
use Rattle.listing.proofs.WholeListing.{Taken}
use Rattle.listing.proofs.has_room.Given as goal

abbrev pub invariant-loop-t : goal.invariant-loop-t
invariant-loop-t l = Taken l.arrays.base.now l.arrays.check.now l.room l.rest (l.t - 1)
