-- `put_hexes` writes characters one by one. The loop's invariant: what is written so far, with the rest written after it, is all of
-- it written. Assumes nothing.
use mathlib.Core.Path.{◌≡◌}
use Prim.Native.Nat.{◌+◌, ◌*◌}
use lib.ListN.{drop}
use lib.Seq.{sets}
use Rattle.rules.specs.Listing.{hexes}
use Rattle.text.proofs.put_hexes.Given as goal

abbrev pub invariant-loop-i : goal.invariant-loop-i
invariant-loop-i l = sets l.out (l.at + 2 * l.i) (hexes (drop l.i l.key)) ≡ sets l.initial.out l.at (hexes l.key)
