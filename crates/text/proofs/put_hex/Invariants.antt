-- `put_hex` writes the last digit first. The loop's invariant: the digits left, written into what is written so far, are all of them
-- written. Assumes nothing.
use mathlib.Core.Path.{◌≡◌}
use lib.Seq.{sets}
use Rattle.rules.specs.Listing.{hex}
use Rattle.text.proofs.put_hex.Given as goal

abbrev pub invariant-loop-i : goal.invariant-loop-i
invariant-loop-i l = sets l.out l.at (hex l.i l.rest) ≡ sets l.initial.out l.at (hex l.k l.n)
