-- `put_hexes` writes characters one by one. Assumes nothing.
use mathlib.Core.Path.{◌∙◌}
use native.Mathlib.Omega.{arith}
use lib.ListN.{drop_of_length-le}
use Rattle.rules.specs.Listing.{hexes}
use Rattle.text.proofs.Hexadecimal.{hexes_step}
use Rattle.text.proofs.put_hexes.Goals as goal

pub loop-i-preserved : goal.loop-i-preserved
loop-i-preserved c =
    rw c.put_hex.ensures (hexes_step c.loop-i.out c.args.key.now c.args.at c.loop-i.i (omega arith)) ∙ c.loop-i.invariant

pub returns : goal.returns
unfolding hexes
returns c = rw (drop_of_length-le c.args.key.now c.loop-i-test.false) at c.loop-i.invariant
