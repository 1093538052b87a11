-- `put_hex` writes the last digit first. Assumes nothing.
use mathlib.Core.Path.{◌≡◌, ◌∙◌}
use native.Mathlib.Omega.{arith}
use Rattle.rules.specs.Listing.{hex}
use Rattle.text.proofs.Hexadecimal.{digits, hex_step}
use Rattle.text.proofs.put_hex.Goals as goal

pub loop-i-preserved : goal.loop-i-preserved
unfolding digits
loop-i-preserved c =
    hex_step c.loop-i.out c.args.at c.loop-i.i c.loop-i.rest c.loop-i-test.true (omega arith) (omega arith) ∙ c.loop-i.invariant

pub returns : goal.returns
unfolding hex
returns c = let z : c.loop-i.i ≡ 0 = omega (arith, c.loop-i-test.false) in rw z at c.loop-i.invariant
