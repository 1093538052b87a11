-- `prior` walks the chain up to u. Assumes nothing.
use mathlib.Core.Path.{◌≡◌}
use mathlib.Core.Bool.{Bool, true}
use mathlib.Core.List.{List}
use Prim.Native.Nat.{ℕ, suc, ◌≤◌, ◌<◌}
use native.Mathlib.Omega.{arith}
use lib.IntN.{ℤ}
use Rattle.numbers.specs.Stored.{minus_at}
use Rattle.placing.specs.Search.{Chain}
use Rattle.cells.proofs.prior.Invariants.{Underway}
use Rattle.cells.proofs.prior.Goals as goal

-- The cell n that p names, where it lies below u: it is on the chain, and names one farther on.
module _ {check : List ℤ} {u p n : ℕ} (w : Underway check u p n) (l : n < u) {m : ℕ → Bool} {size : ℕ}
    (chain : Chain m size check) (h : u ≤ suc size) where
  named_on : m n ≡ true
  named_on = rw (← w.names) at ((chain.link p (omega (arith, w.below)) (w.on m size chain h)).named (omega (arith, w.names)))

  named_farther : n < minus_at check n
  named_farther = (chain.link n (omega arith) named_on).after

pub known-n-requires : goal.known-n-requires
known-n-requires c =
    let l = c.loop-n in
    let w = c.requires in
    omega (arith, named_farther l.invariant (omega arith) w.chain w.within)

pub loop-n-smaller : goal.loop-n-smaller
loop-n-smaller c =
    let l = c.loop-n in
    let w = c.requires in
    omega (arith, named_farther l.invariant (omega arith) w.chain w.within, c.known-n.ensures.is)

pub loop-n-preserved : goal.loop-n-preserved
loop-n-preserved c =
    let l = c.loop-n in
    record { below = omega arith; on = λ m size. named_on l.invariant (omega arith); names = c.known-n.ensures.is }

pub returns : goal.returns
returns c =
    let l = c.loop-n in
    λ m size chain h. record { below = l.invariant.below; on = l.invariant.on m size chain h; reach = omega (arith, l.invariant.names) }
