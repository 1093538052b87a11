-- `prior` walks the chain up to u. The loop's invariant: p lies below u, on every chain in check that comes as far as u, and
-- names n. The measure is what is left to u. Assumes nothing.
use mathlib.Core.Path.{◌≡◌}
use mathlib.Core.Bool.{Bool, true}
use mathlib.Core.List.{List}
use Prim.Native.Nat.{ℕ, suc, ◌-◌, ◌≤◌, ◌<◌}
use lib.IntN.{ℤ}
use Rattle.numbers.specs.Stored.{minus_at}
use Rattle.placing.specs.Search.{Chain}
use Rattle.cells.proofs.prior.Given as goal

pub record Underway (check : List ℤ) (u p n : ℕ) : Type 0 where
  pub below : p < u
  pub on : (m : ℕ → Bool) (size : ℕ) → Chain m size check → u ≤ suc size → m p ≡ true
  pub names : n ≡ minus_at check p

abbrev pub invariant-loop-n : goal.invariant-loop-n
invariant-loop-n l = Underway l.check l.u.0 l.p l.n

abbrev pub decreases-loop-n : goal.decreases-loop-n
decreases-loop-n l = l.u.0 - l.n
