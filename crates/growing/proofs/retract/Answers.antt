-- `retract` releases the cell, and then the size falls. Assumes nothing.
use mathlib.Core.Path.{◌≡◌}
use mathlib.Core.Bool.{false, ◌||◌}
use mathlib.Core.List.{List}
use Prim.Native.Nat.{ℕ, ◌<◌}
use native.Mathlib.Omega.{arith}
use lib.IntN.{ℤ}
use lib.Dec.{ltb, eqb}
use borrow.Author.Tests.{ne_eqb}
use Rattle.rules.specs.Table.{Table, free, used}
use Rattle.cells.specs.Edits.{Shown, EveryTable, holding, Shrinks, Releases}
use Rattle.growing.specs.Branches.{Retracts}
use Rattle.cells.proofs.Holding.{held_each}
use Rattle.growing.proofs.retract.Goals as goal

module _ {base check : List ℤ} {u n : ℕ} {t : Table} (r : Retracts base check u n t) where
  releases : Releases base check u t
  releases = record { shown = r.shown; far = r.far; parent = r.parent }

  shrinks : {base' check' : List ℤ} → EveryTable (Releases base check u) (λ t. Shown base' check' (holding t u free)) →
      Shrinks base' check' n (holding t u free)
  unfolding used
  shrinks f = record {
    shown = f t releases;
    some = r.some;
    less = r.less;
    past = held_each t u free (λ v x. n < v → (eqb v 1 || ltb 0 x.parent) ≡ false)
        (λ h. rw (ne_eqb u 1 (λ e. omega (arith, r.far)))) (λ v d h. r.past v h d);
  }

pub shrink-requires : goal.shrink-requires
shrink-requires c =
    let (t, r) = c.requires in
    (_, shrinks r c.release.ensures)

pub returns : goal.returns
returns c = λ t r.
    c.shrink.ensures _ (shrinks r c.release.ensures)
