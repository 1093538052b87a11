-- `release` links the cell between the last free one below it and what that one named. Assumes nothing.
use mathlib.Core.List.{List}
use Prim.Native.Nat.{ℕ, ◌≤◌}
use native.Mathlib.Omega.{arith}
use lib.IntN.{ℤ}
use Rattle.rules.specs.Table.{Table}
use Rattle.placing.specs.Search.{Before, Precedes}
use Rattle.cells.specs.Edits.{Releases}
use Rattle.cells.proofs.NextFree.{unused}
use Rattle.cells.proofs.Shown.{shown_small}
use Rattle.cells.proofs.Relinking.{link_small, shown_walks, shown_before, put_in}
use Rattle.cells.proofs.release.Goals as goal

module _ {base check : List ℤ} {u : ℕ} {t : Table} (a : Releases base check u t) where
  inside : u ≤ t.size
  inside = a.shown.table.inside u a.parent

  before : {p : ℕ} → Precedes check u p → Before (unused t) check u p
  before = shown_before a.shown u inside

pub prior-p-requires : goal.prior-p-requires
prior-p-requires c = let (t, a) = c.requires in shown_walks a.shown _ (inside a) (omega (arith, a.far))

pub put-requires : goal.put-requires
put-requires c =
    let (t, a) = c.requires in
    omega (arith, inside a, shown_small a.shown)

pub put-requires-2 : goal.put-requires-2
put-requires-2 c =
    let (t, a) = c.requires in
    let b = before a c.prior-p.ensures in
    omega (arith, link_small a.shown _ b.on (omega (arith, inside a, b.below)), c.at-n.ensures.is)

pub returns : goal.returns
returns c = λ t a.
    rw (c.put-3.ensures, c.put-2.ensures, c.put.ensures, c.at-n.ensures.is)
    (put_in a.shown (before a c.prior-p.ensures) (inside a) a.far a.parent)
