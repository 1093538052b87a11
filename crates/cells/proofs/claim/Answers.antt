-- `claim` widens the table to the cell, and has the last free cell below it name what it named. Assumes nothing.
use mathlib.Core.Path.{ap}
use mathlib.Core.Bool.{not}
use mathlib.Core.List.{List}
use Prim.Native.Nat.{ℕ}
use native.Mathlib.Omega.{arith}
use lib.IntN.{ℤ}
use Rattle.rules.specs.Table.{Table}
use Rattle.cells.specs.Edits.{Widens, Claims}
use Rattle.cells.proofs.Shown.{shown_small}
use Rattle.cells.proofs.Relinking.{link_small, shown_walks, shown_before, take_out}
use Rattle.cells.proofs.claim.Goals as goal

widens : {base check : List ℤ} {u s : ℕ} {t : Table} → Claims base check u s t → Widens base check u t
widens a = record { shown = a.shown; fits = a.fits }

pub prior-p-requires : goal.prior-p-requires
prior-p-requires c =
    let (t, a) = c.requires in
    shown_walks (c.widen.ensures t (widens a)) _ (omega arith) a.some

pub put-requires : goal.put-requires
put-requires c =
    let (t, a) = c.requires in
    omega (arith, link_small (c.widen.ensures t (widens a)) _ (ap not a.unused) (omega arith), c.at-n.ensures.is)

pub put-requires-2 : goal.put-requires-2
put-requires-2 c =
    let (t, a) = c.requires in
    omega (arith, a.inside, shown_small a.shown)

pub returns : goal.returns
returns c = λ t a.
    let wide = c.widen.ensures t (widens a) in
    let b = shown_before wide _ (omega arith) c.prior-p.ensures in
    rw (c.put-2.ensures, c.put.ensures, c.at-n.ensures.is)
    (take_out wide b (omega arith) a.some a.unused _ a.parent)
