-- `trim` shrinks the size to the largest used cell. Assumes nothing.
use mathlib.Core.Path.{◌≡◌}
use mathlib.Core.List.{List}
use Prim.Native.Nat.{ℕ}
use native.Mathlib.Omega.{arith}
use lib.IntN.{ℤ}
use Rattle.rules.specs.Table.{Table, used, largest_used}
use Rattle.rules.specs.DeletionAndCompaction.{trimmed}
use Rattle.rules.proofs.Choices.{fails}
use Rattle.tree.proofs.LargestUsed.{largest_pos, largest_low, largest_high}
use Rattle.cells.specs.Edits.{Shown, Shrinks}
use Rattle.cells.proofs.Holding.{used_inside}
use Rattle.cells.proofs.trim.Goals as goal

trims : {base check : List ℤ} {t : Table} {n : ℕ} → Shown base check t → n ≡ largest_used t.cells t.size → Shrinks base check n t
trims {t = t} s e =
    let T = t.cells in
    let w = s.table in
    record {
      shown = s;
      some = omega (arith, largest_pos T t.size);
      less = omega (arith, largest_low T t.size w.some);
      past = λ u l. fails (used T u) (λ f. omega (arith, largest_high T t.size u f (used_inside w u f)));
    }

pub shrink-requires : goal.shrink-requires
shrink-requires c =
    let (t, s) = c.requires in
    (t, trims s (c.largest_used-n.ensures t s))

pub returns : goal.returns
unfolding trimmed
returns c = λ t s.
    let e = c.largest_used-n.ensures t s in
    rw e at (c.shrink.ensures t (trims s e))
