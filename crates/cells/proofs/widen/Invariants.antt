-- `widen` links each cell that it passes to the next one. The loop's invariant: check is as it would be if the size were the last cell
-- before u. Assumes nothing.
use mathlib.Core.Path.{◌≡◌}
use mathlib.Core.List.{List}
use Prim.Native.Nat.{ℕ, ◌-◌, ◌≤◌, ◌<◌}
use lib.ListN.{length}
use lib.IntN.{ℤ}
use Rattle.cells.specs.Edits.{EveryTable, sized, Widens}
use Rattle.cells.proofs.Stores.{Holds, checks}
use Rattle.cells.proofs.widen.Given as goal

pub record Widening (base check₀ : List ℤ) (n : ℕ) (check : List ℤ) (i : ℕ) : Type 0 where
  pub same : length check ≡ length check₀
  pub fits : (n < length check₀) × (n < 65536)
  pub least : EveryTable (Widens base check₀ n) (λ t. t.size ≤ i)
  pub held : EveryTable (Widens base check₀ n) (λ t. Holds check (checks (sized t i)))

abbrev pub invariant-loop-u : goal.invariant-loop-u
invariant-loop-u l = Widening l.base l.initial.check l.n l.check (l.u - 1)
