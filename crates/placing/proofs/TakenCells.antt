-- Which cells count as used, by check. Assumes nothing.
use mathlib.Core.Path.{◌≡◌}
use mathlib.Core.Bool.{false, and-false}
use mathlib.Core.List.{List}
use Prim.Native.Nat.{ℕ, ◌≤◌, ◌<◌}
use lib.IntN.{ℤ}
use lib.Dec.{leb}
use borrow.Author.Tests.{le-leb, lt-leb}
use Rattle.numbers.specs.Stored.{plus_at}
use Rattle.placing.specs.Search.{taken_at}

module _ (check : List ℤ) (size u : ℕ) where
  -- Up to the size check alone decides.
  pub taken_within : u ≤ size → taken_at check size u ≡ leb 1 (plus_at check u)
  unfolding taken_at
  taken_within h = rw (le-leb u size h)

  pub taken_free : plus_at check u < 1 → taken_at check size u ≡ false
  unfolding taken_at
  taken_free p = rw (lt-leb 1 (plus_at check u) p, and-false)

  pub taken_past : size < u → taken_at check size u ≡ false
  unfolding taken_at
  taken_past h = rw (lt-leb u size h)
