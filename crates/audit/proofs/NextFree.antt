-- The next greater free cell, from one cell down to the one below it. Assumes nothing.
use mathlib.Core.Path.{◌≡◌}
use mathlib.Core.Bool.{Bool, true, ◌||◌, or-true}
use mathlib.Core.List.{List}
use Prim.Native.Nat.{ℕ, suc, ◌≤◌, ◌<◌}
use native.Mathlib.Omega.{arith}
use lib.IntN.{ℤ}
use lib.Dec.{ltb}
use borrow.Author.Tests.{lt-ltb, le-ltb, le-leb}
use Rattle.numbers.specs.Stored.{minus_at}
use Rattle.rules.specs.ASoundTable.{size_at, free_at, next_free_at}
use Rattle.rules.proofs.Ranges.{first_low, first_here, first_skip}

module _ (base check : List ℤ) where
  -- What the next greater free cell passes, or the size + 1 in its place.
  abbrev passes : ℕ → Bool
  passes u = ltb (size_at base) u || free_at base check u

  past_passes : (u : ℕ) → size_at base < u → passes u ≡ true
  past_passes u h = rw (lt-ltb (size_at base) u h)

  pub next_free_past : (t : ℕ) → t < next_free_at base check t
  unfolding next_free_at
  next_free_past t = first_low passes (size_at base) (suc t)

  pub next_free_last : next_free_at base check (size_at base) ≡ suc (size_at base)
  unfolding next_free_at
  next_free_last = first_here passes (size_at base) (suc (size_at base)) (past_passes _ (omega arith))

  -- Below a free cell it is that cell.
  pub next_free_here : (t : ℕ) → 1 ≤ minus_at check (suc t) → next_free_at base check t ≡ suc t
  unfolding next_free_at free_at
  next_free_here t h = first_here passes (size_at base) (suc t) (rw (le-leb 1 (minus_at check (suc t)) h, or-true))

  -- Below a used cell it is the same as past it.
  pub next_free_on : (t : ℕ) → suc t ≤ size_at base → minus_at check (suc t) ≡ 0 → next_free_at base check t ≡ next_free_at base check (suc t)
  unfolding next_free_at free_at
  next_free_on t h z = first_skip passes (size_at base) (suc t)
      (rw (le-ltb (size_at base) (suc t) h, z))
      (past_passes _ (omega arith))
      (past_passes _ (omega arith))
