-- Sums over numbers from 1 on.
use Rattle.std.specs.Prelude.{ℕ, zero, suc, ◌+◌}

-- The sum of f from 1 to n.
unfoldable pub sum_to : ℕ → (ℕ → ℕ) → ℕ
sum_to zero f = 0
sum_to (suc n) f = f (suc n) + sum_to n f
