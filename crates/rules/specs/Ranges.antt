-- Tests over ranges of numbers, and the first number that passes one.
use Rattle.std.specs.Prelude.{ℕ, zero, suc, Bool, true, false, cond, ◌&&◌, ◌||◌, leb}

-- Whether n lies from low to high.
unfoldable pub within : ℕ → ℕ → ℕ → Bool
within low high n = leb low n && leb n high

-- Whether each number from 1 to k passes.
unfoldable pub each_to : ℕ → (ℕ → Bool) → Bool
each_to zero test = true
each_to (suc k) test = test (suc k) && each_to k test

-- Whether some number from 1 to k passes.
unfoldable pub some_to : ℕ → (ℕ → Bool) → Bool
some_to zero test = false
some_to (suc k) test = test (suc k) || some_to k test

-- The first of q, q + 1, q + 2 and so on that passes, after at most n failures.
unfoldable pub first_from : (ℕ → Bool) → ℕ → ℕ → ℕ
first_from test zero q = q
first_from test (suc n) q = let next = first_from test n (suc q) in cond (test q) q next
