-- What a stored number says on either side of 0. Above this crate a number of an array is read by `plus_at` and `minus_at`
-- and written as `positive n` or `negative n`; nobody there looks at its sign.
use Rattle.std.specs.Prelude.{◌≡◌, List, ℕ, zero, suc, ◌+◌, ◌≤◌, get_or, ℤ, pos, negsuc}

-- The number n, as it is stored.
abbrev pub positive : ℕ → ℤ
positive n = pos n

-- Minus n, as it is stored.
abbrev pub negative : ℕ → ℤ
negative zero = pos 0
negative (suc n) = negsuc n

-- n for n, and 0 for a negative number.
abbrev pub plus_of : ℤ → ℕ
plus_of (pos n) = n
plus_of (negsuc n) = 0

-- n for minus n, and 0 for 0 or more.
abbrev pub minus_of : ℤ → ℕ
minus_of (pos n) = 0
minus_of (negsuc n) = suc n

-- `plus_of` the element i, and 0 past the end.
abbrev pub plus_at : List ℤ → ℕ → ℕ
plus_at xs i = plus_of (get_or xs i (pos 0))

-- `minus_of` the element i, and 0 past the end.
abbrev pub minus_at : List ℤ → ℕ → ℕ
minus_at xs i = minus_of (get_or xs i (pos 0))

-- How far a number is from 0.
abbrev pub away_of : ℤ → ℕ
away_of z = plus_of z + minus_of z

-- `away_of` the element i, and 0 past the end.
abbrev pub away_at : List ℤ → ℕ → ℕ
away_at xs i = away_of (get_or xs i (pos 0))

-- The greatest number that an i32 holds on both sides of 0.
abbrev pub greatest_stored : ℕ
greatest_stored = 2147483647

-- What a read gives: the number n, at most one more than the greatest.
pub record Reads (n r : ℕ) : Type 0 where
  pub is : r ≡ n
  pub small : r ≤ 2147483648
