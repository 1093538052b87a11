-- A number above 0 is some number, cell or row. Assumes nothing.
use Rattle.std.specs.Prelude.{Some}
use mathlib.Core.Path.{◌≡◌, refl}
use Prim.Native.Nat.{ℕ, zero, suc, ◌≤◌}
use native.Mathlib.Omega.{arith}
use Rattle.rules.specs.Options.{some_number, some_cell, some_row}

pub is_number : (n : ℕ) → 1 ≤ n → some_number n ≡ Some n
is_number zero h = absurd (omega arith)
is_number (suc n) h = refl

pub is_cell : (n : ℕ) → 1 ≤ n → some_cell n ≡ Some (record { 0 = n })
is_cell zero h = absurd (omega arith)
is_cell (suc n) h = refl

pub is_some_row : (n : ℕ) → 1 ≤ n → some_row n ≡ Some (record { 0 = n })
is_some_row zero h = absurd (omega arith)
is_some_row (suc n) h = refl
