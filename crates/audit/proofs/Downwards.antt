-- A count downwards. Assumes nothing.
use mathlib.Core.Path.{◌≡◌}
use mathlib.Core.Logic.{⊎_elim}
use Prim.Native.Nat.{ℕ, ◌-◌, ◌<◌}
use native.Mathlib.Nat.{eq-or-lt_of_le}
use native.Mathlib.Omega.{arith}

-- What holds of every number past t, and of t, holds of every number past t - 1.
pub past_less : (F : ℕ → Type 0) (t : ℕ) → ((u : ℕ) → t < u → F u) → F t → (u : ℕ) → t - 1 < u → F u
past_less F t all here u h = ⊎_elim (λ (e : t ≡ u). rw (← e) here) (λ l. all u l) (eq-or-lt_of_le (omega arith))
