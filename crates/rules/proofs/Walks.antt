-- A walk by its first label: it stops there, or goes on. Assumes nothing.
use mathlib.Core.Path.{◌≡◌}
use mathlib.Core.List.{List, ◌∷◌}
use Prim.Native.Nat.{ℕ, suc, ◌≤◌}
use native.Mathlib.Omega.{arith}
use lib.IntN.{ℤ}
use borrow.Author.Tests.{ne_eqb}
use Rattle.rules.specs.Finding.{next_at, walk_at}

-- The label c leads from the cell s to t.
module _ (base check : List ℤ) (s c : ℕ) (cs : List ℕ) {t : ℕ} (to : t ≡ next_at base check s c) where
  pub walk_stops : t ≡ 0 → walk_at base check s (c ∷ cs) ≡ record { cell = s; met = 0 }
  unfolding walk_at
  walk_stops z = rw (← to, z)

  pub walk_goes_on : 1 ≤ t → walk_at base check s (c ∷ cs) ≡ (let on = walk_at base check t cs in record { cell = on.cell; met = suc on.met })
  unfolding walk_at
  walk_goes_on h = rw (← to, ne_eqb t 0 (λ z. omega arith))
