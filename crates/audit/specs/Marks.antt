-- The marks that the audit sets on each cell that is a parent, to know afterwards who has a child.
use Rattle.std.specs.Prelude.{◌≡◌, Bool, true, false, List, ℕ, ◌≤◌, ◌<◌, length, get_or, ℤ}
use Rattle.numbers.specs.Stored.{plus_at}
use Rattle.rules.specs.WhatTheIndexDoes.{Profile}
use Rattle.rules.specs.ASoundTable.{size_at, has_child}
use Rattle.audit.specs.Says.{Says}
use Rattle.audit.specs.Kept.{CellsKept}

-- Whether s is marked.
abbrev pub marked : List Bool → ℕ → Bool
marked marks s = get_or marks s false

module _ (base check : List ℤ) where
  -- There is a mark for each cell up to the size; the parent of every cell past t is marked, and no cell without a child.
  pub record MarksPast (t : ℕ) (marks : List Bool) : Type 0 where
    pub long : size_at base < length marks
    pub each : (u : ℕ) → t < u → u ≤ size_at base → 1 ≤ plus_at check u → marked marks (plus_at check u) ≡ true
    pub only : (s : ℕ) → marked marks s ≡ true → has_child base check s ≡ true

-- The cells are kept or not, and if they are, every parent is marked.
pub record CellsMarked (P : Profile) (base check : List ℤ) (marks : List Bool) (r : Bool) : Type 0 where
  pub kept : Says (CellsKept P base check) r
  pub parents : r ≡ true → MarksPast base check 1 marks
