-- The moves of a node's children, as changes of a table; and what is asked of those who make them in the arrays. Each leaves the
-- rendering of the table with that one thing changed.
use Rattle.std.specs.Prelude.{◌≡◌, ◌≢◌, false, List, ℕ, ◌+◌, ◌≤◌, ◌<◌, ℤ}
use Rattle.rules.specs.WhatTheIndexDoes.{GREATEST, document01}
use Rattle.rules.specs.Table.{Cells, Table, used, child_codes}
use Rattle.tree.specs.Soundness.{Tree}
use Rattle.tree.specs.Moved.{Fit}
use Rattle.tree.specs.MovingInTurn.{under}
use Rattle.tree.specs.Members.{Among}
use Rattle.cells.specs.Edits.{Shown}

-- The children of the cell t handed to the cell u.
unfoldable pub handed : Cells → ℕ → ℕ → Cells
handed T t u v = under t u (T v)

-- ---- what is asked

-- Where the children of a cell lie: past its base, not farther than the greatest code.
abbrev pub Below : Cells → ℕ → Type 0
Below T s = (v : ℕ) → (T v).parent ≡ s → (1 ≤ (T s).base) × ((T s).base < v) × (v ≤ (T s).base + GREATEST)

-- That the children of the cell old be handed to the cell new.
pub record Hands (base check : List ℤ) (old new : ℕ) (t : Table) : Type 0 where
  pub shown : Shown base check t
  pub far : 2 ≤ old
  pub some : 1 ≤ new
  pub inside : new ≤ t.size
  pub below : Below t.cells old

-- That what the cell old holds go to the unused cell new.
pub record Hops (base check : List ℤ) (old new : ℕ) (t : Table) : Type 0 where
  pub shown : Shown base check t
  pub far : 2 ≤ old
  pub parent : 1 ≤ (t.cells old).parent
  pub apart : (t.cells old).parent ≢ old
  pub within : (t.cells old).parent ≤ t.size
  pub below : Below t.cells old
  pub some : 1 ≤ new
  pub inside : new ≤ t.size
  pub unused : used t.cells new ≡ false

-- That the children of s, whose codes these are, move to base q.
pub record Relocates (base check : List ℤ) (s q : ℕ) (codes : List ℕ) (t : Table) : Type 0 where
  pub shown : Shown base check t
  pub tree : Tree document01 t.cells t.size
  pub fit : Fit t.cells s (t.cells s).base q
  pub small : q < 65536
  pub codes_are : codes ≡ child_codes t.cells s GREATEST
  pub inside : (c : ℕ) → Among c codes → q + c ≤ t.size

-- That the codes of the children of s be collected.
pub record Collects (base check : List ℤ) (s : ℕ) (t : Table) : Type 0 where
  pub shown : Shown base check t
  pub some : 1 ≤ s
  pub inside : s ≤ t.size
  pub based : 1 ≤ (t.cells s).base
