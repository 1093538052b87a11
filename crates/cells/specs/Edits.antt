-- The edits of single cells and of the size, as changes of a table; and what is asked of those who make them in the arrays. Each
-- leaves the rendering of the table with that one thing changed.
use Rattle.std.specs.Prelude.{◌≡◌, false, List, ℕ, ◌≤◌, ◌<◌, max, ℤ}
use Rattle.rules.specs.WhatTheIndexDoes.{document01, last_cell}
use Rattle.rules.specs.Table.{Content, Cells, Table, inner, update, used}
use Rattle.rules.specs.Rendering.{chained}
use Rattle.tree.specs.Renders.{Shows}

-- The arrays are document 01's rendering of t, a tidy table.
abbrev pub Shown : List ℤ → List ℤ → Table → Type 0
Shown = Shows chained document01

-- ---- tables with one thing changed

-- Other cells, the same size.
abbrev pub celled : Table → Cells → Table
celled t T = record { cells = T; size = t.size }

-- The same cells, another size: cells past the old size are free, or those past the new one are no longer counted.
abbrev pub sized : Table → ℕ → Table
sized t n = record { cells = t.cells; size = n }

-- x in cell u.
abbrev pub holding : Table → ℕ → Content → Table
holding t u x = celled t (update t.cells u x)

-- One cell more: x in cell u. The size grows where u lies past it.
abbrev pub more : Table → ℕ → Content → Table
more t u x = holding (sized t (max t.size u)) u x

-- The cell u claimed for a child of s, without a base yet.
abbrev pub claimed : Table → ℕ → ℕ → Table
claimed t u s = more t u (inner s 0)

-- ---- what is asked

-- A table of which F holds.
abbrev pub SomeTable : (Table → Type 0) → Type 0
SomeTable F = (t : Table) × F t

-- Of every table of which F holds, G holds.
abbrev pub EveryTable : (Table → Type 0) → (Table → Type 0) → Type 0
EveryTable F G = (t : Table) → F t → G t

-- That the size grow to n.
pub record Widens (base check : List ℤ) (n : ℕ) (t : Table) : Type 0 where
  pub shown : Shown base check t
  pub fits : n ≤ last_cell base

-- That the size fall to n.
pub record Shrinks (base check : List ℤ) (n : ℕ) (t : Table) : Type 0 where
  pub shown : Shown base check t
  pub some : 1 ≤ n
  pub less : n ≤ t.size
  pub past : (u : ℕ) → n < u → used t.cells u ≡ false

-- That the unused cell u be claimed for a child of s.
pub record Claims (base check : List ℤ) (u s : ℕ) (t : Table) : Type 0 where
  pub shown : Shown base check t
  pub some : 1 ≤ u
  pub fits : u ≤ last_cell base
  pub unused : used t.cells u ≡ false
  pub parent : 1 ≤ s
  pub inside : s ≤ t.size

-- That the used cell u become free.
pub record Releases (base check : List ℤ) (u : ℕ) (t : Table) : Type 0 where
  pub shown : Shown base check t
  pub far : 2 ≤ u
  pub parent : 1 ≤ (t.cells u).parent
