-- What is said of a table after an edit.
use Rattle.std.specs.Prelude.{◌≡◌, ◌≢◌, true, false, List, ℕ, ◌≤◌, ◌<◌}
use Rattle.rules.specs.WhatTheIndexDoes.{Profile}
use Rattle.rules.specs.Table.{Cells, Table, used, lookup}
use Rattle.tree.specs.Soundness.{row_at, Fruit, Tree, Sound}

-- R is a tree with the row n at the path (0: none), and otherwise with the rows of T; every inner cell but the root has a child.
pub record Meant (P : Profile) (T : Cells) (path : List ℕ) (n : ℕ) (R : Table) : Type 0 where
  pub tree : Tree P R.cells R.size
  pub here : row_at R.cells path ≡ n
  pub else : (r : List ℕ) → r ≢ path → row_at R.cells r ≡ row_at T r
  pub fruit : Fruit R.cells 0

-- The table t' is sound, has the row n at key (0: none), and at any other string what t has.
pub record Now (P : Profile) (t : Table) (key : List ℕ) (n : ℕ) (t' : Table) : Type 0 where
  pub sound : Sound P t'
  pub here : lookup P t'.cells key ≡ n
  pub else : (j : List ℕ) → j ≢ key → lookup P t'.cells j ≡ lookup P t.cells j

-- t' is sound, means what t means, and is no larger.
pub record Same (P : Profile) (t t' : Table) : Type 0 where
  pub sound : Sound P t'
  pub rows : (path : List ℕ) → row_at t'.cells path ≡ row_at t.cells path
  pub less : t'.size ≤ t.size

-- The size is the largest used cell.
pub record Trimmed (t : Table) : Type 0 where
  pub last : used t.cells t.size ≡ true
  pub past : (u : ℕ) → t.size < u → used t.cells u ≡ false
