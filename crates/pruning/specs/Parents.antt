-- What is asked of those who look at a cell and free it, and its parents in their turn.
use Rattle.std.specs.Prelude.{◌≡◌, List, ℕ, ◌≤◌, length, ℤ}
use Rattle.rules.specs.WhatTheIndexDoes.{document01}
use Rattle.rules.specs.Table.{Table, node}
use Rattle.tree.specs.Soundness.{Tree}
use Rattle.cells.specs.Edits.{Shown}

-- That it be seen whether a label leads on from the inner cell s.
pub record Looks (base check : List ℤ) (s : ℕ) (t : Table) : Type 0 where
  pub shown : Shown base check t
  pub some : 1 ≤ s
  pub inside : s ≤ t.size
  pub based : 1 ≤ (t.cells s).base

-- A path of which F holds, and that F holds of every path.
abbrev pub SomePath : (List ℕ → Type 0) → Type 0
SomePath F = (path : List ℕ) × F path

abbrev pub EveryPath : (List ℕ → Type 0) → Type 0
EveryPath F = (path : List ℕ) → F path

-- That the inner cell u become free, if it is left without a child, and its parents in their turn. The path, of so many labels, leads
-- to it.
pub record Prunes (base check : List ℤ) (u depth : ℕ) (path : List ℕ) (t : Table) : Type 0 where
  pub shown : Shown base check t
  pub tree : Tree document01 t.cells t.size
  pub node_is : node t.cells path ≡ u
  pub depth_is : length path ≡ depth
  pub based : 1 ≤ (t.cells u).base
