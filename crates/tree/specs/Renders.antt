-- What it is that two arrays are the rendering of a table, and what a table keeps even while a node's children move.
use Rattle.std.specs.Prelude.{◌≡◌, ◌≢◌, true, List, ℕ, ◌≤◌, length, ℤ}
use Rattle.rules.specs.WhatTheIndexDoes.{Profile, right_lengths, last_cell}
use Rattle.rules.specs.Table.{Table, free}
use Rattle.rules.specs.Rendering.{Kind, render_base, render_check}
use Rattle.tree.specs.Soundness.{Sound}

-- The arrays are the rendering of t, of which F holds.
pub record Rendering (F : Table → Type 0) (K : Kind) (P : Profile) (base check : List ℤ) (t : Table) : Type 0 where
  pub lengths : right_lengths base check ≡ true
  pub table : F t
  pub fits : t.size ≤ last_cell base
  pub base_is : base ≡ render_base (length base) t
  pub check_is : check ≡ render_check K P (length base) t

-- What rules 1 to 7 come to: the arrays are the rendering of a sound table.
abbrev pub Renders : Kind → Profile → List ℤ → List ℤ → Table → Type 0
Renders K P = Rendering (Sound P) K P

-- What an edit keeps at each of its stores: the root has no parent, only a used cell holds anything, none lies past the size, which
-- is 1 or more, and none has both a base and a row.
pub record Tidy (t : Table) : Type 0 where
  pub nowhere : t.cells 0 ≡ free
  pub root_parent : (t.cells 1).parent ≡ 0
  pub blank : (u : ℕ) → u ≢ 1 → (t.cells u).parent ≡ 0 → t.cells u ≡ free
  pub some : 1 ≤ t.size
  pub inside : (u : ℕ) → 1 ≤ (t.cells u).parent → u ≤ t.size
  pub one_kind : (u : ℕ) → 1 ≤ (t.cells u).row → (t.cells u).base ≡ 0

-- The arrays are the rendering of a tidy table.
abbrev pub Shows : Kind → Profile → List ℤ → List ℤ → Table → Type 0
Shows K P = Rendering Tidy K P
