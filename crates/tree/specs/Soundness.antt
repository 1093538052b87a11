-- Soundness of an abstract table, in the form that edits keep: a tree below the root, in which each other inner cell has a child
-- and each leaf lies at an identifier's depth. `SevenRules` shows that it is what rules 1 to 7 say of the two arrays.
use Rattle.std.specs.Prelude.{◌≡◌, ◌≢◌, true, List, ℕ, suc, ◌+◌, ◌≤◌, length}
use Rattle.rules.specs.WhatTheIndexDoes.{END, Profile, is_row}
use Rattle.rules.specs.Table.{Content, Cells, Table, free, next, node}

-- The label c leads from s to t.
pub record Step (T : Cells) (s c t : ℕ) : Type 0 where
  pub based : 1 ≤ (T s).base
  pub at : t ≡ (T s).base + c
  pub back : (T t).parent ≡ s

-- What a cell holds, by the code that leads to it: the end mark leads to a leaf, any other code to an inner cell.
pub data Held (c : ℕ) (x : Content) : Type 0 where
  a_leaf : c ≡ END → x.base ≡ 0 → is_row x.row ≡ true → Held c x
  an_inner : 2 ≤ c → 1 ≤ x.base → x.row ≡ 0 → Held c x

-- The row at the end of a path, or 0.
abbrev pub row_at : Cells → List ℕ → ℕ
row_at T path = (T (node T path)).row

-- Every inner cell but x and the root has a child. `Fruit T 0` excepts the root alone, for 0 is no cell.
abbrev pub Fruit : Cells → ℕ → Type 0
Fruit T x = (u : ℕ) → u ≢ x → 1 ≤ (T u).parent → 1 ≤ (T u).base → (c : ℕ) × (1 ≤ next T u c)

-- A root without children has base 1.
abbrev pub Bare : Cells → Type 0
Bare T = ((c : ℕ) → next T 1 c ≡ 0) → (T 1).base ≡ 1

module _ (P : Profile) where
  -- How a used cell other than the root sits below its parent.
  pub record Sits (T : Cells) (t : ℕ) : Type 0 where
    pub code : ℕ
    pub step : Step T (T t).parent code t
    pub low : 1 ≤ code
    pub high : code ≤ P.greatest
    pub held : Held code (T t)

  -- What every edit keeps on its way, also while a new branch is half built.
  pub record Tree (T : Cells) (size : ℕ) : Type 0 where
    pub nowhere : T 0 ≡ free
    pub root_parent : (T 1).parent ≡ 0
    pub root_base : 1 ≤ (T 1).base
    pub root_row : (T 1).row ≡ 0
    pub blank : (t : ℕ) → t ≢ 1 → (T t).parent ≡ 0 → T t ≡ free
    pub sits : (t : ℕ) → 1 ≤ (T t).parent → Sits T t
    pub reach : (t : ℕ) → 1 ≤ (T t).parent → (path : List ℕ) × (node T path ≡ t)
    pub some : 1 ≤ size
    pub inside : (t : ℕ) → 1 ≤ (T t).parent → t ≤ size

  -- A leaf lies 2 to limit + 1 steps below the root: an identifier's characters and its end mark.
  abbrev pub Deep : Cells → Type 0
  Deep T = (path : List ℕ) → 1 ≤ row_at T path → (2 ≤ length path) × (length path ≤ suc P.limit)

  -- A sound table.
  pub record Sound (t : Table) : Type 0 where
    pub tree : Tree t.cells t.size
    pub fruit : Fruit t.cells 0
    pub bare : Bare t.cells
    pub deep : Deep t.cells
