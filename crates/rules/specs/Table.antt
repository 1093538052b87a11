-- A table as an abstract thing: its size and, for each cell, a parent, a base and a row. It knows no chain and no minus sign;
-- both belong to the rendering into the two arrays. A table is a function of cells, so that no bound is argued about.
use Rattle.std.specs.Prelude.{ℕ, zero, suc, ◌+◌, Bool, cond, ◌&&◌, ◌||◌, List, [], ◌∷◌, length, ltb, eqb}
use Rattle.rules.specs.WhatTheIndexDoes.{Profile, labels}

-- What a cell holds: its parent's number, its base if it is an inner cell, its row if it is a leaf; 0 for what it has not.
-- The root has no parent, so that a child of s is a cell whose parent is s, and nothing else.
pub record Content : Type 0 where
  pub parent : ℕ
  pub base : ℕ
  pub row : ℕ

-- What a free cell holds: nothing.
abbrev pub free : Content
free = record { parent = 0; base = 0; row = 0 }

-- What an inner cell holds: its parent and its base.
abbrev pub inner : ℕ → ℕ → Content
inner s b = record { parent = s; base = b; row = 0 }

-- What a leaf holds: its parent and its row.
abbrev pub leaf : ℕ → ℕ → Content
leaf s n = record { parent = s; base = 0; row = n }

-- What each cell holds.
abbrev pub Cells : Type 0
Cells = ℕ → Content

-- The cells, and the size up to which they are used or free.
pub record Table : Type 0 where
  pub cells : Cells
  pub size : ℕ

-- The cells, with x in cell t.
unfoldable pub update : Cells → ℕ → Content → Cells
update T t x = λ u. cond (eqb u t) x (T u)

-- The empty table: the root alone, with base 1.
unfoldable pub empty : Table
empty = record { cells = update (λ u. free) 1 (inner 0 1); size = 1 }

-- A cell is used if it is the root or has a parent.
unfoldable pub used : Cells → ℕ → Bool
used T t = eqb t 1 || ltb 0 (T t).parent

-- The largest used cell up to k; the root is used in any case.
unfoldable pub largest_used : Cells → ℕ → ℕ
largest_used T zero = 1
largest_used T (suc k) = cond (used T (suc k)) (suc k) (largest_used T k)

-- The cell to which the label c leads from s, or 0, which is no cell.
unfoldable pub next : Cells → ℕ → ℕ → ℕ
next T s c = cond (ltb 0 (T s).base && eqb (T ((T s).base + c)).parent s) ((T s).base + c) 0

-- The cell to which labels lead from s, or 0.
unfoldable pub walk : Cells → ℕ → List ℕ → ℕ
walk T s [] = s
walk T s (c ∷ cs) = walk T (next T s c) cs

-- The cell to which a path leads from the root, or 0; a path is written from its last label to its first.
unfoldable pub node : Cells → List ℕ → ℕ
node T [] = 1
node T (c ∷ path) = next T (node T path) c

-- The row of an identifier, or 0 where it is not live.
unfoldable pub lookup : Profile → Cells → List ℕ → ℕ
lookup P T key = (T (walk T 1 (labels P key))).row

-- The codes of the children of s, from k down to 1.
unfoldable pub child_codes : Cells → ℕ → ℕ → List ℕ
child_codes T s zero = []
child_codes T s (suc k) = cond (eqb (next T s (suc k)) 0) (child_codes T s k) (suc k ∷ child_codes T s k)

-- Whether no label up to k leads on from s.
unfoldable pub childless : Cells → ℕ → ℕ → Bool
childless T s k = eqb (length (child_codes T s k)) 0
