-- How a table is written into the two arrays, and read from them. What stands in check[0] and in the free cells exists here and
-- nowhere else, and is all in which one kind of table differs from another.
use Rattle.std.specs.Prelude.{ℕ, zero, suc, Bool, cond, not, ◌||◌, List, [], ◌∷◌, ℤ, leb, ltb, eqb}
use Rattle.numbers.specs.Stored.{positive, negative, plus_at, minus_at}
use Rattle.rules.specs.Ranges.{first_from}
use Rattle.rules.specs.WhatTheIndexDoes.{Profile}
use Rattle.rules.specs.Table.{Content, Cells, Table, free, used}
use Rattle.rules.specs.ASoundTable.{sound}

-- A kind of table: check[0] and a free cell's check are minus `link`, and `audit` is what its audit says of two arrays.
pub record Kind : Type 0 where
  pub link : Table → ℕ → ℕ
  pub audit : Profile → List ℤ → List ℤ → Bool

-- The next greater free cell after i; with none, size + 1.
unfoldable pub next_free : Table → ℕ → ℕ
next_free t i = first_from (λ u. ltb t.size u || not (used t.cells u)) t.size (suc i)

-- Document 01's kind: empty cells are chained by negated numbers.
abbrev pub chained : Kind
chained = record { link = next_free; audit = sound }

-- What base holds for a cell: its base, or minus its row.
unfoldable pub base_holds : Content → ℤ
base_holds x = cond (eqb x.row 0) (positive x.base) (negative x.row)

-- The element i of base: the size, then the cells.
unfoldable pub base_of : Table → ℕ → ℤ
base_of t i = cond (eqb i 0) (positive t.size) (base_holds (t.cells i))

-- The element i of check: the root's mark, a used cell's parent, a link in element 0 and in the free cells, and 0 past the size.
unfoldable pub check_of : Kind → Profile → Table → ℕ → ℤ
check_of K P t i =
    cond (eqb i 1) (positive P.mark)
    (cond (used t.cells i) (positive (t.cells i).parent)
    (cond (leb i t.size) (negative (K.link t i)) (positive 0)))

-- The n elements from i on.
unfoldable pub elements : (ℕ → ℤ) → ℕ → ℕ → List ℤ
elements f zero i = []
elements f (suc n) i = f i ∷ elements f n (suc i)

-- The array base of n elements.
unfoldable pub render_base : ℕ → Table → List ℤ
render_base n t = elements (base_of t) n 0

-- The array check of n elements.
unfoldable pub render_check : Kind → Profile → ℕ → Table → List ℤ
render_check K P n t = elements (check_of K P t) n 0

-- The cells that two arrays hold. Element 0 is the header, and the root has no parent.
unfoldable pub read_cells : List ℤ → List ℤ → Cells
read_cells base check t =
    cond (eqb t 0) free
    (record { parent = cond (eqb t 1) 0 (plus_at check t); base = plus_at base t; row = minus_at base t })

-- The table that two arrays hold, with its size.
unfoldable pub read_table : List ℤ → List ℤ → Table
read_table base check = record { cells = read_cells base check; size = plus_at base 0 }
