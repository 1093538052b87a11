-- A relocation as a loop makes it: one child after another, by the codes taken before the first move; the base is set last.
-- (To test whether a cell is a child while children move is wrong: one that has moved can stand where another is looked for.)
use Rattle.std.specs.Prelude.{ℕ, ◌+◌, cond, List, [], ◌∷◌, eqb}
use Rattle.rules.specs.WhatTheIndexDoes.{Profile}
use Rattle.rules.specs.Table.{Content, Cells, free, child_codes}

-- What a cell holds, with u in the place of its parent t.
unfoldable pub under : ℕ → ℕ → Content → Content
under t u x = record { parent = cond (eqb x.parent t) u x.parent; base = x.base; row = x.row }

-- The cell t goes to u: its children's parent is then u, and t is free.
unfoldable pub hop : Cells → ℕ → ℕ → Cells
hop T t u v = cond (eqb v u) (T t) (cond (eqb v t) free (under t u (T v)))

-- The cells with these codes go from base b to base q, one after another, the last code's first.
unfoldable pub hops : Cells → ℕ → ℕ → List ℕ → Cells
hops T b q [] = T
hops T b q (c ∷ cs) = hop (hops T b q cs) (b + c) (q + c)

-- The base of s becomes q.
unfoldable pub rebase : Cells → ℕ → ℕ → Cells
rebase T s q v = record { parent = (T v).parent; base = cond (eqb v s) q (T v).base; row = (T v).row }

-- The codes of the children of s are taken; the children move; then the base of s becomes q.
unfoldable pub in_turn : Profile → Cells → ℕ → ℕ → Cells
in_turn P T s q = rebase (hops T (T s).base q (child_codes T s P.greatest)) s q
