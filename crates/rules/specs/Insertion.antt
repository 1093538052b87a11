-- Document 01, 'Insertion', on a table, by the plain method.
use Rattle.std.specs.Prelude.{ℕ, ◌+◌, ◌-◌, max, Bool, true, cond, ◌&&◌, ◌||◌, List, [], ◌∷◌, length, ltb, eqb}
use Rattle.rules.specs.WhatTheIndexDoes.{Profile, labels}
use Rattle.rules.specs.Table.{Content, Cells, Table, free, inner, leaf, update, used, next, child_codes}
use Rattle.rules.specs.Placement.{greatest_of, placed, fits}

-- ---- the children of s, whose base is b, move to base q

module _ (T : Cells) (s b q : ℕ) where
  -- Where a cell then is: a child of s as far from q as it was from b, any other where it was.
  unfoldable pub to : ℕ → ℕ
  to t = cond (eqb (T t).parent s) (t - b + q) t

  -- What a cell then holds. A moved child keeps its base; its own children's parent is its new cell; q is the base of s.
  unfoldable pub renamed : ℕ → Content
  renamed t = record { parent = to (T t).parent; base = cond (eqb t s) q (T t).base; row = (T t).row }

  -- What the cell u then holds: what a child brought there, or nothing where a child has left, or what it held.
  unfoldable pub moved : Cells
  moved u = cond (eqb (T (u - q + b)).parent s) (renamed (u - q + b)) (cond (eqb (T u).parent s) free (renamed u))

-- The base of s becomes q, and its children move.
unfoldable pub relocate : Cells → ℕ → ℕ → Cells
relocate T s q = moved T s (T s).base q

-- ---- the course of an insertion

-- The table after it, whether each placement in its course fits, and the number of children that changed cell.
pub record Course : Type 0 where
  pub table : Table
  pub fitted : Bool
  pub count : ℕ

-- From the node s, whose base leads to an unused cell for the label c: that cell is then used, and each further label gets the
-- placed base of its one code at the node before it. The leaf holds the row. The size grows to the greatest cell used.
unfoldable pub grow : ℕ → Cells → ℕ → ℕ → ℕ → List ℕ → ℕ → Course
grow last T size s c [] n =
    let t = (T s).base + c in
    record { table = record { cells = update T t (leaf s n); size = max size t }; fitted = true; count = 0 }
grow last T size s c (d ∷ ds) n =
    let t = (T s).base + c in
    let q = placed (used (update T t (inner s 1))) (max size t) (d ∷ []) in
    let on = grow last (update T t (inner s q)) (max size t) t d ds n in
    record { table = on.table; fitted = fits last (d ∷ []) q && on.fitted; count = 0 }

module _ (P : Profile) (last : ℕ) where
  -- The node s collides: its base becomes the placed base for its children's codes and the new one, and its children move.
  unfoldable pub collide : Cells → ℕ → ℕ → ℕ → List ℕ → ℕ → Course
  collide T size s c cs n =
      let codes = child_codes T s P.greatest in
      let q = placed (used T) size (c ∷ codes) in
      let on = grow last (relocate T s q) (max size (q + greatest_of (c ∷ codes))) s c cs n in
      record { table = on.table; fitted = fits last (c ∷ codes) q && on.fitted; count = length codes }

  -- At the node s, whose label c leads nowhere. If that label's cell is used or past the last cell, the node collides.
  unfoldable pub extend : Cells → ℕ → ℕ → ℕ → List ℕ → ℕ → Course
  extend T size s c cs n =
      let collision = collide T size s c cs n in
      let plain = grow last T size s c cs n in
      cond (used T ((T s).base + c) || ltb last ((T s).base + c)) collision plain

  -- The walk from s stops at a node with a label that leads nowhere.
  unfoldable pub insert_from : Cells → ℕ → ℕ → List ℕ → ℕ → Course
  insert_from T size s [] n = record { table = record { cells = T; size = size }; fitted = true; count = 0 }
  insert_from T size s (c ∷ cs) n =
      let on = insert_from T size (next T s c) cs n in
      let stop = extend T size s c cs n in
      cond (eqb (next T s c) 0) stop on

  -- An identifier that is not live is inserted with the row n.
  unfoldable pub inserted : Table → List ℕ → ℕ → Course
  inserted t key n = insert_from t.cells t.size 1 (labels P key) n
