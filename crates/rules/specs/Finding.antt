-- Document 01, 'Finding': the walk through two arrays of any contents. It runs no audit and does not read base[0].
use Rattle.std.specs.Prelude.{ℕ, suc, ◌+◌, Bool, cond, ◌&&◌, List, [], ◌∷◌, map, length, ℤ, leb, eqb}
use Rattle.numbers.specs.Stored.{plus_at, minus_at}
use Rattle.rules.specs.WhatTheIndexDoes.{END, Profile, is_row, last_cell}

-- Where a walk stopped, and how many labels led on.
pub record Reached : Type 0 where
  pub cell : ℕ
  pub met : ℕ

-- Minus base[t], if t is a cell and it is in the range of rows; otherwise 0.
unfoldable pub row_of : List ℤ → ℕ → ℕ
row_of base t = cond (leb 1 t && is_row (minus_at base t)) (minus_at base t) 0

module _ (base check : List ℤ) where
  -- Whether the walk goes on from s with the label c: base[s] is 1 or more, t = base[s] + c is not past the last cell, and
  -- check[t] = s. From 0, which is no cell, it does not.
  unfoldable pub leads : ℕ → ℕ → Bool
  leads s c =
      leb 1 s
      && (leb 1 (plus_at base s)
      && (leb (plus_at base s + c) (last_cell base) && eqb (plus_at check (plus_at base s + c)) s))

  -- The cell to which the label c leads from s, or 0.
  unfoldable pub next_at : ℕ → ℕ → ℕ
  next_at s c = cond (leads s c) (plus_at base s + c) 0

  -- The walk from s along labels: the cell at which it stops, where a label leads nowhere or none is left.
  unfoldable pub walk_at : ℕ → List ℕ → Reached
  walk_at s [] = record { cell = s; met = 0 }
  walk_at s (c ∷ cs) =
      let t = next_at s c in
      let on = walk_at t cs in
      let further : Reached = record { cell = on.cell; met = suc on.met } in
      cond (eqb t 0) (record { cell = s; met = 0 }) further

  -- The cell to which the end mark leads after a walk along n characters; 0 where one of them led nowhere.
  unfoldable pub leaf_after : ℕ → Reached → ℕ
  leaf_after n w = cond (eqb w.met n) (next_at w.cell END) 0

  -- The cell after an identifier's end mark, or 0.
  unfoldable pub leaf_at : Profile → List ℕ → ℕ
  leaf_at P key = leaf_after (length key) (walk_at 1 (map P.code key))

  -- The row found after the end mark, or 0.
  unfoldable pub row_found : Profile → List ℕ → ℕ
  row_found P key = row_of base (leaf_at P key)
