-- Document 01, 'Deletion and compaction', on a table, by the plain method.
use Rattle.std.specs.Prelude.{ℕ, zero, suc, cond, ◌&&◌, List, [], ◌∷◌, reverse, ltb, eqb}
use Rattle.rules.specs.WhatTheIndexDoes.{Profile, labels}
use Rattle.rules.specs.Table.{Cells, Table, free, update, used, largest_used, node, child_codes, childless}
use Rattle.rules.specs.Placement.{placed}
use Rattle.rules.specs.Insertion.{relocate}

-- A table, and the moves made.
pub record Moves : Type 0 where
  pub table : Table
  pub count : ℕ

-- The size becomes the largest used cell.
unfoldable pub trimmed : Cells → ℕ → Table
trimmed T size = record { cells = T; size = largest_used T size }

module _ (P : Profile) where
  -- Deletion frees the leaf at the end of the path, then each parent left without a child, up to but never including the
  -- root. A root left without children gets base 1; it has no child to move.
  unfoldable pub prune : Cells → List ℕ → Cells
  prune T [] = let bare = relocate T 1 1 in cond (childless T 1 P.greatest) bare T
  prune T (c ∷ path) =
      let t = node T (c ∷ path) in
      let rest = prune (update T t free) path in
      cond (childless T t P.greatest) rest T

  -- A step takes the largest used cell. If that is the root, no move. Otherwise, take its parent and the codes of that parent's
  -- children. If their placed base is smaller than the base held, the children move there: one move. In every case the size
  -- then becomes the largest used cell.
  unfoldable pub compaction_step : Table → Moves
  compaction_step t =
      let T = t.cells in
      let top = largest_used T t.size in
      let s = (T top).parent in
      let q = placed (used T) t.size (child_codes T s P.greatest) in
      let move : Moves = record { table = trimmed (relocate T s q) t.size; count = 1 } in
      let stay : Moves = record { table = trimmed T t.size; count = 0 } in
      cond (ltb 1 top && ltb q (T s).base) move stay

  -- Steps are repeated until n moves are made or a step moves nothing.
  unfoldable pub compaction_steps : ℕ → Table → Moves
  compaction_steps zero t = record { table = t; count = 0 }
  compaction_steps (suc n) t =
      let one = compaction_step t in
      let rest = compaction_steps n one.table in
      let more : Moves = record { table = rest.table; count = suc rest.count } in
      cond (eqb one.count 0) one more

  -- A live identifier is deleted; then one step runs.
  unfoldable pub deleted : Table → List ℕ → Table
  deleted t key = (compaction_step (record { cells = prune t.cells (reverse (labels P key)); size = t.size })).table

  -- Compact trims the size as a step does, then repeats steps.
  unfoldable pub compacted : ℕ → Table → Moves
  compacted n t = compaction_steps n (trimmed t.cells t.size)
