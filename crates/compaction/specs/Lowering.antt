-- What the parts of a compaction are asked, and what they leave.
use Rattle.std.specs.Prelude.{◌≡◌, Bool, cond, List, ℕ, ◌<◌, ℤ}
use Rattle.rules.specs.WhatTheIndexDoes.{GREATEST, document01}
use Rattle.rules.specs.Table.{Table, child_codes}
use Rattle.rules.specs.DeletionAndCompaction.{Moves, compaction_step}
use Rattle.tree.specs.Soundness.{Sound}
use Rattle.tree.specs.StepsTaken.{top, owner}
use Rattle.cells.specs.Edits.{Shown, celled}

-- ---- what is asked

-- That a sound table be compacted, by one step or by several.
pub record Steps (base check : List ℤ) (t : Table) : Type 0 where
  pub shown : Shown base check t
  pub whole : Sound document01 t

-- The same, where the largest used cell is not the root but a child of s, and these are the codes of the children of s.
pub record LowersChildren (base check : List ℤ) (s : ℕ) (codes : List ℕ) (t : Table) : Type 0 where
  pub steps : Steps base check t
  pub below : 1 < top document01 t
  pub owner_is : s ≡ owner document01 t
  pub codes_are : codes ≡ child_codes t.cells s GREATEST

-- ---- what is left

-- The cells that a step leaves, at the size that it found.
abbrev pub lowering : Table → Moves
lowering t =
    let one = compaction_step document01 t in
    record { table = celled t one.table.cells; count = one.count }

-- The moves of one step: 1 where it moved a node's children.
abbrev pub move_count : Bool → ℕ
move_count moved = cond moved 1 0

-- The number of moves, and the rendering of what they leave.
pub record Moved (moves : Moves) (r : ℕ) (base check : List ℤ) : Type 0 where
  pub count_is : r ≡ moves.count
  pub left : Shown base check moves.table
