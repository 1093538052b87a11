-- What compaction does, step by step.
use Rattle.std.specs.Prelude.{◌≡◌, ℕ, zero, suc, ◌≤◌, ◌<◌}
use Rattle.rules.specs.WhatTheIndexDoes.{Profile}
use Rattle.rules.specs.Table.{Table, used, largest_used, child_codes}
use Rattle.rules.specs.Placement.{placed}
use Rattle.rules.specs.DeletionAndCompaction.{Moves, compaction_step}

-- The table after k steps, whether they move something or not.
unfoldable pub after : Profile → ℕ → Table → Table
after P zero t = t
after P (suc k) t = after P k (compaction_step P t).table

module _ (P : Profile) (t : Table) where
  -- The largest used cell, its parent, and the placed base for that parent's children.
  abbrev pub top : ℕ
  top = largest_used t.cells t.size

  abbrev pub owner : ℕ
  owner = (t.cells top).parent

  abbrev pub target : ℕ
  target = placed (used t.cells) t.size (child_codes t.cells owner P.greatest)

  -- A step has something to move: the children of the largest used cell's parent, to a smaller base.
  pub record Lowers : Type 0 where
    pub below : 1 < top
    pub lower : target < (t.cells owner).base

-- What n steps at most come to: `moves.count` of them move, one after another; if that is fewer than n, the next moves nothing.
pub record Taken (P : Profile) (n : ℕ) (t : Table) (moves : Moves) : Type 0 where
  pub most : moves.count ≤ n
  pub each : (i : ℕ) → i < moves.count → (compaction_step P (after P i t)).count ≡ 1
  pub full : moves.count ≡ n → moves.table ≡ after P n t
  pub stopped : moves.count < n → (compaction_step P (after P moves.count t)).count ≡ 0
  pub early : moves.count < n → moves.table ≡ after P (suc moves.count) t
