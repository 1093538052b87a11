-- `are_cells_kept` looks at the cells downwards: it asks each, keeps the free cell met last, and marks the parents. Assumes
-- nothing.
use Rattle.std.proofs.Common.{◌≡◌, Bool, List, ℕ, ◌≤◌, ◌-◌}
use Rattle.std.specs.Prelude.{ℤ}
use Rattle.rules.specs.WhatTheIndexDoes.{document01}
use Rattle.rules.specs.ASoundTable.{size_at, next_free_at}
use Rattle.audit.specs.Kept.{KeptPast}
use Rattle.audit.specs.Marks.{MarksPast}
use Rattle.audit.proofs.Stated.are_cells_kept.Given as goal

-- Every cell past `left` has been looked at and is kept, `next` is the free cell met last, and the parents are marked.
pub record Looked (base check : List ℤ) (marks : List Bool) (next left : ℕ) : Type 0 where
  pub low : 1 ≤ left
  pub high : left ≤ size_at base
  pub kept : KeptPast document01 base check left
  pub parents : MarksPast base check left marks
  pub link : next ≡ next_free_at base check left

abbrev pub invariant-loop-t : goal.invariant-loop-t
invariant-loop-t l = Looked l.self.base.now l.self.check.now l.parents l.next (l.t - 1)
