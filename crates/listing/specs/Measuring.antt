-- How long the listing of a table is, cell by cell: each leaf has a line, and its line's length is told by its steps to the root.
use Rattle.std.specs.Prelude.{cond, List, ℕ, zero, suc, ◌+◌, ◌*◌, ℤ, ltb, eqb}
use Rattle.numbers.specs.Stored.{plus_at}
use Rattle.rules.specs.Finding.{row_of}
use Rattle.listing.specs.Visiting.{DEEPEST}

-- The steps from t to the root, where no more than k are made.
unfoldable pub steps_at : List ℤ → ℕ → ℕ → ℕ
steps_at check zero t = 0
steps_at check (suc k) t = cond (eqb t 1) 0 (suc (steps_at check k (plus_at check t)))

-- The length of a leaf's line: 11, and 2 for each of its steps but the last, which is the end mark's. Any other cell has no line.
unfoldable pub line_at : List ℤ → List ℤ → ℕ → ℕ
line_at base check t = cond (ltb 0 (row_of base t)) (9 + 2 * steps_at check DEEPEST t) 0
