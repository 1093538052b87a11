-- What the walk below find promises, and the lookup that it is a part of. Both are asked of any text: they tell how far it has codes.
use Rattle.std.specs.Prelude.{◌≡◌, true, cond, List, map, ℕ, ◌≤◌, ◌<◌, length, drop, ℤ, leb, Option, Some, None, Err}
use Rattle.rules.specs.declared.Refusal.TheVariants.{Key, Absent}
use Rattle.rules.specs.declared.Row.{Row}
use Rattle.rules.specs.Options.{some_row}
use Rattle.rules.specs.Answers.{Answer, found, found_or_absent}
use Rattle.rules.specs.WhatTheIndexDoes.{code_of, document01, coded, is_identifier}
use Rattle.rules.specs.Finding.{Reached, next_at, walk_at, row_found}

-- Done, with the row found; ABSENT where none is.
abbrev pub found_in : Option Row → Answer
found_in None = Err Absent
found_in (Some row) = found row.0

-- The cell that the walk reached, and how many characters were found.
pub record Reaches (w : Reached) (cell met : ℕ) : Type 0 where
  pub cell_is : cell ≡ w.cell
  pub met_is : met ≡ w.met

-- s is a cell of the arrays.
abbrev pub IsCell : List ℤ → ℕ → Type 0
IsCell base s = (1 ≤ s) × (s < length base)

module _ (base check : List ℤ) where
  -- The cell to which a character leads from s, or 0: one without a code leads nowhere.
  unfoldable pub step_at : ℕ → ℕ → ℕ
  step_at s b = cond (leb 1 (code_of b)) (next_at base check s (code_of b)) 0

  -- A walk along a text: the characters met have codes, so that what is left decides whether all have; where all have, it is the
  -- walk of 'Finding'.
  pub record Walked (key : List ℕ) (cell met : ℕ) : Type 0 where
    pub inside : IsCell base cell
    pub most : met ≤ length key
    pub left : coded document01 (drop met key) ≡ coded document01 key
    pub reaches : coded document01 key ≡ true → Reaches (walk_at base check 1 (map code_of key)) cell met

  -- The same, and the row found.
  pub record LooksUp (key : List ℕ) (cell met : ℕ) (row : Option Row) : Type 0 where
    pub walked : Walked key cell met
    pub row_is : coded document01 key ≡ true → row ≡ some_row (row_found base check document01 key)

  -- KEY where the text is no identifier; otherwise the row found, or ABSENT.
  unfoldable pub row_or_key : List ℕ → Answer
  row_or_key key = cond (is_identifier document01 key) (found_or_absent (row_found base check document01 key)) (Err Key)
