-- What is asked of those who answer lines on a table known to be sound, and what they leave.
use Rattle.std.specs.Prelude.{◌≡◌, true, List, ℕ, ◌*◌, ◌≤◌, length, ℤ}
use Rattle.std.proofs.Math.Option.{Option}
use Rattle.rules.specs.Answers.{counted}
use Rattle.rules.specs.WhatTheIndexDoes.{document01, last_cell}
use Rattle.rules.specs.ASoundTable.{sound}
use Rattle.rules.specs.Rendering.{chained, read_table}
use Rattle.rules.specs.Commands.{Command}
use Rattle.rules.specs.ARun.{sheet_lines, Answered, answered_line, answered_lines}
use Rattle.rules.specs.Calls.{Edited, ended, stored}
use Rattle.rules.specs.Promised.{Runs}

-- ---- one line

module _ (base check : List ℤ) where
  -- What a line leaves, by its command or none.
  abbrev pub line_edit : Option Command → Edited
  line_edit o = stored chained document01 base check (answered_line document01 (last_cell base) (read_table base check) o)

-- ---- all of them

-- That the lines of a sheet be answered, with room for an answer to each.
pub record AnswersLines (base check : List ℤ) (sheet out : List ℕ) : Type 0 where
  pub whole : sound document01 base check ≡ true
  pub room : 11 * length (sheet_lines sheet) ≤ length out

-- The answers to the lines, and the table after them.
abbrev pub lines_answered : List ℤ → List ℤ → List ℕ → Answered
lines_answered base check sheet = answered_lines document01 (last_cell base) (read_table base check) (sheet_lines sheet)

-- What a run leaves where it is done, with the number of lines.
abbrev pub AllAnswered : List ℤ → List ℤ → List ℕ → List ℕ → ℕ → List ℤ → List ℤ → List ℕ → Type 0
AllAnswered base check sheet out r = Runs (ended chained document01 (length base) (read_table base check) sheet out) (counted r)
