-- What is said of an insertion's room.
use Rattle.std.specs.Prelude.{◌≡◌, true, false, List, ℕ, leb}
use Rattle.rules.specs.WhatTheIndexDoes.{Profile, is_identifier, is_row}
use Rattle.rules.specs.Table.{Table, lookup}
use Rattle.rules.specs.Insertion.{Course, inserted}

-- All placements in the course fit exactly if the size that it comes to is not past the last cell.
abbrev pub Honest : ℕ → Course → Type 0
Honest last course = course.fitted ≡ leb course.table.size last

-- The identifier and the row are allowed, the identifier is not live, and a placement of the course does not fit.
pub record Unplaced (P : Profile) (last : ℕ) (t : Table) (key : List ℕ) (n : ℕ) : Type 0 where
  pub identifier : is_identifier P key ≡ true
  pub row : is_row n ≡ true
  pub absent : lookup P t.cells key ≡ 0
  pub unfit : (inserted P last t key n).fitted ≡ false
