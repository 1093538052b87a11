-- What the parts of an insertion are asked, and what they leave.
use Rattle.std.specs.Prelude.{◌≡◌, true, cond, Err, List, ◌∷◌, ℕ, ◌+◌, ◌≤◌, max, ℤ}
use Rattle.rules.specs.declared.Refusal.TheVariants.{NoRoom}
use Rattle.rules.specs.Answers.{Answer, counted}
use Rattle.rules.specs.WhatTheIndexDoes.{GREATEST, document01, is_identifier, is_row, last_cell}
use Rattle.rules.specs.Table.{Table, used, next, child_codes}
use Rattle.rules.specs.ASoundTable.{sound}
use Rattle.rules.specs.Placement.{greatest_of, placed}
use Rattle.rules.specs.Insertion.{relocate, Course, collide, extend}
use Rattle.tree.specs.Soundness.{Tree}
use Rattle.tree.specs.Labels.{first_label, further_labels}
use Rattle.cells.specs.Edits.{Shown, celled, sized}
use Rattle.growing.specs.Branches.{leaves}

-- ---- courses, from the node s with what is left of an identifier

module _ (last : ℕ) (t : Table) (s : ℕ) (rest : List ℕ) (row : ℕ) where
  -- The node collides.
  abbrev pub collision : Course
  collision = collide document01 last t.cells t.size s (first_label document01 rest) (further_labels document01 rest) row

  -- It collides, or the rest grows from it.
  abbrev pub extension : Course
  extension = extend document01 last t.cells t.size s (first_label document01 rest) (further_labels document01 rest) row

-- ---- what is asked

-- That an identifier be inserted with a row into a table known to be sound.
pub record Inserts (base check : List ℤ) (key : List ℕ) (row : ℕ) : Type 0 where
  pub whole : sound document01 base check ≡ true
  pub identifier : is_identifier document01 key ≡ true
  pub row_is : is_row row ≡ true

-- That the rest of an identifier be put below the node s, where its first label leads nowhere.
pub record Extends (base check : List ℤ) (s : ℕ) (rest : List ℕ) (row : ℕ) (t : Table) : Type 0 where
  pub shown : Shown base check t
  pub tree : Tree document01 t.cells t.size
  pub based : 1 ≤ (t.cells s).base
  pub near : (t.cells s).base ≤ t.size
  pub low : 1 ≤ first_label document01 rest
  pub nowhere : next t.cells s (first_label document01 rest) ≡ 0
  pub row_is : is_row row ≡ true

-- The same, with the codes to be placed: the new one and behind it those of the children of s.
pub record PlacesAnew (base check : List ℤ) (s : ℕ) (rest : List ℕ) (row : ℕ) (codes : List ℕ) (t : Table) : Type 0 where
  pub extends : Extends base check s rest row t
  pub codes_are : codes ≡ first_label document01 rest ∷ child_codes t.cells s GREATEST

-- The same, with the codes of the children of s, the placed base q and the greatest cell then used, which is not past the last.
pub record MovesAndGrows (base check : List ℤ) (s : ℕ) (rest : List ℕ) (row q far : ℕ) (codes : List ℕ) (t : Table) : Type 0 where
  pub extends : Extends base check s rest row t
  pub codes_are : codes ≡ child_codes t.cells s GREATEST
  pub placed_is : q ≡ placed (used t.cells) t.size (first_label document01 rest ∷ codes)
  pub far_is : far ≡ q + greatest_of (first_label document01 rest ∷ codes)
  pub fits : far ≤ last_cell base

-- ---- what is left

-- The children of s at base q, and a size that includes the cell far.
abbrev pub relocated : Table → ℕ → ℕ → ℕ → Table
relocated t s q far = celled (sized t (max t.size far)) (relocate t.cells s q)

-- The answer to a course, and the rendering of what it leaves.
pub record Extended (course : Course) (t : Table) (r : Answer) (base check : List ℤ) : Type 0 where
  pub answer : r ≡ cond course.fitted (counted course.count) (Err NoRoom)
  pub left : Shown base check (leaves course t)
