-- What those who put a branch below a node are asked, and what they leave.
use Rattle.std.specs.Prelude.{◌≡◌, ◌≢◌, Bool, true, false, cond, Option, Some, None, Result, Ok, Err, List, [], ◌∷◌, ℕ, ◌+◌, ◌≤◌, ◌<◌, leb, ℤ}
use Rattle.rules.specs.declared.Refusal.{Refusal}
use Rattle.rules.specs.declared.Refusal.TheVariants.{NoRoom}
use Rattle.rules.specs.WhatTheIndexDoes.{GREATEST, document01, is_row, last_cell}
use Rattle.rules.specs.Table.{Table, free, used}
use Rattle.rules.specs.Placement.{placed}
use Rattle.rules.specs.Insertion.{Course, grow}
use Rattle.tree.specs.Labels.{first_label, further_labels}
use Rattle.cells.specs.Edits.{Shown, sized, holding, claimed}

-- What `label` gives: the first label, not past the greatest.
pub record Label (rest : List ℕ) (r : ℕ) : Type 0 where
  pub is : r ≡ first_label document01 rest
  pub small : r ≤ GREATEST

-- ---- the course, from the node s with what is left of an identifier

module _ (last : ℕ) (t : Table) (s : ℕ) (rest : List ℕ) (row : ℕ) where
  -- The label's cell is unused, and each further label gets its placed base.
  abbrev pub growth : Course
  growth = grow last t.cells t.size s (first_label document01 rest) (further_labels document01 rest) row

-- The base placed for the first label alone, if the cell to which it then leads is not past the last.
abbrev pub placed_first : ℕ → Table → List ℕ → Option ℕ
placed_first last t rest =
    let c = first_label document01 rest in
    let q = placed (used t.cells) t.size (c ∷ []) in
    cond (leb (q + c) last) (Some q) None

-- ---- what is asked

-- That the cell to which the first label leads from the node s be claimed: an unused one.
pub record Leads (base check : List ℤ) (s : ℕ) (rest : List ℕ) (t : Table) : Type 0 where
  pub shown : Shown base check t
  pub some : 1 ≤ s
  pub inside : s ≤ t.size
  pub based : 1 ≤ (t.cells s).base
  pub unused : used t.cells ((t.cells s).base + first_label document01 rest) ≡ false
  pub fits : (t.cells s).base + first_label document01 rest ≤ last_cell base

-- That the rest of an identifier grow from the node s.
pub record Grows (base check : List ℤ) (s : ℕ) (rest : List ℕ) (row : ℕ) (t : Table) : Type 0 where
  pub leads : Leads base check s rest t
  pub row_is : is_row row ≡ true

-- That the cell u become free and the size fall to n.
pub record Retracts (base check : List ℤ) (u n : ℕ) (t : Table) : Type 0 where
  pub shown : Shown base check t
  pub far : 2 ≤ u
  pub parent : 1 ≤ (t.cells u).parent
  pub some : 1 ≤ n
  pub less : n ≤ t.size
  pub past : (v : ℕ) → n < v → v ≢ u → used t.cells v ≡ false

-- ---- what is left

-- The first label leads to the cell u, which is a child of s.
pub record Begun (s : ℕ) (rest : List ℕ) (t : Table) (u : ℕ) (base check : List ℤ) : Type 0 where
  pub cell_is : u ≡ (t.cells s).base + first_label document01 rest
  pub shown : Shown base check (claimed t u s)

-- The table without the cell u, of size n.
abbrev pub retracted : Table → ℕ → ℕ → Table
retracted t u n = sized (holding t u free) n

-- What a course that began with t leaves: its table where each placement fits, otherwise t.
abbrev pub leaves : Course → Table → Table
leaves course t = cond course.fitted course.table t

-- What is said of a course: nothing where each placement fits, otherwise NO ROOM.
abbrev pub room : Bool → Result (Unit {0}) Refusal
room fitted = cond fitted (Ok tt) (Err NoRoom)

-- Whether the course fits, and the rendering of what it leaves.
pub record Grown (course : Course) (t : Table) (r : Result (Unit {0}) Refusal) (base check : List ℤ) : Type 0 where
  pub fitted : r ≡ room course.fitted
  pub left : Shown base check (leaves course t)
