-- What the parts of a deletion are asked.
use Rattle.std.specs.Prelude.{◌≡◌, true, List, map, reverse, ℕ, ◌≤◌, ℤ}
use Rattle.rules.specs.WhatTheIndexDoes.{code_of, document01, is_identifier}
use Rattle.rules.specs.Table.{Table, node, lookup}
use Rattle.rules.specs.ASoundTable.{sound}
use Rattle.tree.specs.Soundness.{Sound}
use Rattle.cells.specs.Edits.{Shown}

-- That an identifier be deleted from a table known to be sound.
pub record Deletes (base check : List ℤ) (key : List ℕ) : Type 0 where
  pub whole : sound document01 base check ≡ true
  pub identifier : is_identifier document01 key ≡ true

-- That a live identifier be removed, whose characters lead to s.
pub record Removes (base check : List ℤ) (s : ℕ) (key : List ℕ) (t : Table) : Type 0 where
  pub shown : Shown base check t
  pub whole : Sound document01 t
  pub live : 1 ≤ lookup document01 t.cells key
  pub node_is : node t.cells (reverse (map code_of key)) ≡ s
