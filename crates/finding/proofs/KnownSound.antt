-- A walk along an identifier in a table known to be sound: the row found is the table's, and the walk to it stops at the node to which
-- the characters lead. Assumes nothing.
use Rattle.std.proofs.Common.{◌≡◌, sym, ap, ◌∙◌, Option, Some, None, arith}
use mathlib.Core.Bool.{true}
use mathlib.Core.List.{List, map, reverse}
use Prim.Native.Nat.{ℕ, ◌≤◌}
use lib.ListN.{length}
use lib.IntN.{ℤ}
use Rattle.rules.specs.WhatTheIndexDoes.{code_of, document01, coded, is_identifier, right_lengths}
use Rattle.rules.specs.Table.{node, lookup}
use Rattle.rules.specs.Options.{some_row}
use Rattle.rules.specs.declared.Row.{Row}
use Rattle.rules.specs.ASoundTable.{sound}
use Rattle.rules.specs.Rendering.{read_cells}
use Rattle.rules.proofs.Lengths.{lengths_within}
use Rattle.tree.proofs.Identifiers.{identifier_coded}
use Rattle.tree.proofs.SevenRules.{rules_render}
use Rattle.tree.proofs.Finding.{reached_node, found_row}
use Rattle.finding.specs.Reaching.{LooksUp}
use Rattle.finding.proofs.Options.{row_none, row_some}

module _ (base check : List ℤ) (whole : sound document01 base check ≡ true) where
  rightly : right_lengths base check ≡ true
  rightly = (rules_render document01 base check whole).lengths

  -- What arrays that can hold a table are asked.
  pub enough : 2 ≤ length base
  enough = (lengths_within base check rightly).0

  pub few : length base ≤ 65536
  few = (lengths_within base check rightly).1

  module _ (key : List ℕ) (identifier : is_identifier document01 key ≡ true) {cell met : ℕ} {row : Option Row}
      (l : LooksUp base check key cell met row) where
    coded_key : coded document01 key ≡ true
    coded_key = identifier_coded document01 key identifier

    -- The row looked up is the table's.
    pub row_held : row ≡ some_row (lookup document01 (read_cells base check) key)
    row_held = l.row_is coded_key ∙ ap some_row (found_row document01 base check whole key coded_key)

    pub none_held : row ≡ None → lookup document01 (read_cells base check) key ≡ 0
    none_held e = row_none (sym e ∙ row_held)

    module _ {n : Row} (e : row ≡ Some n) where
      pub some_held : lookup document01 (read_cells base check) key ≡ n.0
      some_held = sym (row_some (sym e ∙ row_held)).0

      pub held_some : 1 ≤ n.0
      held_some = (row_some (sym e ∙ row_held)).1

      pub node_held : node (read_cells base check) (reverse (map code_of key)) ≡ cell
      node_held =
          let found = row_some (sym e ∙ l.row_is coded_key) in
          reached_node (rules_render document01 base check whole) key coded_key (omega (arith, found.0, found.1)) ∙ sym (l.walked.reaches coded_key).cell_is
