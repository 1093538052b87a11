-- The plain method of demand 3. Its table has the same size and the same used cells; check[0] and both numbers of every free
-- cell are 0. It finds each placed base by trying 1, 2, 3 and upward, as every command in `Commands` does; its calls
-- are those of `Calls` at this kind of table.
use Rattle.std.specs.Prelude.{Bool, ◌&&◌, ◌||◌, List, length, ℤ}
use Rattle.rules.specs.Ranges.{each_to}
use Rattle.rules.specs.WhatTheIndexDoes.{Profile}
use Rattle.rules.specs.ASoundTable.{holds, size_at, used_at, rule1, rule4, rule5, rule6, rule7}
use Rattle.rules.specs.Rendering.{Kind, render_check, read_table}

module _ (base check : List ℤ) where
  -- Where rule 2 speaks of free cells: both numbers of every cell up to the size that is not used are 0.
  unfoldable pub plain_rule2 : Bool
  plain_rule2 = each_to (size_at base) (λ t. used_at base check t || (holds base t 0 && holds check t 0))

  -- Where rule 3 speaks of check[0]: it is 0.
  unfoldable pub plain_rule3 : Bool
  plain_rule3 = holds check 0 0

-- Its audit: the rules, with those two in the place of rules 2 and 3.
unfoldable pub plain_sound : Profile → List ℤ → List ℤ → Bool
plain_sound P base check =
    rule1 base check
    && (plain_rule2 base check
    && (plain_rule3 base check
    && (rule4 P base check && (rule5 P base check && (rule6 P base check && rule7 P base check)))))

-- The plain method's kind of table: no link anywhere.
abbrev pub plain : Kind
plain = record { link = λ t i. 0; audit = plain_sound }

-- The check array with the chain blanked, where the plain method starts.
unfoldable pub blanked : Profile → List ℤ → List ℤ → List ℤ
blanked P base check = render_check plain P (length base) (read_table base check)
