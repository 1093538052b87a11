-- A number of which 0 is none, as the option that the program hands on.
use Rattle.std.specs.Prelude.{ℕ, zero, suc, Option, Some, None}
use Rattle.rules.specs.declared.Cell.{Cell}
use Rattle.rules.specs.declared.Row.{Row}

abbrev pub some_number : ℕ → Option ℕ
some_number zero = None
some_number (suc n) = Some (suc n)

abbrev pub some_cell : ℕ → Option Cell
some_cell zero = None
some_cell (suc n) = Some (record { 0 = suc n })

abbrev pub some_row : ℕ → Option Row
some_row zero = None
some_row (suc n) = Some (record { 0 = suc n })
