-- What a walk along an identifier comes to: the row that is found. Assumes nothing.
use Rattle.std.proofs.Common.{◌≡◌, ap, ◌∙◌, refl, Option}
use Rattle.rules.specs.declared.Row.{Row}
use Rattle.rules.specs.Options.{some_row}
use mathlib.Core.List.{List, map}
use Prim.Native.Nat.{ℕ, zero, suc}
use lib.ListN.{length}
use lib.IntN.{ℤ}
use Rattle.rules.specs.WhatTheIndexDoes.{code_of, document01}
use Rattle.rules.specs.Finding.{Reached, walk_at, leaf_after, leaf_at, row_of, row_found}
use native.Mathlib.Omega.{arith}
use borrow.Author.Tests.{lt-ltb}
use Rattle.finding.specs.Reaching.{Reaches, found_in}
use Rattle.rules.specs.Answers.{found_or_absent}

pub reached_is : {w : Reached} {cell met : ℕ} → Reaches w cell met → record { cell = cell; met = met } ≡ w
reached_is r = λ i. record { cell = r.cell_is i; met = r.met_is i }

pub row_reached : (base check : List ℤ) (key : List ℕ) {cell met : ℕ} {row : Option Row} → Reaches (walk_at base check 1 (map code_of key)) cell met →
    row ≡ some_row (row_of base (leaf_after base check (length key) (record { cell = cell; met = met }))) →
    row ≡ some_row (row_found base check document01 key)
unfolding row_found leaf_at
row_reached base check key w is = is ∙ ap (λ v. some_row (row_of base (leaf_after base check (length key) v))) (reached_is w)

pub found_absent : (n : ℕ) → found_in (some_row n) ≡ found_or_absent n
found_absent zero = refl
found_absent (suc n) = rw (lt-ltb 0 (suc n) (omega arith))
