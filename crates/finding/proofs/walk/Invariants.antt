-- `walk` walks along the text. The loop's invariant: the walk along what is left, after the characters met, is the walk along the whole,
-- and the whole has codes exactly if what is left has. Assumes nothing.
use Rattle.std.proofs.Common.{◌≡◌, ℕ, ◌+◌, List, map, drop}
use Rattle.std.specs.Prelude.{ℤ}
use Rattle.rules.specs.WhatTheIndexDoes.{code_of, document01, coded}
use Rattle.rules.specs.Finding.{walk_at}
use Rattle.finding.specs.Reaching.{IsCell, Reaches}
use Rattle.finding.proofs.walk.Given as goal

-- The cell s is reached after n characters of key: what the walk from there along the others reaches is what the walk along all of key
-- does, and the characters before them have codes.
pub record Underway (base check : List ℤ) (key : List ℕ) (s n : ℕ) : Type 0 where
  pub inside : IsCell base s
  pub left : coded document01 (drop n key) ≡ coded document01 key
  pub reaches : let on = walk_at base check s (map code_of (drop n key)) in Reaches (walk_at base check 1 (map code_of key)) on.cell (n + on.met)

abbrev pub invariant-loop-met : goal.invariant-loop-met
invariant-loop-met l = Underway l.arrays.base.now l.arrays.check.now l.key l.cell.0 l.met
