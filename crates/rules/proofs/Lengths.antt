-- Arrays of the right lengths have one length, from 2 to 65,536. Assumes nothing.
use mathlib.Core.Path.{◌≡◌}
use mathlib.Core.Bool.{true}
use mathlib.Core.List.{List}
use Prim.Native.Nat.{◌≤◌}
use lib.ListN.{length}
use lib.IntN.{ℤ}
use lib.Dec.{eqb}
use borrow.Author.Tests.{eqb-true}
use Rattle.rules.specs.WhatTheIndexDoes.{right_lengths}
use Rattle.rules.proofs.Choices.{both}
use Rattle.rules.proofs.Ranges.{within_is}

module _ (base check : List ℤ) (e : right_lengths base check ≡ true) where
  pub lengths_same : length base ≡ length check
  unfolding right_lengths
  lengths_same = eqb-true _ _ (both (eqb (length base) (length check)) _ e).0

  pub lengths_within : (2 ≤ length base) × (length base ≤ 65536)
  unfolding right_lengths
  lengths_within = within_is 2 65536 (length base) (both (eqb (length base) (length check)) _ e).1
