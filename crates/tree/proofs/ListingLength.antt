-- A listing has at most one line's greatest length for each cell, so there is a room that is always enough. Assumes nothing.
use mathlib.Core.Path.{◌≡◌, ap}
use mathlib.Core.Logic.{◌⊎◌, inl, inr}
use mathlib.Core.List.{List}
use Prim.Native.Nat.{ℕ, ◌+◌, ◌*◌, ◌≤◌}
use native.Mathlib.Omega.{arith}
use lib.ListN.{length}
use lib.Dec.{ltb}
use Rattle.numbers.proofs.Cases.{some?}
use Rattle.rules.specs.WhatTheIndexDoes.{Profile}
use Rattle.rules.specs.Table.{Table, node}
use Rattle.rules.specs.Listing.{listing}
use Rattle.rules.proofs.Choices.{branch}
use Rattle.tree.specs.Soundness.{Sound}
use Rattle.tree.proofs.Trees.{row_pos, one_path}
use Rattle.tree.proofs.Sums.{sum_most}
use Rattle.tree.proofs.LeafByLeaf.{leaf_path, listing_sum}

module _ {P : Profile} {t : Table} (w : Sound P t) where
  -- A cell is a leaf or not.
  abbrev Leaf? : ℕ → Type 0
  Leaf? u = ((t.cells u).row ≡ 0) ⊎ (1 ≤ (t.cells u).row)

  -- The length of a leaf's line, told by the path to it.
  abbrev line : (u : ℕ) → Leaf? u → ℕ
  line u (inl z) = 0
  line u (inr h) = 9 + 2 * length (leaf_path w u h).0

  line_is : (u : ℕ) (l : Leaf? u) (p : List ℕ) → node t.cells p ≡ u → 1 ≤ (t.cells u).row → line u l ≡ 9 + 2 * length p
  line_is u (inl z) p e h = absurd (omega arith)
  line_is u (inr k) p e h =
      let (q, f, _) = leaf_path w u k in
      ap (λ (x : List ℕ). 9 + 2 * length x) (one_path w.tree q p f e (row_pos w.tree u h))

  line_most : (u : ℕ) (l : Leaf? u) → line u l ≤ 11 + 2 * P.limit
  line_most u (inl z) = omega arith
  line_most u (inr h) = omega (arith, (leaf_path w u h).2)

  pub listing_most : length (listing P t.cells) ≤ (11 + 2 * P.limit) * t.size
  listing_most =
      let f : ℕ → ℕ = λ u. line u (some? (t.cells u).row) in
      rw (listing_sum w f (λ p u. line_is u (some? (t.cells u).row) p)) (sum_most t.size (11 + 2 * P.limit) _ (λ u _ _.
      branch (λ (x : ℕ). x ≤ 11 + 2 * P.limit) (ltb 0 (t.cells u).row) (λ _. line_most u (some? (t.cells u).row)) (λ _. omega arith)))
