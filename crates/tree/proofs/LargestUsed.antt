-- The largest used cell: it is used, no used cell is larger, and a tree's size can be cut down to it. Assumes nothing.
use mathlib.Core.Path.{◌≡◌, refl, sym, ap, ◌∙◌}
use mathlib.Core.Logic.{◌≢◌}
use mathlib.Core.Bool.{true, true≢false}
use Prim.Native.Nat.{ℕ, zero, suc, ◌≤◌, ◌<◌, max}
use native.Mathlib.Omega.{arith}
use Rattle.rules.specs.WhatTheIndexDoes.{Profile}
use Rattle.rules.specs.Table.{Cells, used, largest_used}
use Rattle.rules.proofs.Choices.{branch}
use Rattle.tree.specs.Soundness.{Tree}
use Rattle.tree.proofs.UsedCells.{parent_used, other_parent}
use Rattle.tree.proofs.Trees.{tree_sized}

module _ (T : Cells) where
  pub largest_pos : (k : ℕ) → 1 ≤ largest_used T k
  unfolding largest_used
  largest_pos zero = omega arith
  largest_pos (suc k) = branch (λ (m : ℕ). 1 ≤ m) (used T (suc k)) (λ e. omega arith) (λ e. largest_pos k)

  largest_most : (k : ℕ) → largest_used T k ≤ max 1 k
  unfolding largest_used
  largest_most zero = omega arith
  largest_most (suc k) = branch (λ (m : ℕ). m ≤ max 1 (suc k)) (used T (suc k)) (λ e. omega arith) (λ e. omega (arith, largest_most k))

  pub largest_low : (k : ℕ) → 1 ≤ k → largest_used T k ≤ k
  largest_low k h = omega (arith, largest_most k)

  pub largest_high : (k t : ℕ) → used T t ≡ true → t ≤ k → t ≤ largest_used T k
  unfolding largest_used
  largest_high zero t u h = omega arith
  largest_high (suc k) t u h = branch (λ (m : ℕ). t ≤ m) (used T (suc k)) (λ e. h) (λ e.
      let d : t ≢ suc k = (λ f. true≢false (sym u ∙ ap (used T) f ∙ e)) in
      largest_high k t u (omega arith))

  pub largest_used_lem : (k : ℕ) → used T (largest_used T k) ≡ true
  unfolding largest_used used
  largest_used_lem zero = refl
  largest_used_lem (suc k) = branch (λ (m : ℕ). used T m ≡ true) (used T (suc k)) (λ e. e) (λ e. largest_used_lem k)

  pub largest_parent : (k : ℕ) → 1 < largest_used T k → 1 ≤ (T (largest_used T k)).parent
  largest_parent k h = other_parent T (largest_used T k) (λ e. omega arith) (largest_used_lem k)

  pub largest_again : (k : ℕ) → largest_used T (largest_used T k) ≡ largest_used T k
  largest_again k =
      let m = largest_used T k in
      omega (arith, largest_low m (largest_pos k), largest_high m m (largest_used_lem k) (omega arith))

module _ {P : Profile} {T : Cells} {size : ℕ} where
  pub trimmed_tree : Tree P T size → Tree P T (largest_used T size)
  trimmed_tree w = tree_sized w (largest_used T size) (largest_pos T size)
      (λ t h. largest_high T size t (parent_used T t h) (w.inside t h))
