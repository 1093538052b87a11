-- A cell is used if it is the root or has a parent. Assumes nothing.
use mathlib.Core.Path.{◌≡◌, sym, ◌∙◌}
use mathlib.Core.Logic.{◌≢◌, ◌⊎◌, ⊎_elim}
use mathlib.Core.Bool.{true, false, true≢false, or-true}
use Prim.Native.Nat.{ℕ, ◌≤◌}
use native.Mathlib.Omega.{arith}
use borrow.Author.Tests.{lt-ltb, le-ltb, eq-eqb, ne_eqb, ltb-true}
use Rattle.numbers.proofs.Cases.{same?, some?}
use Rattle.rules.specs.Table.{Cells, used}

module _ (T : Cells) (i : ℕ) where
  pub parent_used : 1 ≤ (T i).parent → used T i ≡ true
  unfolding used
  parent_used h = rw (lt-ltb 0 (T i).parent h, or-true)

  pub is_used : (i ≡ 1) ⊎ (1 ≤ (T i).parent) → used T i ≡ true
  unfolding used
  is_used = ⊎_elim (λ e. rw (eq-eqb i 1 e)) parent_used

  pub parentless_unused : i ≢ 1 → (T i).parent ≡ 0 → used T i ≡ false
  unfolding used
  parentless_unused d z = rw (ne_eqb i 1 d, le-ltb 0 (T i).parent (omega arith))

  pub other_parent : i ≢ 1 → used T i ≡ true → 1 ≤ (T i).parent
  unfolding used
  other_parent d e = ltb-true 0 (T i).parent (rw (ne_eqb i 1 d) at e)

  pub unused_parent : used T i ≡ false → (T i).parent ≡ 0
  unused_parent e = ⊎_elim (λ z. z) (λ u. absurd (true≢false (sym (parent_used u) ∙ e))) (some? (T i).parent)

  -- The root is used in any case.
  pub unused_other : used T i ≡ false → i ≢ 1
  unfolding used
  unused_other h e = true≢false (rw (eq-eqb i 1 e) at h)

  -- The three cases of a cell: the root, another used cell, one that is not used.
  pub by_use : {A : Type 0} → (i ≡ 1 → A) → (i ≢ 1 → 1 ≤ (T i).parent → A) → (used T i ≡ false → A) → A
  by_use f g h = ⊎_elim f (λ d. ⊎_elim (λ z. h (parentless_unused d z)) (g d) (some? (T i).parent)) (same? i 1)
