-- What a tidy table holds past its size: nothing; and a cell with a base is used. Assumes nothing.
use mathlib.Core.Path.{◌≡◌, ap}
use mathlib.Core.Logic.{inl, ⊎_elim}
use mathlib.Core.Bool.{true, false}
use Prim.Native.Nat.{ℕ, ◌≤◌, ◌<◌}
use native.Mathlib.Omega.{arith}
use Rattle.numbers.proofs.Cases.{some?}
use Rattle.rules.specs.Table.{Table, free, used}
use Rattle.tree.specs.Renders.{Tidy}
use Rattle.tree.proofs.UsedCells.{is_used, parent_used, parentless_unused, unused_other, unused_parent, by_use}

module _ {t : Table} (w : Tidy t) where
  pub tidy_past_free : (u : ℕ) → t.size < u → t.cells u ≡ free
  tidy_past_free u h = w.blank u (λ e. omega (arith, w.some))
      (⊎_elim (λ z. z) (λ p. absurd (omega (arith, w.inside u p))) (some? (t.cells u).parent))

  pub tidy_past : (u : ℕ) → t.size < u → used t.cells u ≡ false
  tidy_past u h = parentless_unused t.cells u (λ e. omega (arith, w.some)) (ap (λ x. x.parent) (tidy_past_free u h))

  pub tidy_based : (u : ℕ) → 1 ≤ (t.cells u).base → used t.cells u ≡ true
  tidy_based u h = by_use t.cells u (λ e. is_used t.cells u (inl e)) (λ d. parent_used t.cells u)
      (λ f. absurd (omega (arith, ap (λ x. x.base) (w.blank u (unused_other t.cells u f) (unused_parent t.cells u f)))))
