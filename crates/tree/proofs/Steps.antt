-- The step from a cell to its child as a relation, and the two ways of walking. No later law opens `next`, but for a
-- computed example. Assumes nothing.
use mathlib.Core.Path.{◌≡◌, refl, sym, ap, ◌∙◌}
use mathlib.Core.Logic.{◌≢◌, ◌⊎◌, inl, inr, ⊎_elim}
use mathlib.Core.Bool.{and-false}
use mathlib.Core.List.{List, [], ◌∷◌, reverse, reverse_aux}
use Prim.Native.Nat.{ℕ, zero, suc, ◌+◌, ◌≤◌}
use native.Mathlib.Omega.{arith}
use borrow.Author.Tests.{lt-ltb, le-ltb, eq-eqb, ne_eqb}
use Rattle.numbers.proofs.Cases.{same?, some?}
use Rattle.rules.specs.WhatTheIndexDoes.{Profile, labels}
use Rattle.rules.specs.Table.{Cells, free, next, walk, node, lookup}
use Rattle.tree.specs.Soundness.{Step, row_at}

module _ (T : Cells) where
  -- A number that has a parent or a base is a cell.
  pub parent_cell : T 0 ≡ free → (t : ℕ) → 1 ≤ (T t).parent → 1 ≤ t
  parent_cell z zero h = absurd (omega (arith, ap (λ x. x.parent) z))
  parent_cell z (suc t) h = omega arith

  pub base_cell : T 0 ≡ free → (s : ℕ) → 1 ≤ (T s).base → 1 ≤ s
  base_cell z zero h = absurd (omega (arith, ap (λ x. x.base) z))
  base_cell z (suc s) h = omega arith

  pub step_next : {s c t : ℕ} → Step T s c t → next T s c ≡ t
  unfolding next
  step_next {s} {c} {t} p =
      let e : (T ((T s).base + c)).parent ≡ s = rw p.at at p.back in
      rw (lt-ltb _ _ p.based, eq-eqb _ _ e) (sym p.at)

  -- A label leads on by a step, or nowhere.
  pub step? : (s c : ℕ) → Step T s c (next T s c) ⊎ (next T s c ≡ 0)
  unfolding next
  step? s c = go (some? (T s).base) (same? (T ((T s).base + c)).parent s)
    where
      go : ((T s).base ≡ 0) ⊎ (1 ≤ (T s).base) → ((T ((T s).base + c)).parent ≡ s) ⊎ ((T ((T s).base + c)).parent ≢ s) →
          Step T s c (next T s c) ⊎ (next T s c ≡ 0)
      go (inl e) k = inr (rw (le-ltb 0 (T s).base (omega arith)))
      go (inr h) (inl e) = inl (rw (lt-ltb _ _ h, eq-eqb _ _ e) (record { based = h; at = refl; back = e }))
      go (inr h) (inr d) = inr (rw (ne_eqb _ _ d, and-false))

  pub next_step : {s c : ℕ} → 1 ≤ next T s c → Step T s c (next T s c)
  next_step {s} {c} h = ⊎_elim (λ p. p) (λ e. absurd (omega arith)) (step? s c)

  -- The last step of a path.
  pub last_step : (c : ℕ) (path : List ℕ) {t : ℕ} → node T (c ∷ path) ≡ t → 1 ≤ t → Step T (node T path) c t
  unfolding node
  last_step c path e h = rw e at (next_step {s = node T path} {c = c} (rw e h))

  -- A cell without a base leads nowhere.
  pub next_baseless : (s c : ℕ) → (T s).base ≡ 0 → next T s c ≡ 0
  next_baseless s c z = ⊎_elim (λ p. absurd (omega (arith, p.based))) (λ e. e) (step? s c)

  -- The two ways of walking.
  pub walk_node : (cs path : List ℕ) → walk T (node T path) cs ≡ node T (reverse_aux cs path)
  unfolding walk node
  walk_node [] path = refl
  walk_node (c ∷ cs) path = walk_node cs (c ∷ path)

  pub lookup_row : (P : Profile) (key : List ℕ) → lookup P T key ≡ row_at T (reverse (labels P key))
  unfolding lookup node
  lookup_row P key = ap (λ (t : ℕ). (T t).row) (walk_node (labels P key) [])

-- Lookups are the same where rows are.
pub lookup_same : (T R : Cells) (P : Profile) (key : List ℕ) → row_at R (reverse (labels P key)) ≡ row_at T (reverse (labels P key)) →
    lookup P R key ≡ lookup P T key
lookup_same T R P key e = lookup_row R P key ∙ e ∙ sym (lookup_row T P key)
