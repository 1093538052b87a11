-- Compaction step by step: a step moves once, to a smaller base, or changes no cell; steps are taken until n moves are made or one
-- moves nothing. Assumes nothing.
use mathlib.Core.Path.{◌≡◌, refl}
use mathlib.Core.Logic.{◌≢◌, ◌↔◌, ⊎_elim}
use Prim.Native.Nat.{ℕ, zero, suc, ◌≤◌, ◌<◌}
use native.Mathlib.Omega.{arith}
use lib.Dec.{eqb}
use borrow.Author.Tests.{eqb-true, eq-eqb, ne_eqb}
use Rattle.numbers.proofs.Cases.{same?}
use Rattle.rules.specs.WhatTheIndexDoes.{Profile}
use Rattle.rules.specs.Table.{Table}
use Rattle.rules.specs.Insertion.{relocate}
use Rattle.rules.specs.DeletionAndCompaction.{Moves, trimmed, compaction_step, compaction_steps, compacted}
use Rattle.rules.proofs.Choices.{branch, not_zero}
use Rattle.tree.specs.StepsTaken.{after, owner, target, Lowers, Taken}
use Rattle.tree.proofs.Compaction.{step_cases}

module _ (P : Profile) where
  -- ---- one step

  module _ (t : Table) where
    pub step_once : (compaction_step P t).count ≤ 1
    step_once = step_cases P t (λ m. m.count ≤ 1) (λ _. omega arith) (λ _. omega arith)

    -- A step moves exactly if that lowers the base.
    pub step_lowers : ((compaction_step P t).count ≡ 1) ↔ Lowers P t
    step_lowers = (
      step_cases P t (λ m. m.count ≡ 1 → Lowers P t) (λ l _. l) (λ _ e. absurd (omega arith)),
      step_cases P t (λ m. Lowers P t → m.count ≡ 1) (λ _ _. refl) (λ d l. absurd (d l)),
    )

    -- What then moves, and that nothing else does.
    pub step_moves : (compaction_step P t).count ≡ 1 → (compaction_step P t).table.cells ≡ relocate t.cells (owner P t) (target P t)
    unfolding trimmed
    step_moves = step_cases P t (λ m. m.count ≡ 1 → m.table.cells ≡ relocate t.cells (owner P t) (target P t)) (λ _ _. refl) (λ _ e. absurd (omega arith))

    pub step_stays : (compaction_step P t).count ≡ 0 → (compaction_step P t).table.cells ≡ t.cells
    unfolding trimmed
    step_stays = step_cases P t (λ m. m.count ≡ 0 → m.table.cells ≡ t.cells) (λ _ e. absurd (omega arith)) (λ _ _. refl)

  -- ---- many steps

  -- With a step that moves nothing they end; after one that moves they go on from where it leads.
  pub steps_ended : (n : ℕ) (t : Table) → (compaction_step P t).count ≡ 0 → compaction_steps P (suc n) t ≡ compaction_step P t
  unfolding compaction_steps
  steps_ended n t z = rw (eq-eqb _ _ z)

  pub steps_onward : (n : ℕ) (t : Table) → (compaction_step P t).count ≢ 0 → let rest = compaction_steps P n (compaction_step P t).table in
      compaction_steps P (suc n) t ≡ record { table = rest.table; count = suc rest.count }
  unfolding compaction_steps
  steps_onward n t d = rw (ne_eqb _ _ d)

  -- The first step moves nothing.
  stops : (n : ℕ) (t : Table) → (compaction_step P t).count ≡ 0 → Taken P (suc n) t (compaction_step P t)
  unfolding after
  stops n t z = record {
    most = omega arith;
    each = λ i h. absurd (omega arith);
    full = λ e. absurd (omega arith);
    stopped = λ h. rw z z;
    early = λ h. rw z;
  }

  -- The first step moves, and the others are taken from where it leads.
  goes_on : (n : ℕ) (t : Table) (m : Moves) → 1 ≤ (compaction_step P t).count → Taken P n (compaction_step P t).table m →
      Taken P (suc n) t (record { table = m.table; count = suc m.count })
  unfolding after
  goes_on n t m h k = record {
    most = omega (arith, k.most);
    each = each;
    full = λ e. k.full (omega arith);
    stopped = λ l. k.stopped (omega arith);
    early = λ l. k.early (omega arith);
  }
    where
      each : (i : ℕ) → i < suc m.count → (compaction_step P (after P i t)).count ≡ 1
      each zero l = omega (arith, step_once t)
      each (suc i) l = k.each i (omega arith)

  steps_taken : (n : ℕ) (t : Table) → Taken P n t (compaction_steps P n t)
  unfolding compaction_steps after
  steps_taken zero t = record {
    most = omega arith;
    each = λ i h. absurd (omega arith);
    full = λ e. refl;
    stopped = λ h. absurd (omega arith);
    early = λ h. absurd (omega arith);
  }
  steps_taken (suc n) t = branch (Taken P (suc n) t) (eqb (compaction_step P t).count 0)
      (λ e. stops n t (eqb-true _ _ e)) (λ e. goes_on n t _ (not_zero _ e) (steps_taken n (compaction_step P t).table))

  -- Fewer than n moves are made exactly if, before n are, a step moves nothing.
  fewer_exactly : (n : ℕ) (t : Table) →
      ((compaction_steps P n t).count < n) ↔ ((i : ℕ) × (i < n) × ((compaction_step P (after P i t)).count ≡ 0))
  fewer_exactly n t = (λ h. ((compaction_steps P n t).count, h, k.stopped h), fewer)
    where
      k : Taken P n t (compaction_steps P n t)
      k = steps_taken n t

      fewer : (i : ℕ) × (i < n) × ((compaction_step P (after P i t)).count ≡ 0) → (compaction_steps P n t).count < n
      fewer (i, h, z) = ⊎_elim
          (λ e. absurd (omega (arith, k.each i (omega arith)))) (λ d. omega (arith, k.most)) (same? (compaction_steps P n t).count n)

  -- ---- compaction, which starts from the trimmed table

  pub compacted_taken : (n : ℕ) (t : Table) → Taken P n (trimmed t.cells t.size) (compacted P n t)
  unfolding compacted
  compacted_taken n t = steps_taken n (trimmed t.cells t.size)

  pub compacted_fewer : (n : ℕ) (t : Table) →
      ((compacted P n t).count < n) ↔ ((i : ℕ) × (i < n) × ((compaction_step P (after P i (trimmed t.cells t.size))).count ≡ 0))
  unfolding compacted
  compacted_fewer n t = fewer_exactly n (trimmed t.cells t.size)
